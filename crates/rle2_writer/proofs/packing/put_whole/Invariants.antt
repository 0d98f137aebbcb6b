use Rattle.std.proofs.Common.{◌≡◌, ◌++◌, ℕ, List}
use Rattle.rle2_writer.specs.Packs.{IsSplit}
use Rattle.rle2_writer.proofs.packing.put_whole.Given as goal

abbrev pub invariant-loop-bits : goal.invariant-loop-bits
invariant-loop-bits l = (bytes : List ℕ) × (l.out.items ≡ l.initial.out.items ++ bytes) × IsSplit bytes l.held l.bits l.number l.total

abbrev pub decreases-loop-bits : goal.decreases-loop-bits
decreases-loop-bits l = l.bits

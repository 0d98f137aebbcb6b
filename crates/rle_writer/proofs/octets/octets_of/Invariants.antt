use Rattle.std.proofs.Common.{◌≡◌, ◌++◌, length}
use Rattle.orc_rle.specs.BitRun.{bits_of}
use Rattle.rle_writer.proofs.octets.octets_of.Given as goal

abbrev pub invariant-loop-eight : goal.invariant-loop-eight
invariant-loop-eight l = l.flags ≡ bits_of l.octets.items ++ l.rest

abbrev pub decreases-loop-eight : goal.decreases-loop-eight
decreases-loop-eight l = length l.rest

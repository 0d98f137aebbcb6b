use Rattle.std.proofs.Common.{◌≡◌, ℕ, ◌+◌, ◌*◌, ◌<◌, get_or, pos}
use Rattle.orc_integers.specs.Integers.{integer}
use Rattle.orc_rle2.specs.Packed.{bits_to}
use Rattle.orc_rle2.proofs.packed.unpack_few.Given as goal

abbrev pub invariant-loop-i : goal.invariant-loop-i
invariant-loop-i l = (k : ℕ) → k < l.i → get_or l.into k (pos 0) ≡ integer l.signed (bits_to l.bytes l.width (l.width * (k + 1)))

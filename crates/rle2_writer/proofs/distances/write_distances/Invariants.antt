use Rattle.std.proofs.Common.{◌≡◌, ◌+◌, take, map, get_or, pos}
use Rattle.std.specs.Int.{cast_signed, w64}
use Rattle.orc_rle2.specs.Integers.{sums, with_sign}
use Rattle.rle2_writer.proofs.distances.write_distances.Given as goal

abbrev pub invariant-loop-i : goal.invariant-loop-i
invariant-loop-i l = sums (get_or l.values 0 (pos 0)) (map (with_sign (cast_signed w64 l.step)) (take l.i l.into)) ≡ take (l.i + 1) l.values

use Rattle.std.proofs.Common.{◌≡◌, take, map}
use Rattle.orc_integers.specs.Integers.{integer}
use Rattle.rle2_writer.proofs.numbers.write_numbers.Given as goal

abbrev pub invariant-loop-i : goal.invariant-loop-i
invariant-loop-i l = map (integer l.signed) (take l.i l.into) ≡ take l.i l.values

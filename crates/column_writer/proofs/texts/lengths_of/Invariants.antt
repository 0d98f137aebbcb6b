use Rattle.std.proofs.Common.{◌≡◌, length, map, take, pos}
use Rattle.column_writer.proofs.texts.lengths_of.Given as goal

abbrev pub invariant-loop-i : goal.invariant-loop-i
invariant-loop-i l = l.lens.items ≡ map (λ text. pos (length text)) (take l.i l.texts)

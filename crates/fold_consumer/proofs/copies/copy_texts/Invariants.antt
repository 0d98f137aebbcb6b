use Rattle.std.proofs.Common.{◌≡◌, take}
use Rattle.fold_consumer.proofs.copies.copy_texts.Given as goal

abbrev pub invariant-loop-row : goal.invariant-loop-row
invariant-loop-row l = l.copy ≡ take l.row l.texts

use Rattle.std.proofs.Common.{◌≡◌, take}
use Rattle.batch_masks.specs.Rows.{row_at}
use Rattle.fold_rows.specs.States.{picked}
use Rattle.fold_rows.proofs.picks.row_of.Given as goal

abbrev pub invariant-loop-pick : goal.invariant-loop-pick
invariant-loop-pick l = l.values.items ≡ picked (take l.pick l.places) (row_at l.columns l.row)

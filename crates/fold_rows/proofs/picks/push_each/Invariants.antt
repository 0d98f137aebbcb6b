use Rattle.std.proofs.Common.{◌≡◌, ◌≤◌, ◌++◌, length, map, take}
use Rattle.batch_masks.specs.Kept.{kept}
use Rattle.batch_masks.specs.Rows.{rows_of}
use Rattle.fold_rows.specs.Behind.{behind_each}
use Rattle.fold_rows.specs.States.{picked}
use Rattle.fold_rows.proofs.picks.push_each.Given as goal

abbrev pub invariant-loop-row : goal.invariant-loop-row
invariant-loop-row l = record {
  order : l.earlier ≤ l.row;
  befores : l.befores ≡ behind_each l.columns l.earlier l.places;
  rows : l.rows.items ≡ l.fn.rows.items ++ map (picked l.places) (kept (take l.row l.mask) (take l.row (rows_of (length l.mask) l.columns)));
}

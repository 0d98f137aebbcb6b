use Rattle.std.proofs.Common.{◌≡◌, ◌≤◌, take}
use Rattle.orc_values.specs.Column.{present_of}
use Rattle.orc_values.specs.Woven.{present_count}
use Rattle.group_counts.specs.Order.{value_cmp}
use Rattle.group_counts.specs.Tally.{added_all}
use Rattle.batch_masks.specs.Kept.{kept}
use Rattle.fold_rows.specs.States.{once}
use Rattle.fold_rows.proofs.kept.count_each.Given as goal

abbrev pub invariant-loop-row : goal.invariant-loop-row
invariant-loop-row l = record {
  few : l.before ≤ l.row;
  counted : l.before ≡ present_count (take l.row (present_of l.column));
  counts : added_all value_cmp l.now l.seen ≡ added_all value_cmp l.fn.counts (once (kept (take l.row l.mask) (take l.row l.column)));
}

use Rattle.std.proofs.Common.{◌≡◌, ◌+◌, take}
use Rattle.batch_masks.specs.Totals.{plus_all, SumOfFew}
use Rattle.batch_masks.proofs.whole.sum_wide.Given as goal

abbrev pub invariant-loop-row : goal.invariant-loop-row
invariant-loop-row l = record {
  sum : l.now ≡ plus_all l.sum (take l.row l.numbers);
  bound : SumOfFew (l.given + l.row) l.now;
}

use Rattle.std.proofs.Common.{◌≡◌, ◌+◌, take}
use Rattle.batch_masks.specs.Kept.{kept}
use Rattle.batch_masks.specs.Totals.{plus_all, SumOfFew}
use Rattle.batch_masks.proofs.total.sum_kept.Given as goal

abbrev pub invariant-loop-place : goal.invariant-loop-place
invariant-loop-place l = record {
  sum : l.now ≡ plus_all l.sum (kept (take l.place l.mask) (take l.place l.numbers));
  bound : SumOfFew (l.given + l.place) l.now;
}

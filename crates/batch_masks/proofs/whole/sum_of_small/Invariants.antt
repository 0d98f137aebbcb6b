use Rattle.std.proofs.Common.{◌≡◌, ◌+ℤ◌, ◌-◌, ◌*◌, ◌^◌, ◌<◌, ◌≤◌, take, pos}
use Rattle.batch_masks.specs.Totals.{plus_all}
use Rattle.batch_masks.proofs.whole.sum_of_small.Given as goal

abbrev pub invariant-loop-number : goal.invariant-loop-number
invariant-loop-number l = record {
  sum : l.seen < 2 ^ 53 → pos l.sum ≡ plus_all (pos 0) (take l.number-index l.numbers) +ℤ pos (2 ^ 52 * l.number-index);
  below : l.seen < 2 ^ 53 → l.sum ≤ (2 ^ 53 - 1) * l.number-index;
}

use Rattle.std.proofs.Common.{◌≤◌, ◌-◌, length}
use Rattle.orc_walk.proofs.stripes_walk.empty_batches.Given as goal

abbrev pub invariant-loop-alloc : goal.invariant-loop-alloc
invariant-loop-alloc l = length l.batches.items ≤ l.count

abbrev pub decreases-loop-alloc : goal.decreases-loop-alloc
decreases-loop-alloc l = l.count - length l.batches.items

use Rattle.std.proofs.Common.{◌-◌, ◌≤◌, length}
use Rattle.io_elevator.specs.Sound.{AreCutBy}
use Rattle.io_elevator.proofs.scratch.empty_streams.Given as goal

abbrev pub invariant-loop-alloc : goal.invariant-loop-alloc
invariant-loop-alloc g l = record { cut : AreCutBy l.chunk l.streams.items; few : length l.streams.items ≤ l.count }

abbrev pub decreases-loop-alloc : goal.decreases-loop-alloc
decreases-loop-alloc g l = l.count - length l.streams.items

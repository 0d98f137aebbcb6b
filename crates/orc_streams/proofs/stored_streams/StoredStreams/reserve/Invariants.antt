use Rattle.std.proofs.Common.{◌≡◌, ℕ, length, ◌+◌, ◌-◌}
use Rattle.orc_streams.specs.StoredStreams.{rest_of}
use Rattle.orc_streams.proofs.stored_streams.StoredStreams.reserve.Given as goal

abbrev pub invariant-loop-alloc : goal.invariant-loop-alloc
invariant-loop-alloc l = record { kept : (other : ℕ) → rest_of l.self other ≡ rest_of l.fn.self other }

abbrev pub decreases-loop-alloc : goal.decreases-loop-alloc
decreases-loop-alloc l = l.stream + 1 - length l.self.streams.items

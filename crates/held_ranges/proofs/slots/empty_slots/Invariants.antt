use Rattle.std.proofs.Common.{◌≡◌, ◌-◌, ◌≤◌, length}
use Rattle.buffer_pool.specs.Pools.{IsSeatOf}
use Rattle.held_ranges.specs.Moments.{AreEmpty}
use Rattle.range_cache.specs.Caches.{pool_of}
use Rattle.held_ranges.proofs.slots.empty_slots.Given as goal

abbrev pub invariant-loop-seat : goal.invariant-loop-seat
invariant-loop-seat g l =
    record {
      empty : AreEmpty l.slots.items;
      same : l.seat ≡ l.fn.seat;
      of_pool : IsSeatOf (pool_of l.cache) l.seat;
      few : length l.slots.items ≤ l.count;
    }

abbrev pub decreases-loop-seat : goal.decreases-loop-seat
decreases-loop-seat g l = l.count - length l.slots.items

use Rattle.std.proofs.Common.{◌≡◌}
use Rattle.buffer_pool.specs.Pools.{IsSeatOf}
use Rattle.held_ranges.specs.Moments.{AreEmpty}
use Rattle.range_cache.specs.Caches.{pool_of}
use Rattle.held_ranges.proofs.slots.free_slots.Given as goal

abbrev pub invariant-loop-slot : goal.invariant-loop-slot
invariant-loop-slot g l =
    record {
      empty : AreEmpty l.slots.items;
      same : l.seat ≡ l.fn.seat;
      of_pool : IsSeatOf (pool_of l.cache) l.seat;
    }

abbrev pub decreases-loop-slot : goal.decreases-loop-slot
decreases-loop-slot g l = goal.left-loop-slot g l

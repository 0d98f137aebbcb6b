use Rattle.std.specs.Prelude.{◌≡◌, ℕ}
use Rattle.pool_rule.specs.declared.view.Hold.TheVariants.{Free}
use Rattle.pool_rule.specs.Seats.{mark_at}
use Rattle.buffer_pool.specs.Pools.{IsSeatOf, view}
use Rattle.range_cache.specs.Caches.{pool_of}
use Rattle.evicting_fetch.specs.Evictors.{IsEvictorOf}
use Rattle.elevator_tests.proofs.fragments.all_scan.Given as goal

abbrev pub invariant-loop-fragment : goal.invariant-loop-fragment
invariant-loop-fragment l =
    record {
      seat : IsSeatOf (pool_of l.cache) l.seat;
      no_pin : (header : ℕ) → (mark_at (view l.seat) header).hold ≡ Free;
      evictor : IsEvictorOf (pool_of l.cache) l.evictor;
    }

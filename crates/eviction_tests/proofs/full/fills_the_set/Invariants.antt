use Rattle.pool_rule.specs.Seats.{HasNothing}
use Rattle.buffer_pool.specs.Pools.{IsSeatOf, view}
use Rattle.range_cache.specs.Caches.{pool_of}
use Rattle.evicting_fetch.specs.Evictors.{IsEvictorOf}
use Rattle.eviction_tests.proofs.full.fills_the_set.Given as goal

abbrev pub invariant-loop-number : goal.invariant-loop-number
invariant-loop-number l = IsSeatOf (pool_of l.cache) l.seat × HasNothing (view l.seat) × IsEvictorOf (pool_of l.cache) l.evictor

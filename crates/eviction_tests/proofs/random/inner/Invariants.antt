use Rattle.pool_rule.specs.Seats.{HasNothing}
use Rattle.buffer_pool.specs.Pools.{IsSameSeat, view}
use Rattle.range_cache.specs.Caches.{pool_of}
use Rattle.evicting_fetch.specs.Evictors.{IsEvictorOf}
use Rattle.eviction_tests.proofs.random.inner.Given as goal

abbrev pub invariant-loop : goal.invariant-loop
invariant-loop l = IsSameSeat (pool_of l.cache) l.initial.seat l.seat × HasNothing (view l.seat) × IsEvictorOf (pool_of l.cache) l.evictor

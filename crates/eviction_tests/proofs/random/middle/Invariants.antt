use Rattle.pool_rule.specs.Seats.{HasNothing}
use Rattle.buffer_pool.specs.Pools.{IsSameSeat, view}
use Rattle.range_cache.specs.Caches.{pool_of}
use Rattle.evicting_fetch.specs.Evictors.{IsEvictorOf}
use Rattle.eviction_tests.proofs.random.middle.Given as goal

abbrev pub invariant-loop : goal.invariant-loop
invariant-loop l = record {
  seat : IsSameSeat (pool_of l.cache) l.initial.seat l.seat;
  nothing : HasNothing (view l.seat);
  third : IsSameSeat (pool_of l.cache) l.initial.third l.third;
  free : HasNothing (view l.third);
  evictor : IsEvictorOf (pool_of l.cache) l.evictor;
}

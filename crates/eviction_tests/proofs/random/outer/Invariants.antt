use Rattle.pool_rule.specs.Seats.{HasNothing}
use Rattle.buffer_pool.specs.Pools.{IsSeatOf, view}
use Rattle.range_cache.specs.Caches.{pool_of}
use Rattle.evicting_fetch.specs.Evictors.{IsEvictorOf}
use Rattle.eviction_tests.proofs.random.outer.Given as goal

abbrev pub invariant-loop : goal.invariant-loop
invariant-loop l = record {
  seat : IsSeatOf (pool_of l.cache) l.seat;
  nothing : HasNothing (view l.seat);
  second : IsSeatOf (pool_of l.cache) l.second;
  second_free : HasNothing (view l.second);
  third : IsSeatOf (pool_of l.cache) l.third;
  third_free : HasNothing (view l.third);
  evictor : IsEvictorOf (pool_of l.cache) l.evictor;
}

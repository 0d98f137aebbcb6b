use Rattle.std.proofs.Common.{refl}
use Rattle.buffer_pool.specs.Pools.{view}
use Rattle.cache_lookup.specs.Callers.{nothing_again}
use Rattle.eviction_tests.proofs.random.outer.Goals as goal

pub loop-preserved : goal.loop-preserved
loop-preserved c =
    let k = c.loop.invariant in
    let start = view c.loop.seat in
    record {
      seat = c.done.ensures.seat.of_pool;
      nothing = nothing_again start (view c.done.new.seat) k.nothing (c.done.ensures.back start c.in-Some.ensures.leaves);
      second = c.middle-agree.ensures.seat.of_pool;
      second_free = c.if-not-agree.ensures.nothing refl;
      third = c.middle-agree.ensures.third.of_pool;
      third_free = c.if-not-agree.ensures.free refl;
      evictor = c.middle-agree.ensures.evictor;
    }

use Rattle.std.proofs.Common.{◌∙◌, refl}
use Rattle.buffer_pool.specs.Pools.{view}
use Rattle.cache_lookup.specs.Callers.{nothing_again}
use Rattle.eviction_tests.proofs.random.middle.Goals as goal

pub loop-preserved : goal.loop-preserved
loop-preserved c =
    let k = c.loop.invariant in
    let start = view c.loop.seat in
    record {
      seat = record { of_pool = c.done.ensures.seat.of_pool; same = c.done.ensures.seat.same ∙ (c.got.ensures.seat.same ∙ k.seat.same) };
      nothing = nothing_again start (view c.done.new.seat) k.nothing (c.done.ensures.back start c.in-Some.ensures.leaves);
      third = record { of_pool = c.inner-agree.ensures.seat.of_pool; same = c.inner-agree.ensures.seat.same ∙ k.third.same };
      free = c.if-not-agree.ensures.nothing refl;
      evictor = c.inner-agree.ensures.evictor;
    }

use Rattle.std.proofs.Common.{◌∙◌}
use Rattle.buffer_pool.specs.Pools.{view}
use Rattle.cache_lookup.specs.Callers.{nothing_again}
use Rattle.eviction_tests.proofs.random.inner.Goals as goal

pub loop-preserved : goal.loop-preserved
loop-preserved c =
    let k = c.loop.invariant in
    let start = view c.loop.seat in (
      record { of_pool = c.done.ensures.seat.of_pool; same = c.done.ensures.seat.same ∙ (c.got.ensures.seat.same ∙ k.0.same) },
      nothing_again start (view c.done.new.seat) k.1 (c.done.ensures.back start c.in-Some.ensures.leaves),
      c.got.ensures.evictor,
    )

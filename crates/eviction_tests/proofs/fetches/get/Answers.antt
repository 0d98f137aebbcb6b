use Rattle.buffer_pool.specs.Pools.{view}
use Rattle.cache_lookup.specs.Callers.{nothing_again}
use Rattle.eviction_tests.proofs.fetches.get.Goals as goal

pub returns-in-Ok-clause-nothing : goal.returns-in-Ok-clause-nothing
returns-in-Ok-clause-nothing c =
    let start = view c.args.seat.now in
    nothing_again start (view c.done.new.seat) c.requires.nothing (c.done.ensures.back start c.in-Ok.ensures.fetched.1.leaves)

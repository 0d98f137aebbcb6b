use Rattle.buffer_pool.specs.Pools.{view}
use Rattle.cache_lookup.specs.Callers.{nothing_again}
use Rattle.range_cache.specs.Callers.{leaves_then}
use Rattle.cache_tests.proofs.fetches.get.Goals as goal

pub returns-after-are_bytes-clause-nothing : goal.returns-after-are_bytes-clause-nothing
returns-after-are_bytes-clause-nothing c =
    let start = view c.args.seat.now in
    let left = leaves_then start (view c.fetch.new.seat) (view c.read.new.seat) c.in-Ok.ranged c.in-Ok.ensures.fetched.1.leaves c.read.ensures.same in
    nothing_again start (view c.done.new.seat) c.requires.nothing (c.done.ensures.back start left)

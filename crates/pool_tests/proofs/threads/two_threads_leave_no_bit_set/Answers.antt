use Rattle.std.proofs.Common.{◌≡◌, sym, subst}
use Rattle.pool_rule.specs.Seats.{HasNothing}
use Rattle.buffer_pool.specs.Callers.{part_nothing, parted_nothing}
use Rattle.buffer_pool.specs.Pools.{view}
use Rattle.pool_tests.proofs.threads.two_threads_leave_no_bit_set.Goals as goal

pub join-first-requires-after_bounds : goal.join-first-requires-after_bounds
join-first-requires-after_bounds g c κs =
    let v = view c.in_ok-pool.first in (
      (c.split-second.ensures.seat.of_pool, (c.in_ok-pool.ensures.arena, subst HasNothing (sym c.split-second.ensures.view) (parted_nothing 1 v c.in_ok-pool.ensures.nothing))),
      (c.split-second.ensures.new, (c.in_ok-pool.ensures.arena, subst HasNothing (sym c.split-second.ensures.part) (part_nothing 1 v))),
    )

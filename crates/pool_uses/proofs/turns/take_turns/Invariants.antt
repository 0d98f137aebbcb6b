use Rattle.pool_rule.specs.Seats.{HasNothing}
use Rattle.buffer_pool.specs.Pools.{IsSeatOf, view}
use Rattle.pool_uses.proofs.turns.take_turns.Given as goal

abbrev pub invariant-loop : goal.invariant-loop
invariant-loop g l = IsSeatOf l.pool l.seat × HasNothing (view l.seat)

use Rattle.std.proofs.Common.{◌≡◌, replicate, None}
use Rattle.pool_model.proofs.sequence.Sequence+Option+T.of_none.Given as goal

abbrev pub invariant-loop : goal.invariant-loop
invariant-loop g l = l.items.items ≡ replicate l.counter None

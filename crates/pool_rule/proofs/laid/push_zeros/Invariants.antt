use Rattle.std.proofs.Common.{◌≡◌, ◌++◌, replicate}
use Rattle.pool_rule.proofs.laid.push_zeros.Given as goal

abbrev pub invariant-loop : goal.invariant-loop
invariant-loop l = l.words.items ≡ l.initial.words.items ++ replicate l.counter 0

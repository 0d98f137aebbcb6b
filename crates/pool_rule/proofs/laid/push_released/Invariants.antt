use Rattle.std.proofs.Common.{◌≡◌, ◌++◌}
use Rattle.pool_rule.specs.Rule.{released_words}
use Rattle.pool_rule.proofs.laid.push_released.Given as goal

abbrev pub invariant-loop : goal.invariant-loop
invariant-loop l = l.words.items ≡ l.initial.words.items ++ released_words l.counter

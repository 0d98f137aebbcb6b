use Rattle.pool_model.specs.Lawful.{IsLawful}
use Rattle.pool_tests.proofs.plain_pool.goes_by.Given as goal

abbrev pub invariant-loop-row : goal.invariant-loop-row
invariant-loop-row l = IsLawful l.setting l.pool

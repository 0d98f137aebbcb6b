use Rattle.std.proofs.Common.{◌∙◌}
use Rattle.std.proofs.lemmas.Option.{none-some}
use Rattle.buffer_pool.specs.Callers.{made_granted}
use Rattle.pool_tests.proofs.Away.{granted_away, returned_away}
use Rattle.pool_tests.proofs.grants.stale.Goals as goal

pub returns-in-Ok-clause-others : goal.returns-in-Ok-clause-others
returns-in-Ok-clause-others c place apart =
    returned_away _ _ _ _ _ _ _ c.in-Ok.ensures.block c.ungrant.ensures.made.1 place apart ∙ granted_away _ _ _ _ _ _ c.in-Ok.ensures.ok place apart

pub returns-in-Err-clause-others : goal.returns-in-Err-clause-others
returns-in-Err-clause-others c place apart = made_granted _ _ _ _ _ _ c.in-Err.ensures.err place (none-some place)

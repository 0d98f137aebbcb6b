use Rattle.std.proofs.Common.{◌∙◌}
use Rattle.std.proofs.lemmas.Option.{none-some}
use Rattle.buffer_pool.specs.Callers.{grant_stays, made_granted}
use Rattle.pool_tests.proofs.Away.{granted_away, returned_away}
use Rattle.pool_tests.proofs.grants.grants_again.Goals as goal

pub ungrant-requires-clause-token : goal.ungrant-requires-clause-token
ungrant-requires-clause-token c =
    grant_stays c.args.pool.now c.grant.new.seat c.look-out.new.seat c.in-Ok.second _ _ _ _ c.look-out.ensures.made c.in-Ok.ensures.token (none-some _)

pub returns-then-saw-eq15-clause-others : goal.returns-then-saw-eq15-clause-others
returns-then-saw-eq15-clause-others c place apart =
    returned_away _ _ _ _ _ _ _ c.in-Ok.ensures.block c.ungrant.ensures.made.1 place apart
    ∙ (made_granted _ _ _ _ _ _ c.look-out.ensures.made place (none-some place) ∙ (granted_away _ _ _ _ _ _ c.in-Ok.ensures.ok place apart ∙ c.stale-saw.ensures.others place apart))

pub returns-else-saw-eq15-clause-others : goal.returns-else-saw-eq15-clause-others
returns-else-saw-eq15-clause-others c place apart =
    returned_away _ _ _ _ _ _ _ c.in-Ok.ensures.block c.ungrant.ensures.made.1 place apart
    ∙ (made_granted _ _ _ _ _ _ c.look-out.ensures.made place (none-some place) ∙ (granted_away _ _ _ _ _ _ c.in-Ok.ensures.ok place apart ∙ c.stale-saw.ensures.others place apart))

pub returns-in-Err-clause-others : goal.returns-in-Err-clause-others
returns-in-Err-clause-others c place apart = made_granted _ _ _ _ _ _ c.in-Err.ensures.err place (none-some place) ∙ c.stale-saw.ensures.others place apart

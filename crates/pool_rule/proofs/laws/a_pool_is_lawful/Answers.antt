use Rattle.std.proofs.Common.{length}
use Rattle.pool_rule.proofs.Story.{story_lawful}
use Rattle.pool_rule.proofs.laws.a_pool_is_lawful.Goals as goal

pub returns : goal.returns
returns c files setup words views log pool h =
    story_lawful c.every_run_is_lawful.ensures files setup.geometry (length views) log pool h.story

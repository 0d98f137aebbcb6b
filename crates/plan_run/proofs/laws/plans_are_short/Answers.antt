use Rattle.plan_run.proofs.ShortPlans.{plans_are_short}
use Rattle.plan_run.proofs.laws.plans_are_short.Goals as goal

pub returns : goal.returns
returns c = plans_are_short

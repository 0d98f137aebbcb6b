use Rattle.fragment_plan.proofs.BoundSteps.{plan_bound}
use Rattle.fragment_plan.proofs.laws.plans_are_in_bounds.Goals as goal

pub returns : goal.returns
returns c = plan_bound

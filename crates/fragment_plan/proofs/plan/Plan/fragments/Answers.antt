use Rattle.std.proofs.Common.{subst}
use Rattle.fragment_plan.specs.Bounds.{AllInBounds}
use Rattle.fragment_plan.proofs.BoundSteps.{plan_bound}
use Rattle.fragment_plan.proofs.plan.Plan.fragments.Goals as goal

pub returns-clause-bounds : goal.returns-clause-bounds
returns-clause-bounds c = subst AllInBounds c.self.view_is (plan_bound c.self.invariant.0 _ c.self.invariant.1)

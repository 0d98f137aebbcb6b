use Rattle.generated_plan.proofs.Read.{generated_read}
use Rattle.generated_plan.proofs.laws.generated_plans_are_read.Goals as goal

pub returns : goal.returns
returns c = generated_read c.plans_are_read.ensures

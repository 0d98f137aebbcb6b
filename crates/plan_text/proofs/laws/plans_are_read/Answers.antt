use Rattle.plan_text.proofs.PlansRead.{plan_read}
use Rattle.plan_text.proofs.laws.plans_are_read.Goals as goal

pub returns : goal.returns
returns c = plan_read

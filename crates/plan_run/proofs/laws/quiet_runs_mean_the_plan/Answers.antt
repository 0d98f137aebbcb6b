use Rattle.plan_run.proofs.Quiet.{quiet_runs_mean_the_plan}
use Rattle.plan_run.proofs.laws.quiet_runs_mean_the_plan.Goals as goal

pub returns : goal.returns
returns c = quiet_runs_mean_the_plan

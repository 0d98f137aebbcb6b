use Rattle.pool_model.proofs.laws.every_run_is_lawful.Goals as goal
use Rattle.pool_model.proofs.Runs.{every_run_is_lawful}

pub returns : goal.returns
returns c = every_run_is_lawful

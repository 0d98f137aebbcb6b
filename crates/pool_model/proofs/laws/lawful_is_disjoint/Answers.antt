use Rattle.pool_model.proofs.laws.lawful_is_disjoint.Goals as goal
use Rattle.pool_model.proofs.Runs.{lawful_is_disjoint}

pub returns : goal.returns
returns c = lawful_is_disjoint

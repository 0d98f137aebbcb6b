use Rattle.pool_model.proofs.Others.{step_spares_others}
use Rattle.pool_model.proofs.laws.others_are_spared.Goals as goal

pub returns : goal.returns
returns c = step_spares_others

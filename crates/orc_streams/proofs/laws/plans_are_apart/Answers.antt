use Rattle.orc_streams.proofs.Layouts.{plans_apart}
use Rattle.orc_streams.proofs.laws.plans_are_apart.Goals as goal

pub returns : goal.returns
returns c = plans_apart

use Rattle.std.proofs.Common.{refl}
use Rattle.lrfu_policy.proofs.laws.worked_entries.Goals as goal

pub returns : goal.returns
returns c = λ key. (refl, refl)

use Rattle.lrfu_policy.specs.Victim.{Among}
use Rattle.lrfu_policy.proofs.OrderLemmas.{one_least}
use Rattle.lrfu_policy.proofs.laws.victim_is_one.Goals as goal

pub returns : goal.returns
returns c = λ first count entries after a b p q. one_least (Among first count) entries after a b p q

use Rattle.lrfu_policy.specs.Victim.{Among}
use Rattle.lrfu_policy.proofs.OrderLemmas.{none_between}
use Rattle.lrfu_policy.proofs.laws.none_between.Goals as goal

pub returns : goal.returns
returns c = λ first count. none_between (Among first count)

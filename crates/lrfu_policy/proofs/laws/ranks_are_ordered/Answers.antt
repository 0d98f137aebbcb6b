use Rattle.lrfu_policy.proofs.OrderLemmas.{ranks_total, tied_header}
use Rattle.lrfu_policy.proofs.laws.ranks_are_ordered.Goals as goal

pub returns : goal.returns
returns c = (ranks_total, tied_header)

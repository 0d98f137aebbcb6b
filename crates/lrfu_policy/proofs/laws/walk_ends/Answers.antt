use Rattle.lrfu_policy.proofs.WalkLemmas.{walk_falls, forget_falls}
use Rattle.lrfu_policy.proofs.laws.walk_ends.Goals as goal

pub returns-clause-falls : goal.returns-clause-falls
returns-clause-falls c = walk_falls

pub returns-clause-forgets : goal.returns-clause-forgets
returns-clause-forgets c = forget_falls

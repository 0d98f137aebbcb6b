use Rattle.held_ranges.proofs.CountedSteps.{steps_counted}
use Rattle.held_ranges.proofs.laws.steps_are_counted.Goals as goal

pub returns : goal.returns
returns g c m n deeds r = steps_counted g.W.World.files g.S.Store.reads m n deeds r

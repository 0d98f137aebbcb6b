use Rattle.held_ranges.proofs.Counting.{reads_counted}
use Rattle.held_ranges.proofs.laws.reads_are_counted.Goals as goal

pub returns : goal.returns
returns g c m n deeds r = reads_counted g.W.World.files g.S.Store.reads m n deeds r

use Rattle.orc_values.specs.WovenLaws.{woven-append}
use Rattle.orc_values.specs.TextsLaws.{slices-joined}
use Rattle.orc_values.proofs.laws.batches_join.Goals as goal

pub returns-clause-dense : goal.returns-clause-dense
returns-clause-dense g c = woven-append

pub returns-clause-texts : goal.returns-clause-texts
returns-clause-texts g c = slices-joined

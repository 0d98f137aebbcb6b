use Rattle.orc_values.specs.TextsLaws.{slices-ends}
use Rattle.orc_values.proofs.laws.lengths_make_ends.Goals as goal

pub returns : goal.returns
returns c = slices-ends

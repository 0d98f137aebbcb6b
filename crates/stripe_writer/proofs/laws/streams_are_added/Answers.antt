use Rattle.stripe_writer.proofs.Places.{column_is_added, others_stay}
use Rattle.stripe_writer.proofs.laws.streams_are_added.Goals as goal

pub returns-clause-column : goal.returns-clause-column
returns-clause-column c = column_is_added

pub returns-clause-others : goal.returns-clause-others
returns-clause-others c = others_stay

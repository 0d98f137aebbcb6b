use Rattle.stripe_writer.proofs.Places.{column_is_there, columns_are_there}
use Rattle.stripe_writer.proofs.laws.a_column_is_there.Goals as goal

pub returns-clause-one : goal.returns-clause-one
returns-clause-one c = column_is_there

pub returns-clause-all : goal.returns-clause-all
returns-clause-all c = columns_are_there

use Rattle.orc_columns.proofs.WholeColumns as column
use Rattle.orc_columns.proofs.laws.a_reader_gives_the_column.Goals as goal

pub returns : goal.returns
returns c = column.gives_the_column

use Rattle.orc_batches.proofs.WholeColumns.{give_the_columns}
use Rattle.orc_batches.proofs.laws.batches_are_the_columns.Goals as goal

pub returns : goal.returns
returns c = give_the_columns c.a_reader_gives_the_column.ensures

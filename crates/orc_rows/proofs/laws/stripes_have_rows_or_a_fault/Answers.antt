use Rattle.orc_rows.proofs.OneFile.{have_rows_or_a_fault}
use Rattle.orc_rows.proofs.laws.stripes_have_rows_or_a_fault.Goals as goal

pub returns : goal.returns
returns c = have_rows_or_a_fault c.a_column_has_values_or_a_fault.ensures

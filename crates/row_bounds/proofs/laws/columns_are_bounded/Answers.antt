use Rattle.row_bounds.proofs.ColumnRows.{columns_are_bounded}
use Rattle.row_bounds.proofs.laws.columns_are_bounded.Goals as goal

pub returns : goal.returns
returns c = columns_are_bounded

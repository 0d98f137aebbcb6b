use Rattle.std.proofs.Common.{length}
use Rattle.table_columns.proofs.row_test.+takes.Given as goal

abbrev pub decreases-takes : goal.decreases-takes
decreases-takes l = length l.columns.now

use Rattle.std.proofs.Common.{length}
use Rattle.table_columns.proofs.row_push.+push_row.Given as goal

abbrev pub decreases-push_row : goal.decreases-push_row
decreases-push_row l = length l.columns.now

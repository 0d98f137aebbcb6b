use Rattle.std.proofs.Common.{length}
use Rattle.orc_rows.proofs.start.+start_columns.Given as goal

abbrev pub decreases-start_columns : goal.decreases-start_columns
decreases-start_columns g l = length l.columns.now

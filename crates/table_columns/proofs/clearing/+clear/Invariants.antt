use Rattle.std.proofs.Common.{length}
use Rattle.table_columns.proofs.clearing.+clear.Given as goal

abbrev pub decreases-clear : goal.decreases-clear
decreases-clear l = length l.columns.now

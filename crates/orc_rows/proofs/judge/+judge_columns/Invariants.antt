use Rattle.std.proofs.Common.{length}
use Rattle.orc_rows.proofs.judge.+judge_columns.Given as goal

abbrev pub decreases-judge_columns : goal.decreases-judge_columns
decreases-judge_columns g l = length l.columns.now

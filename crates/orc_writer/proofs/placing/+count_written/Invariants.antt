use Rattle.std.proofs.Common.{length}
use Rattle.orc_writer.proofs.placing.+count_written.Given as goal

abbrev pub decreases-count_written : goal.decreases-count_written
decreases-count_written l = length l.columns.now

use Rattle.std.proofs.Common.{length}
use Rattle.scan_columns.proofs.finding.+misfit.Given as goal

abbrev pub decreases-misfit : goal.decreases-misfit
decreases-misfit l = length l.names.now

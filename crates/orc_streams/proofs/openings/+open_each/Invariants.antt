use Rattle.std.proofs.Common.{length}
use Rattle.orc_streams.proofs.openings.+open_each.Given as goal

abbrev pub decreases-open_each : goal.decreases-open_each
decreases-open_each g l = length l.openings.now

use Rattle.std.proofs.Common.{length}
use Rattle.orc_streams.proofs.openings.+open_from.Given as goal

abbrev pub decreases-open_from : goal.decreases-open_from
decreases-open_from g l = length l.layouts.now

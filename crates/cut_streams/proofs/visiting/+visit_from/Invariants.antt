use Rattle.std.proofs.Common.{length}
use Rattle.cut_streams.proofs.visiting.+visit_from.Given as goal

abbrev pub decreases-visit_from : goal.decreases-visit_from
decreases-visit_from g l = length l.into.now

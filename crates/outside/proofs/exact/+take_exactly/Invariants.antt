use Rattle.std.proofs.Common.{length}
use Rattle.outside.proofs.exact.+take_exactly.Given as goal

abbrev pub decreases-take_exactly : goal.decreases-take_exactly
decreases-take_exactly g l = length l.into.now

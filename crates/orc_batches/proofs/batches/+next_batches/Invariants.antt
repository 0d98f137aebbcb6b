use Rattle.std.proofs.Common.{length}
use Rattle.orc_batches.proofs.batches.+next_batches.Given as goal

abbrev pub decreases-next_batches : goal.decreases-next_batches
decreases-next_batches g l = length l.readers.now

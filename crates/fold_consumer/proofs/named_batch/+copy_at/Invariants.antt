use Rattle.std.proofs.Common.{length}
use Rattle.fold_consumer.proofs.named_batch.+copy_at.Given as goal

abbrev pub decreases-copy_at : goal.decreases-copy_at
decreases-copy_at l = length l.read.now

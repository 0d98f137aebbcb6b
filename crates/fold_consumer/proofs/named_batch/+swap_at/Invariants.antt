use Rattle.std.proofs.Common.{length}
use Rattle.fold_consumer.proofs.named_batch.+swap_at.Given as goal

abbrev pub decreases-swap_at : goal.decreases-swap_at
decreases-swap_at l = length l.read.now

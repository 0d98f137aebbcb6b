use Rattle.std.proofs.Common.{length}
use Rattle.fold_consumer.proofs.named_batch.+gather.Given as goal

abbrev pub decreases-gather : goal.decreases-gather
decreases-gather l = length l.named.now

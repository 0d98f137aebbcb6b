use Rattle.std.proofs.Common.{length}
use Rattle.fold_consumer.proofs.named_batch.+put_back.Given as goal

abbrev pub decreases-put_back : goal.decreases-put_back
decreases-put_back l = length l.named.now

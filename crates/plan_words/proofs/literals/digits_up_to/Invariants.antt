use Rattle.std.proofs.Common.{length}
use Rattle.plan_words.proofs.NumberSteps.{SoFar}
use Rattle.plan_words.proofs.literals.digits_up_to.Given as goal

abbrev pub invariant-loop-byte : goal.invariant-loop-byte
invariant-loop-byte l = SoFar l.most l.digits l.value l.rest

abbrev pub decreases-loop-byte : goal.decreases-loop-byte
decreases-loop-byte l = length l.rest

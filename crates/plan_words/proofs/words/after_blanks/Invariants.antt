use Rattle.std.proofs.Common.{◌≡◌, length}
use Rattle.plan_words.specs.Words.{skip_blanks}
use Rattle.plan_words.proofs.words.after_blanks.Given as goal

abbrev pub invariant-loop-byte : goal.invariant-loop-byte
invariant-loop-byte l = skip_blanks l.rest ≡ skip_blanks l.left

abbrev pub decreases-loop-byte : goal.decreases-loop-byte
decreases-loop-byte l = length l.rest

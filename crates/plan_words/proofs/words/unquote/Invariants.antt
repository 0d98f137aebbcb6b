use Rattle.std.proofs.Common.{◌≡◌, length}
use Rattle.plan_words.specs.Words.{text_at}
use Rattle.plan_words.proofs.TextSteps.{onto}
use Rattle.plan_words.proofs.words.unquote.Given as goal

abbrev pub invariant-loop-byte : goal.invariant-loop-byte
invariant-loop-byte l = text_at l.left ≡ onto l.text.items (text_at l.rest)

abbrev pub decreases-loop-byte : goal.decreases-loop-byte
decreases-loop-byte l = length l.rest

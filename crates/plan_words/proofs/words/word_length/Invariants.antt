use Rattle.std.proofs.Common.{◌≡◌, ◌+◌, length}
use Rattle.plan_words.specs.Words.{word_len}
use Rattle.plan_words.proofs.words.word_length.Given as goal

abbrev pub invariant-loop-byte : goal.invariant-loop-byte
invariant-loop-byte l = (l.len + word_len l.rest ≡ word_len l.left) × (l.len + length l.rest ≡ length l.left)

abbrev pub decreases-loop-byte : goal.decreases-loop-byte
decreases-loop-byte l = length l.rest

use Rattle.std.proofs.Common.{◌≡◌, length}
use Rattle.make_tests.proofs.columns.buffered.Given as goal

abbrev pub invariant-loop-number : goal.invariant-loop-number
invariant-loop-number l = (l.buffer.spelling ≡ l.spelling) × (length l.buffer.rows ≡ l.number-index)

use Rattle.std.proofs.Common.{ℕ, ◌<◌, ◌≤◌, pos, get_or, FitsSigned}
use Rattle.std.specs.Int.{w64, cast_unsigned}
use Rattle.row_texts.proofs.lengths.bits_of.Given as goal

abbrev pub invariant-loop-length : goal.invariant-loop-length
invariant-loop-length l = record {
  seen : (k : ℕ) → k < l.length-index → cast_unsigned w64 (get_or l.lengths k (pos 0)) ≤ l.seen;
  fit : (k : ℕ) → k < l.length-index → FitsSigned w64 (get_or l.lengths k (pos 0));
}

use Rattle.std.proofs.Common.{ℕ, ◌<◌, pos}
use Rattle.std.specs.Prelude.{slice_index_or}
use Rattle.std.specs.Int.{w64, cast_unsigned}
use Rattle.row_texts.proofs.lookup.is_any_past.Given as goal

abbrev pub invariant-loop-place : goal.invariant-loop-place
invariant-loop-place l = (k : ℕ) → k < l.place-index → cast_unsigned w64 (slice_index_or l.places k (pos 0)) < l.size

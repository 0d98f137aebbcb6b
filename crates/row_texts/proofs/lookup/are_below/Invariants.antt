use Rattle.std.proofs.Common.{ℕ, ◌<◌, ◌^◌, pos}
use Rattle.std.specs.Prelude.{slice_index_or}
use Rattle.std.specs.Int.{w64, cast_unsigned}
use Rattle.row_texts.proofs.lookup.are_below.Given as goal

abbrev pub invariant-loop-place : goal.invariant-loop-place
invariant-loop-place l = l.seen < 2 ^ 63 → l.moved < 2 ^ 63 → (k : ℕ) → k < l.place-index → cast_unsigned w64 (slice_index_or l.places k (pos 0)) < l.size

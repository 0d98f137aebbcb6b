use Rattle.std.proofs.Common.{◌≡◌, ◌+◌, ◌≤◌, length}
use Rattle.plan_words.specs.Pieces.{pieces_of}
use Rattle.plan_names.proofs.columns.is_too_long.Given as goal

abbrev pub invariant-loop-count : goal.invariant-loop-count
invariant-loop-count l = (l.count + length l.pieces ≡ length (pieces_of 44 l.list)) × (l.count ≤ 64)

abbrev pub decreases-loop-count : goal.decreases-loop-count
decreases-loop-count l = length l.pieces

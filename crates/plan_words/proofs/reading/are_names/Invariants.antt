use Rattle.std.proofs.Common.{◌≡◌, length}
use Rattle.plan_words.specs.Pieces.{pieces_of}
use Rattle.plan_words.specs.Names.{all_names}
use Rattle.plan_words.proofs.reading.are_names.Given as goal

abbrev pub invariant-loop-piece : goal.invariant-loop-piece
invariant-loop-piece l = all_names l.pieces ≡ all_names (pieces_of 44 l.list)

abbrev pub decreases-loop-piece : goal.decreases-loop-piece
decreases-loop-piece l = length l.pieces

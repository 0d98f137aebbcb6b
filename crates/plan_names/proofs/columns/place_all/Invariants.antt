use Rattle.std.proofs.Common.{◌≡◌, [], true, length}
use Rattle.plan_words.specs.Pieces.{pieces_of}
use Rattle.plan_words.specs.Names.{all_names}
use Rattle.plan_names.specs.Columns.{all_placed}
use Rattle.plan_names.proofs.columns.place_all.Given as goal

abbrev pub invariant-loop-piece : goal.invariant-loop-piece
invariant-loop-piece l =
    (all_placed l.columns l.places.items l.pieces ≡ all_placed [] [] (pieces_of 44 l.list)) × (all_names l.pieces ≡ true)

abbrev pub decreases-loop-piece : goal.decreases-loop-piece
decreases-loop-piece l = length l.pieces

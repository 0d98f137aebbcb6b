use Rattle.std.proofs.Common.{◌≡◌, [], length}
use Rattle.plan_words.specs.Pieces.{pieces_of}
use Rattle.plan_names.specs.Sources.{all_known}
use Rattle.plan_names.proofs.sources.find_all.Given as goal

abbrev pub invariant-loop-piece : goal.invariant-loop-piece
invariant-loop-piece l = all_known l.earlier l.found.items l.pieces ≡ all_known l.earlier [] (pieces_of 44 l.list)

abbrev pub decreases-loop-piece : goal.decreases-loop-piece
decreases-loop-piece l = length l.pieces

use Rattle.std.proofs.Common.{length}
use Rattle.plan_words.proofs.PieceSteps.{Begun}
use Rattle.plan_words.proofs.pieces.split_piece.Given as goal

abbrev pub invariant-loop-byte : goal.invariant-loop-byte
invariant-loop-byte l = Begun l.separator l.bytes l.len l.rest

abbrev pub decreases-loop-byte : goal.decreases-loop-byte
decreases-loop-byte l = length l.rest

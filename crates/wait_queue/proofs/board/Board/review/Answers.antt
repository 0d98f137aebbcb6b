use Rattle.wait_queue.proofs.Keeping.{answers_kept, review_keeps}
use Rattle.wait_queue.proofs.board.Board.review.Goals as goal

pub invariant_of-self : goal.invariant_of-self
invariant_of-self g c = answers_kept g.W.World.files _ _ _ c.self.invariant (review_keeps _ _ c.review.result c.review.ensures)

use Rattle.wait_queue.proofs.Keeping.{answers_kept, started_keeps}
use Rattle.wait_queue.proofs.board.Board.start.Goals as goal

pub invariant_of-self : goal.invariant_of-self
invariant_of-self g c =
    answers_kept g.W.World.files _ _ _ c.self.invariant (started_keeps _ _ c.args.executor c.start.result c.start.ensures.ok c.start.ensures.refused)

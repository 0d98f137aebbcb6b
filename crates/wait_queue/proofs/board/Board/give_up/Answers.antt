use Rattle.wait_queue.proofs.Keeping.{answers_kept, give_up_keeps}
use Rattle.wait_queue.proofs.board.Board.give_up.Goals as goal

pub invariant_of-self : goal.invariant_of-self
invariant_of-self g c = answers_kept g.W.World.files _ _ _ c.self.invariant (give_up_keeps _ _ c.args.attempt c.give_up.result c.give_up.ensures)

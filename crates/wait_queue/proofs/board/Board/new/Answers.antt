use Rattle.std.proofs.Common.{ap, length}
use Rattle.wait_queue.proofs.Keeping.{nothing_kept}
use Rattle.wait_queue.proofs.board.Board.new.Goals as goal

pub invariant_of-result : goal.invariant_of-result
invariant_of-result g c =
    nothing_kept g.W.World.files c.args.plan.now c.args.executors c.args.room _ _ _ c.in_ok-schedule.ensures c.in_ok-answers.ensures
    (ap length c.fragments.ensures.list)

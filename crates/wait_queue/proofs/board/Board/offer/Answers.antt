use Rattle.std.proofs.Common.{slice_get, ap, ◌∙◌}
use Rattle.wait_queue.specs.Boards.{BoardOf}
use Rattle.wait_queue.proofs.Keeping.{answers_kept, offered_keeps}
use Rattle.wait_queue.proofs.board.Board.offer.Goals as goal

pub invariant_of-self : goal.invariant_of-self
invariant_of-self g c =
    let absent = ap (λ (b : BoardOf). slice_get b.history.state.statuses c.args.fragment) c.self.view_is ∙ c.requires in
    answers_kept g.W.World.files _ _ _ c.self.invariant (offered_keeps _ _ c.args.fragment c.offer.result absent c.offer.ensures.ok c.offer.ensures.refused)

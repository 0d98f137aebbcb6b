use Rattle.std.proofs.Common.{◌≡◌, ap, ◌∙◌, sym, subst, ℕ, List}
use Rattle.fragment_plan.specs.declared.fragment.Fragment.{Fragment}
use Rattle.kept_results.specs.Kept.{IsKept}
use Rattle.wait_queue.specs.Boards.{BoardOf}
use Rattle.wait_queue.proofs.Keeping.{answer_added}
use Rattle.wait_queue.proofs.board.Board.finish.Goals as goal

pub invariant_of-self-2 : goal.invariant_of-self-2
invariant_of-self-2 g c =
    let told = g.W.World.files in
    let answer = c.into_answer-answer.result in
    let same : c.args.kept.plan ≡ c.self.inside.schedule.plan = c.requires.plan ∙ sym (ap (λ (b : BoardOf). b.history.plan) c.self.view_is) in
    let kept : IsKept told c.self.inside.schedule.plan c.args.attempt.fragment answer =
    subst (λ (p : List Fragment). IsKept told p c.args.attempt.fragment answer) same
    (subst (λ (n : ℕ). IsKept told c.args.kept.plan n answer) c.requires.fragment c.into_answer-answer.ensures.kept) in
    let taken = c.in_default.ensures in
    answer_added told _ _ _ c.args.attempt answer c.self.invariant kept taken.1

use Rattle.std.proofs.Common.{◌≡◌, ◌<◌, length, slice_get, Some, refl, sym, ap, ◌∙◌, subst, ℕ, List}
use Rattle.std.specs.Option.{option_flatten}
use Rattle.std.proofs.lemmas.Option.{slice_get_read}
use Rattle.fragment_plan.specs.declared.fragment.Fragment.{Fragment}
use Rattle.board_history.specs.States.{State}
use Rattle.kept_results.specs.Kept.{IsKept}
use Rattle.wait_queue.specs.Boards.{BoardOf, status_by_replay}
use Rattle.wait_queue.proofs.Keeping.{finished_there, lent_kept}
use Rattle.wait_queue.proofs.board.Board.result.Goals as goal

pub index-requires : goal.index-requires
index-requires g c =
    subst (λ (n : ℕ). c.args.fragment < n)
    (ap (λ (b : BoardOf). length b.history.plan) (sym c.self.view_is) ∙ (sym c.self.invariant.all ∙ sym c.self.inside.answers.ok.0))
    c.requires

pub returns-clause-answer : goal.returns-clause-answer
returns-clause-answer g c =
    let answers = c.self.inside.answers.items in
    let within : c.args.fragment < length answers =
    subst (λ (n : ℕ). c.args.fragment < n) (ap (λ (b : BoardOf). length b.history.plan) (sym c.self.view_is) ∙ sym c.self.invariant.all) c.requires in
    let got : slice_get answers c.args.fragment ≡ Some c.index.result.now =
    slice_get_read answers (length answers) c.args.fragment _ refl within c.index.ensures in
    c.as_ref.ensures.value
    ∙ (ap option_flatten (sym got) ∙ ap (λ (b : BoardOf). option_flatten (slice_get b.answers c.args.fragment)) c.self.view_is)

pub returns-clause-finished : goal.returns-clause-finished
returns-clause-finished g c =
    let answers = c.self.inside.answers.items in
    let within : c.args.fragment < length answers =
    subst (λ (n : ℕ). c.args.fragment < n) (ap (λ (b : BoardOf). length b.history.plan) (sym c.self.view_is) ∙ sym c.self.invariant.all) c.requires in
    let got : slice_get answers c.args.fragment ≡ Some c.index.result.now =
    slice_get_read answers (length answers) c.args.fragment _ refl within c.index.ensures in
    let there = finished_there g.W.World.files c.self.inside.schedule answers c.args.fragment c.index.result.now c.self.invariant got in
    let status = ap (λ (s : State). slice_get s.statuses c.args.fragment) c.history.ensures.replayed
    ∙ ap (λ (b : BoardOf). status_by_replay b.history c.args.fragment) c.self.view_is in
    ((λ some. sym status ∙ there.0 (sym c.as_ref.ensures.variant ∙ some)), (λ is. c.as_ref.ensures.variant ∙ there.1 (status ∙ is)))

pub returns-clause-kept : goal.returns-clause-kept
returns-clause-kept g c =
    let answers = c.self.inside.answers.items in
    let within : c.args.fragment < length answers =
    subst (λ (n : ℕ). c.args.fragment < n) (ap (λ (b : BoardOf). length b.history.plan) (sym c.self.view_is) ∙ sym c.self.invariant.all) c.requires in
    let got : slice_get answers c.args.fragment ≡ Some c.index.result.now =
    slice_get_read answers (length answers) c.args.fragment _ refl within c.index.ensures in
    lent_kept g.W.World.files c.args.self.now.history.plan c.args.fragment c.as_ref.result c.index.result.now c.as_ref.ensures.value
    (λ a e.
    subst (λ (p : List Fragment). IsKept g.W.World.files p c.args.fragment a) (ap (λ (b : BoardOf). b.history.plan) c.self.view_is)
    (c.self.invariant.kept c.args.fragment a (got ∙ ap Some e)))

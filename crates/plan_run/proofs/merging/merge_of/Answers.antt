use Rattle.std.proofs.Common.{sym, ◌∙◌, ap, subst, List, ℕ}
use Rattle.std.specs.Prelude.{IfOk, ◌≡◌}
use Rattle.fragment_outcome.specs.declared.outcome.Outcome.{Outcome}
use Rattle.fragment_folds.specs.Merging.{MergeOf}
use Rattle.fragment_meaning.specs.PlanOutcomes.{answers_of, merge_outcome}
use Rattle.plan_run.specs.Merges.{merged_on}
use Rattle.plan_run.proofs.Merges.{starts}
use Rattle.plan_run.proofs.merging.merge_of.Goals as goal

pub returns : goal.returns
returns c =
    let outcomes = c.args.outcomes.now in
    let others = c.in-Some.others.now in
    subst (λ (t : Outcome). IfOk c.merge_on.result (λ o. o ≡ t))
    (ap (λ (m : MergeOf). merged_on m (answers_of outcomes others)) c.in_ok-merge.ensures
    ∙ sym (starts outcomes c.in-Some.first.now others c.in-Some-answer_at.answer.now (sym c.in-Some-answer_at.ensures))
    ∙ ap (λ (sources : List ℕ). merge_outcome (answers_of outcomes sources)) (sym c.in-Some.ensures.cases.0))
    c.merge_on.ensures

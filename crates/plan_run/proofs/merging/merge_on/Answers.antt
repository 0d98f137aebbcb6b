use Rattle.std.proofs.Common.{◌+◌, drop, get_or, sym, ◌∙◌, ap, arith, List, ℕ}
use Rattle.std.proofs.lemmas.List.{at_drop_more}
use Rattle.fragment_folds.specs.Merging.{MergeOf}
use Rattle.fragment_meaning.specs.PlanOutcomes.{answers_of}
use Rattle.plan_run.specs.Merges.{merged_on}
use Rattle.plan_run.proofs.Merges.{goes_on}
use Rattle.plan_run.proofs.merging.merge_on.Goals as goal

pub loop-source-preserved : goal.loop-source-preserved
loop-source-preserved c =
    let i = c.loop-source.source-index in
    let sources = c.args.sources.now in
    let outcomes = c.args.outcomes.now in
    record {
      answers = omega (arith, c.loop-source.invariant.answers, ap (λ (m : MergeOf). m.answers) c.in_ok-add.ensures);
      rest = ap (λ (m : MergeOf). merged_on m (answers_of outcomes (drop (i + 1) sources))) c.in_ok-add.ensures
          ∙ sym (goes_on outcomes c.loop-source.merge (get_or sources i 0) (drop (i + 1) sources) c.in-Some.answer.now (sym c.in-Some.ensures))
          ∙ sym (at_drop_more (λ (xs : List ℕ). merged_on c.loop-source.merge (answers_of outcomes xs)) sources i 0 (omega arith))
          ∙ c.loop-source.invariant.rest;
    }

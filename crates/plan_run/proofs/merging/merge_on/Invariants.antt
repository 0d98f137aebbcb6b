use Rattle.std.proofs.Common.{◌≡◌, ◌+◌, drop}
use Rattle.fragment_meaning.specs.PlanOutcomes.{answers_of}
use Rattle.plan_run.specs.Merges.{merged_on}
use Rattle.plan_run.proofs.merging.merge_on.Given as goal

abbrev pub invariant-loop-source : goal.invariant-loop-source
invariant-loop-source l = record {
  answers : l.merge.answers ≡ l.initial.merge.answers + l.source-index;
  rest : merged_on l.merge (answers_of l.outcomes (drop l.source-index l.sources)) ≡ merged_on l.initial.merge (answers_of l.outcomes l.sources);
}

-- A merge that goes on, source by source: what the code does, beside what a merge means.
use Rattle.std.specs.Prelude.{ℕ, List, Option, Some, None, Result, Ok, Err}
use Rattle.fragment_outcome.specs.declared.answer.Answer.{Answer}
use Rattle.fragment_outcome.specs.declared.failure.Failure.TheVariants as failure
use Rattle.fragment_outcome.specs.declared.outcome.Outcome.{Outcome}
use Rattle.fragment_outcome.specs.declared.outcome.Outcome.TheVariants as outcome
use Rattle.fragment_folds.specs.Merging.{MergeOf, answer_of, merged_all}
use Rattle.fragment_meaning.specs.PlanOutcomes.{merge_answered}
use Rattle.fragment_meaning.specs.ScanOutcome.{failed}

-- the answer that an outcome is, where it is one
abbrev pub answer_in : Option Outcome → Option Answer
answer_in None = None
answer_in (Some (outcome.Answer a)) = Some a
answer_in (Some (outcome.Failure why)) = None

-- what becomes of a merge that goes on by these answers, or by the number of the first source without one
abbrev pub merged_on : MergeOf → Result (List Answer) ℕ → Outcome
merged_on merge (Err number) = failed (failure.SourceFailed number)
merged_on merge (Ok answers) = merge_answered (answer_of (merged_all merge answers).joined)

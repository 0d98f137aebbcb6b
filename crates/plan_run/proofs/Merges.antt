-- What a merge means, source by source.
use Rattle.std.proofs.Common.{◌≡◌, ◌≢◌, ◌<◌, ℕ, List, [], ◌∷◌, Option, Some, None, Result, Ok, Err, refl, ◌∙◌, ap}
use Rattle.std.specs.Prelude.{All}
use Rattle.std.specs.List.{slice_get}
use Rattle.std.proofs.lemmas.Option.{same_Some}
use Rattle.std.proofs.lemmas.List.Elements.{All-head, All-tail}
use Rattle.fragment_outcome.specs.declared.answer.Answer.{Answer}
use Rattle.fragment_outcome.specs.declared.failure.Failure.TheVariants as failure
use Rattle.fragment_outcome.specs.declared.outcome.Outcome.{Outcome}
use Rattle.fragment_outcome.specs.declared.outcome.Outcome.TheVariants as outcome
use Rattle.fragment_folds.specs.declared.faults.MergeFault.{MergeFault}
use Rattle.fragment_folds.specs.Merging.{MergeOf, answer_of, merged, merge_of, merged_all}
use Rattle.fragment_meaning.specs.PlanOutcomes.{answers_of, merge_answered, merge_outcome, with_source}
use Rattle.fragment_meaning.specs.ScanOutcome.{failed}
use Rattle.plan_run.specs.Merges.{answer_in, merged_on}
use Rattle.plan_run.specs.Run.{read_fault}
use Rattle.plan_run.specs.Words.{HasWords}

-- ---- a merge that goes on

found_goes : (m : MergeOf) (s : ℕ) (found : Option Outcome) (others : Result (List Answer) ℕ) (a : Answer) → answer_in found ≡ Some a
    → merged_on m (with_source s found others) ≡ merged_on (merged m a) others
found_goes m s None others a e = absurd cc
found_goes m s (Some (outcome.Failure why)) others a e = absurd cc
found_goes m s (Some (outcome.Answer b)) (Err later) a e = refl
found_goes m s (Some (outcome.Answer b)) (Ok more) a e =
    ap (λ (x : Answer). merged_on (merged m x) (Ok more)) (same_Some b a e)

-- a source with an answer
pub goes_on : (outcomes : List Outcome) (m : MergeOf) (s : ℕ) (sources : List ℕ) (a : Answer) → answer_in (slice_get outcomes s) ≡ Some a
    → merged_on m (answers_of outcomes (s ∷ sources)) ≡ merged_on (merged m a) (answers_of outcomes sources)
goes_on outcomes m s sources a e = found_goes m s (slice_get outcomes s) (answers_of outcomes sources) a e

missing_ends : (m : MergeOf) (s : ℕ) (found : Option Outcome) (others : Result (List Answer) ℕ) → answer_in found ≡ None
    → merged_on m (with_source s found others) ≡ failed (failure.SourceFailed s)
missing_ends m s None others e = refl
missing_ends m s (Some (outcome.Failure why)) others e = refl
missing_ends m s (Some (outcome.Answer b)) others e = absurd cc

-- a source without one
pub stops : (outcomes : List Outcome) (m : MergeOf) (s : ℕ) (sources : List ℕ) → answer_in (slice_get outcomes s) ≡ None
    → merged_on m (answers_of outcomes (s ∷ sources)) ≡ failed (failure.SourceFailed s)
stops outcomes m s sources e = missing_ends m s (slice_get outcomes s) (answers_of outcomes sources) e

-- ---- the first source

found_starts : (s : ℕ) (found : Option Outcome) (others : Result (List Answer) ℕ) (a : Answer) → answer_in found ≡ Some a
    → merge_outcome (with_source s found others) ≡ merged_on (merge_of a) others
found_starts s None others a e = absurd cc
found_starts s (Some (outcome.Failure why)) others a e = absurd cc
found_starts s (Some (outcome.Answer b)) (Err later) a e = refl
found_starts s (Some (outcome.Answer b)) (Ok more) a e =
    ap (λ (x : Answer). merged_on (merge_of x) (Ok more)) (same_Some b a e)

pub starts : (outcomes : List Outcome) (s : ℕ) (sources : List ℕ) (a : Answer) → answer_in (slice_get outcomes s) ≡ Some a
    → merge_outcome (answers_of outcomes (s ∷ sources)) ≡ merged_on (merge_of a) (answers_of outcomes sources)
starts outcomes s sources a e = found_starts s (slice_get outcomes s) (answers_of outcomes sources) a e

missing_first : (s : ℕ) (found : Option Outcome) (others : Result (List Answer) ℕ) → answer_in found ≡ None
    → merge_outcome (with_source s found others) ≡ failed (failure.SourceFailed s)
missing_first s None others e = refl
missing_first s (Some (outcome.Failure why)) others e = refl
missing_first s (Some (outcome.Answer b)) others e = absurd cc

pub fails_first : (outcomes : List Outcome) (s : ℕ) (sources : List ℕ) → answer_in (slice_get outcomes s) ≡ None
    → merge_outcome (answers_of outcomes (s ∷ sources)) ≡ failed (failure.SourceFailed s)
fails_first outcomes s sources e = missing_first s (slice_get outcomes s) (answers_of outcomes sources) e

-- ---- a merge by two lists of outcomes that are the same below a number

pub answers_same : (a b : List Outcome) (n : ℕ) (sources : List ℕ) → All (λ source. source < n) sources
    → ((k : ℕ) → k < n → slice_get a k ≡ slice_get b k) → answers_of a sources ≡ answers_of b sources
answers_same a b n [] all same = refl
answers_same a b n (s ∷ sources) all same =
    ap (λ (found : Option Outcome). with_source s found (answers_of a sources)) (same s (All-head (λ source. source < n) s sources all))
    ∙ ap (λ (others : Result (List Answer) ℕ). with_source s (slice_get b s) others) (answers_same a b n sources (All-tail (λ source. source < n) s sources all) same)

-- ---- what a merge's outcome isn't, and that it has words

answered_not_read : (r : Result Answer MergeFault) → merge_answered r ≢ read_fault
answered_not_read (Ok a) e = cc
answered_not_read (Err why) e = cc

pub merge_not_read : (r : Result (List Answer) ℕ) → merge_outcome r ≢ read_fault
merge_not_read (Err number) e = cc
merge_not_read (Ok []) e = cc
merge_not_read (Ok (a ∷ others)) e = answered_not_read (answer_of (merged_all (merge_of a) others).joined) e

-- the number of the source that failed is below a bound
abbrev pub FailsBelow : ℕ → Result (List Answer) ℕ → Type 0
FailsBelow n (Ok answers) = Unit {0}
FailsBelow n (Err number) = number < n

source_below : (n s : ℕ) (found : Option Outcome) (others : Result (List Answer) ℕ) → s < n → FailsBelow n others → FailsBelow n (with_source s found others)
source_below n s None others lt below = lt
source_below n s (Some (outcome.Failure why)) others lt below = lt
source_below n s (Some (outcome.Answer a)) (Err later) lt below = below
source_below n s (Some (outcome.Answer a)) (Ok more) lt below = tt

answers_below : (outcomes : List Outcome) (n : ℕ) (sources : List ℕ) → All (λ source. source < n) sources → FailsBelow n (answers_of outcomes sources)
answers_below outcomes n [] all = tt
answers_below outcomes n (s ∷ sources) all =
    source_below n s (slice_get outcomes s) (answers_of outcomes sources) (All-head (λ source. source < n) s sources all)
    (answers_below outcomes n sources (All-tail (λ source. source < n) s sources all))

answered_worded : (n : ℕ) (r : Result Answer MergeFault) → HasWords n (merge_answered r)
answered_worded n (Ok a) = tt
answered_worded n (Err why) = tt

outcome_worded : (n : ℕ) (r : Result (List Answer) ℕ) → FailsBelow n r → HasWords n (merge_outcome r)
outcome_worded n (Err number) below = below
outcome_worded n (Ok []) below = tt
outcome_worded n (Ok (a ∷ others)) below = answered_worded n (answer_of (merged_all (merge_of a) others).joined)

pub merge_worded : (outcomes : List Outcome) (n : ℕ) (sources : List ℕ) → All (λ source. source < n) sources → HasWords n (merge_outcome (answers_of outcomes sources))
merge_worded outcomes n sources all = outcome_worded n (answers_of outcomes sources) (answers_below outcomes n sources all)

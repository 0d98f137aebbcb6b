-- The outcomes of the fragments of a plan, where some of its scans weren't read. Source: this project's own.
use Rattle.std.specs.Prelude.{◌≡◌, ℕ, Bool, true, false, List, [], ◌∷◌, length, slice_get, Option, Some, None, Result, Ok, Err}
use Rattle.outside.specs.Files.{Files}
use Rattle.fragment_plan.specs.declared.fragment.Fragment.{Fragment}
use Rattle.fragment_plan.specs.declared.fragment.Scan.{Scan}
use Rattle.fragment_plan.specs.declared.fragment.Work.{Work}
use Rattle.fragment_plan.specs.declared.fragment.Work.TheVariants as work
use Rattle.fragment_outcome.specs.declared.answer.Answer.{Answer}
use Rattle.fragment_outcome.specs.declared.answer.Answer.TheVariants as answer
use Rattle.fragment_outcome.specs.declared.failure.Failure.TheVariants as failure
use Rattle.fragment_outcome.specs.declared.outcome.Outcome.{Outcome}
use Rattle.fragment_outcome.specs.declared.outcome.Outcome.TheVariants as outcome
use Rattle.fragment_folds.specs.declared.faults.MergeFault.{MergeFault}
use Rattle.fragment_folds.specs.Merging.{answer_of, merge_of, merged_all}
use Rattle.fragment_meaning.specs.ScanOutcome.{ScanMeans, failed}

-- ---- merges

abbrev pub with_source : ℕ → Option Outcome → Result (List Answer) ℕ → Result (List Answer) ℕ
with_source number None others = Err number
with_source number (Some (outcome.Failure why)) others = Err number
with_source number (Some (outcome.Answer a)) (Err later) = Err later
with_source number (Some (outcome.Answer a)) (Ok more) = Ok (a ∷ more)

-- the answers of a merge's sources, in the order of its line, or the first of them that failed
abbrev pub answers_of : List Outcome → List ℕ → Result (List Answer) ℕ
answers_of outcomes [] = Ok []
answers_of outcomes (number ∷ numbers) = with_source number (slice_get outcomes number) (answers_of outcomes numbers)

abbrev pub merge_answered : Result Answer MergeFault → Outcome
merge_answered (Ok a) = outcome.Answer a
merge_answered (Err why) = failed failure.Overflow

-- the outcome of a merge: the first source that failed, or the sources' answers merged in order; a plan has no merge of nothing
abbrev pub merge_outcome : Result (List Answer) ℕ → Outcome
merge_outcome (Err number) = failed (failure.SourceFailed number)
merge_outcome (Ok []) = outcome.Answer (answer.Rows [])
merge_outcome (Ok (first ∷ others)) = merge_answered (answer_of (merged_all (merge_of first) others).joined)

-- ---- fragments

-- a scan that wasn't read has a read fault, and every other one what it means
abbrev pub IsScanOutcome : Files → Bool → Scan → Outcome → Type 0
IsScanOutcome files true scan o = o ≡ failed failure.ReadFault
IsScanOutcome files false scan o = ScanMeans files scan o

-- the outcome of fragment number `number`, by those of all fragments
abbrev pub IsFragmentOutcome : Files → (ℕ → Bool) → List Outcome → ℕ → Work → Outcome → Type 0
IsFragmentOutcome files unread outcomes number (work.Scan scan) o = IsScanOutcome files (unread number) scan o
IsFragmentOutcome files unread outcomes number (work.Merge sources) o = o ≡ merge_outcome (answers_of outcomes sources)

-- These are the outcomes of a plan's fragments over the files of a run, where the scans of some numbers weren't read: one for each, in
-- plan order. What a plan means is its outcomes where each scan was read.
pub record AreOutcomes (files : Files) (unread : ℕ → Bool) (plan : List Fragment) (outcomes : List Outcome) : Type 0 where
  pub all : length outcomes ≡ length plan
  pub each : (number : ℕ) (fragment : Fragment) (o : Outcome) → slice_get plan number ≡ Some fragment → slice_get outcomes number ≡ Some o
      → IsFragmentOutcome files unread outcomes number fragment.work o

abbrev pub all_read : ℕ → Bool
all_read number = false

abbrev pub PlanMeans : Files → List Fragment → List Outcome → Type 0
PlanMeans files plan outcomes = AreOutcomes files all_read plan outcomes

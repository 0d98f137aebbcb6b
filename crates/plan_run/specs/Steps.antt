-- A run on its way: the outcomes of the first fragments of a plan.
use Rattle.std.specs.Prelude.{◌≡◌, ◌≢◌, ◌≤◌, ◌++◌, ℕ, Bool, List, length, slice_get, Option, Some, All}
use Rattle.outside.specs.Files.{Files}
use Rattle.outside.specs.Told.{Extended}
use Rattle.fragment_plan.specs.declared.fragment.Fragment.{Fragment}
use Rattle.fragment_plan.specs.declared.fragment.Work.{Work}
use Rattle.fragment_plan.specs.declared.fragment.Work.TheVariants as work
use Rattle.fragment_outcome.specs.declared.outcome.Outcome.{Outcome}
use Rattle.fragment_meaning.specs.PlanOutcomes.{IsFragmentOutcome, answers_of, merge_outcome}
use Rattle.fragment_meaning.specs.ScanOutcome.{ScanMeans}
use Rattle.plan_run.specs.Reading.{AreFew, read_faults, unread_in}
use Rattle.plan_run.specs.Run.{read_fault}
use Rattle.plan_run.specs.Words.{HasWords}

-- what a fragment was answered, by the outcomes of those before it
abbrev pub IsRunBy : Option Files → List Outcome → Work → Outcome → Type 0
IsRunBy told before (work.Scan scan) o = (files : Files) → told ≡ Some files → o ≢ read_fault → ScanMeans files scan o
IsRunBy told before (work.Merge sources) o = o ≡ merge_outcome (answers_of before sources)

abbrev pub IsRun : Option Files → List Fragment → ℕ → List Outcome → Outcome → Type 0
IsRun told plan number before o = (fragment : Fragment) → slice_get plan number ≡ Some fragment → IsRunBy told before fragment.work o

-- these are the outcomes of the first fragments
abbrev pub AreFirst : Files → (ℕ → Bool) → List Fragment → List Outcome → Type 0
AreFirst files unread plan outcomes = (number : ℕ) (fragment : Fragment) (o : Outcome) → slice_get plan number ≡ Some fragment
    → slice_get outcomes number ≡ Some o → IsFragmentOutcome files unread outcomes number fragment.work o

-- a run of the first fragments gave these
pub record HasBegun (told : Option Files) (faults faults' : ℕ) (plan : List Fragment) (outcomes : List Outcome) : Type 0 where
  pub later : faults ≤ faults'
  pub meaning : (files : Files) → told ≡ Some files → AreFirst files (unread_in outcomes) plan outcomes
  pub few : AreFew faults faults' (read_faults outcomes)
  pub worded : All (HasWords (length plan)) outcomes

-- of a text a front was written, and the rest is left
pub record HasWritten (before after : Option (List ℕ)) (whole rest : List ℕ) : Type 0 where
  pub sent : List ℕ
  pub all : sent ++ rest ≡ whole
  pub told : Extended before after sent

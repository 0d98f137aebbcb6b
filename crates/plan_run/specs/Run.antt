-- What a run of a plan gives: an outcome for each fragment, in plan order. Source: this project's own.
use Rattle.std.specs.Prelude.{◌≡◌, ◌≢◌, ℕ, List, length, Option, Some, All}
use Rattle.outside.specs.Files.{Files}
use Rattle.fragment_plan.specs.declared.fragment.Fragment.{Fragment}
use Rattle.fragment_plan.specs.declared.fragment.Scan.{Scan}
use Rattle.fragment_outcome.specs.declared.outcome.Outcome.{Outcome}
use Rattle.fragment_outcome.specs.declared.failure.Failure.TheVariants as failure
use Rattle.fragment_folds.specs.Scans.{scan_at}
use Rattle.fragment_meaning.specs.PlanOutcomes.{AreOutcomes}
use Rattle.fragment_meaning.specs.ScanOutcome.{ScanMeans, failed}
use Rattle.plan_run.specs.Reading.{AreFew, read_faults, unread_in}
use Rattle.plan_run.specs.Words.{HasWords}

-- the outcome of a scan that wasn't read
abbrev pub read_fault : Outcome
read_fault = failed failure.ReadFault

-- What a scan of a plan was answered: where files are told it is what the scan means, unless it is a read fault.
abbrev pub IsScanned : Option Files → List Fragment → ℕ → Outcome → Type 0
IsScanned told plan number o =
    (files : Files) (scan : Scan) → told ≡ Some files → scan_at plan number ≡ Some scan → o ≢ read_fault → ScanMeans files scan o

-- What a run gave: an outcome for each fragment; where files are told they are the fragments' outcomes, where just the scans with a
-- read fault weren't read; told or not, there are at most as many of these as the count of faults rose by, and each outcome
-- has words.
pub record HasRun (told : Option Files) (faults faults' : ℕ) (plan : List Fragment) (outcomes : List Outcome) : Type 0 where
  pub all : length outcomes ≡ length plan
  pub meaning : (files : Files) → told ≡ Some files → AreOutcomes files (unread_in outcomes) plan outcomes
  pub few : AreFew faults faults' (read_faults outcomes)
  pub worded : All (HasWords (length plan)) outcomes

-- The laws of plans' outcomes, which this crate's law functions carry. Source: this project's own.
use Rattle.std.specs.Prelude.{◌≡◌, ◌≤◌, ℕ, List, length, Option, Some}
use Rattle.outside.specs.Cause.{Rose}
use Rattle.outside.specs.Files.{Files}
use Rattle.fragment_plan.specs.declared.fragment.Fragment.{Fragment}
use Rattle.fragment_plan.specs.Bounds.{WasRead}
use Rattle.fragment_outcome.specs.declared.outcome.Outcome.{Outcome}
use Rattle.fragment_meaning.specs.PlanOutcomes.{PlanMeans}
use Rattle.plan_run.specs.Run.{HasRun}

-- a plan that was read has at most 1,000 fragments
abbrev pub PlansAreShort : Type 0
PlansAreShort = (plan : List Fragment) → WasRead plan → length plan ≤ 1000

-- where no read failed, a run gives what the plan means
abbrev pub QuietRunsMeanThePlan : Type 0
QuietRunsMeanThePlan = (told : Option Files) (faults faults' : ℕ) (plan : List Fragment) (outcomes : List Outcome) (files : Files)
    → HasRun told faults faults' plan outcomes → told ≡ Some files → ¬ Rose faults faults' → PlanMeans files plan outcomes

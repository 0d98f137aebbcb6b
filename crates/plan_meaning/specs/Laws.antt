-- The laws of the outcomes of a plan, which this crate's law functions carry. Source: this project's own.
use Rattle.std.specs.Prelude.{◌≡◌, ℕ, Bool, List}
use Rattle.outside.specs.Files.{Files}
use Rattle.fragment_plan.specs.declared.fragment.Fragment.{Fragment}
use Rattle.fragment_plan.specs.Bounds.{AllInBounds}
use Rattle.fragment_outcome.specs.declared.outcome.Outcome.{Outcome}
use Rattle.fragment_meaning.specs.PlanOutcomes.{AreOutcomes}

-- the fragments of a plan have outcomes, where the scans of some numbers weren't read
abbrev pub PlansHaveOutcomes : Type 0
PlansHaveOutcomes =
    (files : Files) (unread : ℕ → Bool) (plan : List Fragment) → AllInBounds plan
    → (outcomes : List Outcome) × AreOutcomes files unread plan outcomes

-- and they are one list
abbrev pub OutcomesOfPlansAreOne : Type 0
OutcomesOfPlansAreOne =
    (files : Files) (unread : ℕ → Bool) (plan : List Fragment) (a b : List Outcome) → AllInBounds plan
    → AreOutcomes files unread plan a → AreOutcomes files unread plan b → a ≡ b

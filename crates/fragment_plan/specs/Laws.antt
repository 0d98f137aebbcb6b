-- What holds of the plan language.
use Rattle.std.specs.Prelude.{◌≡◌, ℕ, List, Ok, Err}
use Rattle.plan_words.specs.declared.fault.PlanKind.{PlanKind}
use Rattle.fragment_plan.specs.declared.fragment.Fragment.{Fragment}
use Rattle.fragment_plan.specs.Plan.{plan_of}
use Rattle.fragment_plan.specs.Bounds.{AllInBounds}

-- the numbers of a plan that is read lie in bounds
abbrev pub PlansAreInBounds : Type 0
PlansAreInBounds = (bytes : List ℕ) (plan : List Fragment) → plan_of bytes ≡ Ok plan → AllInBounds plan

-- bytes determine their plan
abbrev pub APlanIsOne : Type 0
APlanIsOne = (bytes : List ℕ) (one two : List Fragment) → plan_of bytes ≡ Ok one → plan_of bytes ≡ Ok two → one ≡ two

-- bytes that are no plan determine its first fault
abbrev pub AFaultIsOne : Type 0
AFaultIsOne = (bytes : List ℕ) (one two : ℕ × PlanKind) → plan_of bytes ≡ Err one → plan_of bytes ≡ Err two → one ≡ two

-- no bytes are both
abbrev pub NeverBoth : Type 0
NeverBoth = (bytes : List ℕ) (plan : List Fragment) (fault : ℕ × PlanKind) → plan_of bytes ≡ Ok plan → plan_of bytes ≡ Err fault → ⊥

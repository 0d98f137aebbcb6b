-- What the result of a fragment keeps (this project's own).
use Rattle.std.specs.Prelude.{◌≡◌, ℕ, ◌<◌, Bool, true, false, List, length, slice_get, Option, Some}
use Rattle.outside.specs.Files.{Files}
use Rattle.fragment_plan.specs.declared.fragment.Fragment.{Fragment}
use Rattle.fragment_plan.specs.declared.shape.Shape.{Shape}
use Rattle.fragment_plan.specs.declared.shape.Shape.TheVariants as shape
use Rattle.fragment_plan.specs.Shapes.{shape_at, shapes_of}
use Rattle.fragment_outcome.specs.declared.answer.Answer.{Answer}
use Rattle.fragment_outcome.specs.declared.answer.Answer.TheVariants as answer
use Rattle.fragment_outcome.specs.declared.outcome.Outcome.{Outcome}
use Rattle.fragment_outcome.specs.declared.outcome.Outcome.TheVariants as outcome
use Rattle.fragment_meaning.specs.PlanOutcomes.{PlanMeans}

-- what contracts see of it
pub record KeptOf : Type 0 where
  pub plan : List Fragment
  pub fragment : ℕ
  pub answer : Answer

-- the answer is rows, a count, a sum or groups, as the shape says
abbrev pub is_of_shape : Shape → Answer → Bool
is_of_shape (shape.Rows width) (answer.Rows table) = true
is_of_shape shape.Count (answer.Count number) = true
is_of_shape shape.Sum (answer.Sum total) = true
is_of_shape shape.Group (answer.Group groups) = true
is_of_shape other a = false

-- The answer of a fragment of a plan: told or not, it has the fragment's shape, which for a merge is that of its first source; and
-- where files are told it is what the fragment means.
pub record IsKept (told : Option Files) (plan : List Fragment) (fragment : ℕ) (a : Answer) : Type 0 where
  pub below : fragment < length plan
  pub shape_is : is_of_shape (shape_at (shapes_of plan) fragment) a ≡ true
  pub means : (files : Files) (outcomes : List Outcome) → told ≡ Some files → PlanMeans files plan outcomes
      → slice_get outcomes fragment ≡ Some (outcome.Answer a)

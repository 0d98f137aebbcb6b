-- What holds of the shapes of a plan's fragments (this project's own).
use Rattle.std.specs.Prelude.{◌≡◌, ℕ, List, Some, slice_get}
use Rattle.fragment_plan.specs.declared.fragment.Fragment.{Fragment}
use Rattle.fragment_plan.specs.Bounds.{AllInBounds}
use Rattle.fragment_plan.specs.Shapes.{shape_at, shape_of, shapes_of}

-- the shape of a fragment is that of its work, also where it is looked for among the shapes of all fragments
abbrev pub ShapesByWork : Type 0
ShapesByWork =
    (plan : List Fragment) (f : ℕ) (fragment : Fragment) → AllInBounds plan → slice_get plan f ≡ Some fragment
    → shape_at (shapes_of plan) f ≡ shape_of (shapes_of plan) fragment.work

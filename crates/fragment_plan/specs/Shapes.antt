-- The form of a fragment's result (this project's own).
use Rattle.std.specs.Prelude.{ℕ, Bool, true, false, List, [], ◌∷◌, ◌++◌, length, slice_get, unwrap_or, ◌==◌}
use Rattle.std.specs.List.{list_all}
use Rattle.fragment_plan.specs.declared.fragment.Fragment.{Fragment}
use Rattle.fragment_plan.specs.declared.fragment.Work.{Work}
use Rattle.fragment_plan.specs.declared.fragment.Work.TheVariants.{Scan, Merge}
use Rattle.fragment_plan.specs.declared.fragment.FoldKind.{FoldKind}
use Rattle.fragment_plan.specs.declared.fragment.FoldKind.TheVariants as fold
use Rattle.fragment_plan.specs.declared.shape.Shape.{Shape}
use Rattle.fragment_plan.specs.declared.shape.Shape.TheVariants as shape

-- rows with as many columns, repeats included, are of one shape; so are all counts, all sums, and all groups
abbrev pub is_like : Shape → Shape → Bool
is_like (shape.Rows m) (shape.Rows n) = m == n
is_like (shape.Rows m) shape.Count = false
is_like (shape.Rows m) shape.Sum = false
is_like (shape.Rows m) shape.Group = false
is_like shape.Count (shape.Rows n) = false
is_like shape.Count shape.Count = true
is_like shape.Count shape.Sum = false
is_like shape.Count shape.Group = false
is_like shape.Sum (shape.Rows n) = false
is_like shape.Sum shape.Count = false
is_like shape.Sum shape.Sum = true
is_like shape.Sum shape.Group = false
is_like shape.Group (shape.Rows n) = false
is_like shape.Group shape.Count = false
is_like shape.Group shape.Sum = false
is_like shape.Group shape.Group = true

abbrev pub shape_of_fold : FoldKind → Shape
shape_of_fold (fold.Rows columns) = shape.Rows (length columns)
shape_of_fold fold.Count = shape.Count
shape_of_fold (fold.Sum column) = shape.Sum
shape_of_fold (fold.Group column) = shape.Group

-- the shape of an earlier fragment, by its number
abbrev pub shape_at : List Shape → ℕ → Shape
shape_at shapes number = unwrap_or (slice_get shapes number) shape.Count

-- the shape of a fragment's work, behind fragments of these shapes: of a merge, that of its first source
abbrev pub shape_of : List Shape → Work → Shape
shape_of shapes (Scan scan) = shape_of_fold scan.fold
shape_of shapes (Merge []) = shape.Count
shape_of shapes (Merge (first ∷ others)) = shape_at shapes first

-- the sources of a merge are all of one shape
abbrev pub is_whole : List Shape → Work → Bool
is_whole shapes (Scan scan) = true
is_whole shapes (Merge sources) = list_all (λ n. is_like (shape_of shapes (Merge sources)) (shape_at shapes n)) sources

-- the shapes of fragments, behind fragments of the shapes `shapes`
abbrev pub shapes_behind : List Shape → List Fragment → List Shape
shapes_behind shapes [] = shapes
shapes_behind shapes (fragment ∷ fragments) = shapes_behind (shapes ++ shape_of shapes fragment.work ∷ []) fragments

-- the shapes of a plan's fragments, in order
abbrev pub shapes_of : List Fragment → List Shape
shapes_of fragments = shapes_behind [] fragments

-- The fragments of the plan over a generated file. Source: this project's own.
use Rattle.std.specs.Prelude.{ℕ, ◌+◌, List, [], ◌∷◌, codes, pos, true}
use Rattle.orc_values.specs.declared.value.Value.TheVariants as value
use Rattle.fragment_plan.specs.declared.fragment.Fragment.{Fragment}
use Rattle.fragment_plan.specs.declared.fragment.FoldKind.{FoldKind}
use Rattle.fragment_plan.specs.declared.fragment.FoldKind.TheVariants as fold
use Rattle.fragment_plan.specs.declared.fragment.Work.TheVariants as work
use Rattle.fragment_plan.specs.declared.test.Check.TheVariants.{Compare}
use Rattle.fragment_plan.specs.declared.test.Op.TheVariants.{Equal, Less}
use Rattle.fragment_plan.specs.declared.test.Test.{Test}

-- a scan of these columns, which nothing waits for
abbrev pub scan_of : List ℕ → FoldKind → List ℕ → List (List ℕ) → List Test → Fragment
scan_of name folded file columns tests = record {
  name = name;
  work = work.Scan (record { file = file; columns = columns; fold = folded; tests = tests });
  after = [];
}

-- the column of that place is below a number
abbrev pub below : ℕ → ℕ → Test
below place most = record { column = place; check = Compare Less (value.Int (pos most)) }

-- the column of that place is true
abbrev pub holds : ℕ → Test
holds place = record { column = place; check = Compare Equal (value.Bool true) }

-- over the file of that name and number: all rows; the sums of `id` and `qty`, and both; the rows of each `city`; and the even rows of
-- the first thousand, and the first three
abbrev pub plan_over : List ℕ → ℕ → List Fragment
plan_over file number =
    scan_of (codes "n") fold.Count file [] []
    ∷ scan_of (codes "s") (fold.Sum 0) file (codes "id" ∷ []) []
    ∷ scan_of (codes "q") (fold.Sum 0) file (codes "qty" ∷ []) []
    ∷ record { name = codes "m"; work = work.Merge (1 ∷ 2 ∷ []); after = [] }
    ∷ scan_of (codes "g") (fold.Group 0) file (codes "city" ∷ []) []
    ∷ scan_of (codes "f") fold.Count file (codes "even" ∷ codes "id" ∷ []) (holds 0 ∷ below 1 (number + 1000) ∷ [])
    ∷ scan_of (codes "r") (fold.Rows (0 ∷ 1 ∷ [])) file (codes "id" ∷ codes "note" ∷ []) (below 0 (number + 3) ∷ [])
    ∷ []

-- What scans of a plan that was read name. Source: this project's own plan language, in which a list of names has a name.
use Rattle.std.specs.Prelude.{◌≡◌, ℕ, ◌<◌, List, [], length, Some, slice_get}
use Rattle.fragment_plan.specs.declared.fragment.Fragment.{Fragment}
use Rattle.fragment_plan.specs.declared.fragment.Scan.{Scan}
use Rattle.fragment_plan.specs.declared.fragment.Work.TheVariants as work
use Rattle.fragment_plan.specs.declared.fragment.FoldKind.{FoldKind}
use Rattle.fragment_plan.specs.declared.fragment.FoldKind.TheVariants as fold
use Rattle.fragment_plan.specs.Bounds.{WasRead}

-- rows that are kept have a column
abbrev pub HasColumns : FoldKind → Type 0
HasColumns (fold.Rows places) = 0 < length places
HasColumns fold.Count = Unit {0}
HasColumns (fold.Sum place) = Unit {0}
HasColumns (fold.Group place) = Unit {0}

-- those of each scan of a plan
abbrev pub RowsHaveColumns : Type 0
RowsHaveColumns = (plan : List Fragment) (number : ℕ) (fragment : Fragment) (scan : Scan)
    → WasRead plan → slice_get plan number ≡ Some fragment → fragment.work ≡ work.Scan scan → HasColumns scan.fold

-- without a column there are only rows to be counted, all of them
abbrev pub ScansWithoutColumnsCount : Type 0
ScansWithoutColumnsCount = (plan : List Fragment) (number : ℕ) (fragment : Fragment) (scan : Scan)
    → WasRead plan → slice_get plan number ≡ Some fragment → fragment.work ≡ work.Scan scan → scan.columns ≡ []
    → (scan.fold ≡ fold.Count) × (scan.tests ≡ [])

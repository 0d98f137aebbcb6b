-- What holds of each plan that was read: its numbers lie in bounds (this project's own).
use Rattle.std.specs.Prelude.{ℕ, ◌<◌, ◌≤◌, List, [], ◌++◌, length, slice_index_or, All, ◌≡◌, Ok}
use Rattle.fragment_plan.specs.Plan.{plan_of}
use Rattle.fragment_plan.specs.declared.fragment.Fragment.{Fragment}
use Rattle.fragment_plan.specs.declared.fragment.Scan.{Scan}
use Rattle.fragment_plan.specs.declared.fragment.Work.{Work}
use Rattle.fragment_plan.specs.declared.fragment.Work.TheVariants as work
use Rattle.fragment_plan.specs.declared.fragment.FoldKind.{FoldKind}
use Rattle.fragment_plan.specs.declared.fragment.FoldKind.TheVariants as fold

-- the places of a fold lie among so many columns
abbrev pub FoldInBounds : ℕ → FoldKind → Type 0
FoldInBounds columns (fold.Rows places) = All (λ place. place < columns) places
FoldInBounds columns fold.Count = Unit {0}
FoldInBounds columns (fold.Sum place) = place < columns
FoldInBounds columns (fold.Group place) = place < columns

pub record ScanInBounds (scan : Scan) : Type 0 where
  -- at most 16 columns
  pub few : length scan.columns ≤ 16
  pub fold_places : FoldInBounds (length scan.columns) scan.fold
  pub test_places : All (λ test. test.column < length scan.columns) scan.tests

-- a merge joins fragments before number `number`
abbrev pub WorkInBounds : ℕ → Work → Type 0
WorkInBounds number (work.Scan scan) = ScanInBounds scan
WorkInBounds number (work.Merge sources) = All (λ source. source < number) sources

-- what holds of fragment number `number`: it names fragments before it
pub record InBounds (number : ℕ) (fragment : Fragment) : Type 0 where
  pub work_is : WorkInBounds number fragment.work
  pub after_is : All (λ other. other < number) fragment.after

-- each fragment's numbers lie in bounds
abbrev pub AllInBounds : List Fragment → Type 0
AllInBounds fragments = (number : ℕ) (d : Fragment) → number < length fragments → InBounds number (slice_index_or fragments number d)

-- some bytes are read as these fragments
abbrev pub WasRead : List Fragment → Type 0
WasRead fragments = (bytes : List ℕ) × (plan_of bytes ≡ Ok fragments)

-- how many distinct columns a fragment reads
abbrev pub width_of : Work → ℕ
width_of (work.Scan scan) = length scan.columns
width_of (work.Merge sources) = 0

-- the fragments that a fragment's merge, then its `after`, names
abbrev pub sources_of : Work → List ℕ
sources_of (work.Scan scan) = []
sources_of (work.Merge sources) = sources

abbrev pub named_of : Fragment → List ℕ
named_of fragment = sources_of fragment.work ++ fragment.after

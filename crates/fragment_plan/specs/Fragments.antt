-- The grammar of a line (this project's own).
--
--   line := NAME scan | NAME "merge" NAMES after
--   scan := fold "from" FILE tests after
--   fold := "rows" COLUMNS | "count" | "sum" COLUMN | "group" COLUMN
use Rattle.std.specs.Prelude.{ℕ, List, [], map, if◌then◌else◌, Result, Ok, codes}
use Rattle.std.specs.Str.{bytes_eq}
use Rattle.plan_words.specs.declared.fault.PlanKind.{PlanKind}
use Rattle.plan_words.specs.declared.fault.PlanKind.TheVariants as kind
use Rattle.plan_words.specs.Reading.{Reads, and_then, ◌>>=◌, ◌>>◌, gives, fails, word, keyword, file_name, end_of_line}
use Rattle.fragment_plan.specs.declared.fragment.Fragment.{Fragment}
use Rattle.fragment_plan.specs.declared.fragment.Work.{Work}
use Rattle.fragment_plan.specs.declared.fragment.Work.TheVariants.{Scan, Merge}
use Rattle.fragment_plan.specs.declared.fragment.FoldKind.{FoldKind}
use Rattle.fragment_plan.specs.declared.fragment.FoldKind.TheVariants.{Rows, Count, Sum, Group}
use Rattle.fragment_plan.specs.declared.shape.Shape.{Shape}
use Rattle.plan_names.specs.Columns.{column, column_list}
use Rattle.fragment_plan.specs.Tests.{tests}
use Rattle.plan_names.specs.Sources.{sources, after, new_name}
use Rattle.fragment_plan.specs.Shapes.{is_whole}

-- behind "rows": COLUMNS
abbrev pub rows_fold : Reads (FoldKind × List (List ℕ))
rows_fold = do
  list ← column_list
  gives (Rows list.0, list.1)

-- behind "sum" and "group": COLUMN
abbrev pub column_fold : (ℕ → FoldKind) → Reads (FoldKind × List (List ℕ))
column_fold folded = do
  at ← column []
  gives (folded at.0, at.1)

-- what a scan makes of its rows, from the word that names it on, with the columns that are named then
abbrev pub fold_by : List ℕ → Reads (FoldKind × List (List ℕ))
fold_by found =
    if bytes_eq found (codes "rows") then rows_fold
    else if bytes_eq found (codes "count") then gives (Count, [])
    else if bytes_eq found (codes "sum") then column_fold (λ place. Sum place)
    else if bytes_eq found (codes "group") then column_fold (λ place. Group place)
    else fails kind.BadWord

-- fold "from" FILE tests
abbrev pub scan_by : List ℕ → Reads Work
scan_by found = do
  folded ← fold_by found
  keyword (codes "from")
  file ← file_name
  chosen ← tests folded.1
  gives (Scan (record { file = file; columns = chosen.1; fold = folded.0; tests = chosen.0 }))

-- "merge" NAMES
abbrev pub merge : List (List ℕ) → Reads Work
merge earlier = do
  numbers ← sources earlier
  gives (Merge numbers)

-- what a fragment does, from the word that names it on
abbrev pub work_by : List (List ℕ) → List ℕ → Reads Work
work_by earlier found = if bytes_eq found (codes "merge") then merge earlier else scan_by found

unfoldable pub work : List (List ℕ) → Reads Work
work earlier = do
  found ← word
  work_by earlier found

-- the fragment, where the sources of a merge are of one shape
abbrev pub shaped : List Shape → Fragment → Reads Fragment
shaped shapes fragment = if is_whole shapes fragment.work then gives fragment else fails kind.ShapeDiffers

-- what stands behind a line's name, behind fragments of these names and shapes: the shapes of a merge's sources are judged last
abbrev pub named_line : List (List ℕ) → List Shape → List ℕ → Reads Fragment
named_line names shapes found = do
  done ← work names
  behind ← after names
  end_of_line
  shaped shapes (record { name = found; work = done; after = behind })

-- a whole line
unfoldable pub line : List (List ℕ) → List Shape → Reads Fragment
line names shapes = do
  found ← new_name names
  named_line names shapes found

-- the names of fragments, in order
abbrev pub names_of : List Fragment → List (List ℕ)
names_of fragments = map (λ fragment. fragment.name) fragments

-- the fragment alone, or the first fault
abbrev pub fragment_by : Reads Fragment → List ℕ → Result Fragment PlanKind
fragment_by read left = and_then (read left) (λ x. Ok x.0)

-- the fragment of a line, or the line's first fault
unfoldable pub fragment_of : List (List ℕ) → List Shape → List ℕ → Result Fragment PlanKind
fragment_of names shapes text = fragment_by (line names shapes) text

-- the fragment of a line behind its name
abbrev pub named_fragment : List (List ℕ) → List Shape → List ℕ → List ℕ → Result Fragment PlanKind
named_fragment names shapes found left = fragment_by (named_line names shapes found) left

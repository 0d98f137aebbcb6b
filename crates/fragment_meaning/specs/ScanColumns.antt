-- The columns of a file that a scan reads, or why it can't. Source: this project's own.
use Rattle.std.specs.Prelude.{ℕ, ◌+◌, ◌==◌, ◌&&◌, ◌||◌, Bool, true, false, nat_lt, if◌then◌else◌}
use Rattle.std.specs.Prelude.{List, [], ◌∷◌, map, Option, Some, None, Result, Ok, Err}
use Rattle.std.specs.List.{list_all}
use Rattle.orc_values.specs.declared.value.Value.{Value}
use Rattle.orc_values.specs.declared.value.Value.TheVariants as value
use Rattle.orc_values.specs.Column.{RowValues}
use Rattle.orc_columns.specs.Spelling.{is_integer_kind}
use Rattle.orc_tail.specs.declared.columns.TopColumn.{TopColumn}
use Rattle.orc_tail.specs.Tail.{column_named}
use Rattle.orc_streams.specs.declared.layout.ReadColumn.{ReadColumn}
use Rattle.orc_batches.specs.Batch.{Batch}
use Rattle.fragment_plan.specs.declared.fragment.Scan.{Scan}
use Rattle.fragment_plan.specs.declared.fragment.FoldKind.{FoldKind}
use Rattle.fragment_plan.specs.declared.fragment.FoldKind.TheVariants as fold
use Rattle.fragment_plan.specs.declared.test.Test.{Test}
use Rattle.fragment_plan.specs.declared.test.Check.{Check}
use Rattle.fragment_plan.specs.declared.test.Check.TheVariants as check
use Rattle.fragment_outcome.specs.declared.failure.Failure.{Failure}
use Rattle.fragment_outcome.specs.declared.failure.Failure.TheVariants as failure

-- ---- which kinds a scan can read: BOOLEAN is 0, SHORT 2, INT 3, LONG 4, STRING 7

abbrev pub is_read_kind : ℕ → Bool
is_read_kind kind = kind == 0 || is_integer_kind kind || kind == 7

-- a literal is of the kind; none is null
abbrev pub literal_fits : ℕ → Value → Bool
literal_fits kind value.Null = false
literal_fits kind (value.Bool b) = kind == 0
literal_fits kind (value.Int n) = is_integer_kind kind
literal_fits kind (value.Text text) = kind == 7

-- whether a value is null can be asked of every kind
abbrev pub check_fits : ℕ → Check → Bool
check_fits kind (check.Compare o literal) = literal_fits kind literal
check_fits kind check.IsNull = true
check_fits kind check.IsNotNull = true

-- what a test asks of the column of a place, which is of that kind: of other columns it asks nothing
abbrev pub test_fits : ℕ → ℕ → Test → Bool
test_fits place kind t = if t.column == place then check_fits kind t.check else true

-- only numbers are added
abbrev pub fold_fits : ℕ → ℕ → FoldKind → Bool
fold_fits place kind (fold.Rows places) = true
fold_fits place kind fold.Count = true
fold_fits place kind (fold.Sum summed) = if summed == place then is_integer_kind kind else true
fold_fits place kind (fold.Group grouped) = true

-- a column of that kind serves the scan at that place among its names
abbrev pub serves : Scan → ℕ → ℕ → Bool
serves scan place kind = is_read_kind kind && (fold_fits place kind scan.fold && list_all (test_fits place kind) scan.tests)

-- ---- the columns by their names, in the order in which the line first names them

abbrev pub with_named : List ℕ → Option TopColumn → Result (List ReadColumn) (List ℕ) → Result (List ReadColumn) (List ℕ)
with_named name None others = Err name
with_named name (Some column) (Err later) = Err later
with_named name (Some column) (Ok columns) = Ok ((record { number = column.number; kind = column.kind }) ∷ columns)

-- the file's columns of these names, or the first name that none of them has
abbrev pub columns_named : List TopColumn → List (List ℕ) → Result (List ReadColumn) (List ℕ)
columns_named tops [] = Ok []
columns_named tops (name ∷ names) = with_named name (column_named name tops) (columns_named tops names)

-- the name of the first column, from a place on, that doesn't serve the scan
abbrev pub first_misfit : Scan → ℕ → List (List ℕ) → List ReadColumn → Option (List ℕ)
first_misfit scan place [] columns = None
first_misfit scan place (name ∷ names) [] = None
first_misfit scan place (name ∷ names) (column ∷ columns) =
    if serves scan place column.kind then first_misfit scan (place + 1) names columns else Some name

abbrev pub if_serving : List ReadColumn → Option (List ℕ) → Result (List ReadColumn) Failure
if_serving columns None = Ok columns
if_serving columns (Some name) = Err (failure.WrongKind name)

-- each missing column comes before each of a wrong kind
abbrev pub if_named : Scan → Result (List ReadColumn) (List ℕ) → Result (List ReadColumn) Failure
if_named scan (Err name) = Err (failure.NoColumn name)
if_named scan (Ok columns) = if_serving columns (first_misfit scan 0 scan.columns columns)

-- the columns of a file that a scan names, one for each name, or why it can't read them
abbrev pub scan_columns : Scan → List TopColumn → Result (List ReadColumn) Failure
scan_columns scan tops = if_named scan (columns_named tops scan.columns)

-- ---- they are read by ascending numbers, each once

abbrev pub placed_in : ReadColumn → List ReadColumn → List ReadColumn
placed_in column [] = column ∷ []
placed_in column (other ∷ others) =
    if nat_lt column.number other.number then column ∷ other ∷ others
    else if column.number == other.number then other ∷ others
    else other ∷ placed_in column others

abbrev pub by_number : List ReadColumn → List ReadColumn
by_number [] = []
by_number (column ∷ columns) = placed_in column (by_number columns)

-- the values of the column of a number, among those that were read
abbrev pub values_at : ℕ → List ReadColumn → Batch → RowValues
values_at number [] batch = []
values_at number (column ∷ columns) [] = []
values_at number (column ∷ columns) (values ∷ batch) = if column.number == number then values else values_at number columns batch

-- the values of columns in the order of their names, from those that were read by ascending numbers
abbrev pub in_named_order : List ReadColumn → Batch → Batch
in_named_order named batch = map (λ column. values_at column.number (by_number named) batch) named

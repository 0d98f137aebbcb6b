-- The rows of a column, by its flags and its typed list.
--
-- Source: Apache ORC specification v1, "Column Encodings": nothing is spelled for a row that is null.
use Rattle.std.specs.Prelude.{ℕ, Bool, true, false, List, length, map, Option, Some, None}
use Rattle.orc_values.specs.declared.value.Value.{Value}
use Rattle.orc_values.specs.declared.value.Value.TheVariants as value
use Rattle.orc_values.specs.declared.column_values.ColumnValues.{ColumnValues}
use Rattle.orc_values.specs.declared.column_values.ColumnValues.TheVariants as list
use Rattle.orc_values.specs.Woven.{woven}

-- the values of some rows
abbrev pub RowValues : Type 0
RowValues = List Value

-- a row's value: null where there is none
abbrev pub value_by : {A : Type 0} → (A → Value) → Option A → Value
value_by kind None = value.Null
value_by kind (Some entry) = kind entry

-- how many values a typed list has
abbrev pub entries_in : ColumnValues → ℕ
entries_in (list.Bools values) = length values.items
entries_in (list.Ints values) = length values.items
entries_in (list.Texts values) = length values
entries_in (list.Chosen values) = length values

-- the values of a typed list
abbrev pub values_in : ColumnValues → List Value
values_in (list.Bools values) = map (λ b. value.Bool b) values.items
values_in (list.Ints values) = map (λ n. value.Int n) values.items
values_in (list.Texts values) = map (λ text. value.Text text) values
values_in (list.Chosen values) = map (λ text. value.Text text) values

-- each row's value: null where its flag isn't set, and else the next of the list
abbrev pub column_of : List Bool → ColumnValues → RowValues
column_of present (list.Bools values) = map (value_by (λ b. value.Bool b)) (woven present values.items)
column_of present (list.Ints values) = map (value_by (λ n. value.Int n)) (woven present values.items)
column_of present (list.Texts values) = map (value_by (λ text. value.Text text)) (woven present values)
column_of present (list.Chosen values) = map (value_by (λ text. value.Text text)) (woven present values)

-- whether a value isn't null
abbrev pub is_present : Value → Bool
is_present value.Null = false
is_present (value.Bool b) = true
is_present (value.Int n) = true
is_present (value.Text text) = true

-- which rows of a column aren't null
abbrev pub present_of : RowValues → List Bool
present_of column = map is_present column

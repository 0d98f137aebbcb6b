-- What follows of the rows of a column: how many they are, and that they are woven of its values.
use Rattle.std.specs.Prelude.{◌≡◌, Bool, true, false, List, [], ◌∷◌, length, map}
use Rattle.std.proofs.Common.{refl, ap, ◌∙◌}
use Rattle.std.proofs.lemmas.List.{length-map}
use Rattle.orc_values.specs.declared.column_values.ColumnValues.{ColumnValues}
use Rattle.orc_values.specs.declared.column_values.ColumnValues.TheVariants as list
use Rattle.orc_values.specs.declared.value.Value.{Value}
use Rattle.orc_values.specs.declared.value.Value.TheVariants as value
use Rattle.orc_values.specs.Woven.{woven}
use Rattle.orc_values.specs.WovenLaws.{length-woven}
use Rattle.orc_values.specs.Column.{value_by, entries_in, values_in, column_of}

pub woven-map : {A : Type 0} (kind : A → Value) (present : List Bool) (values : List A)
    → map (value_by kind) (woven present values) ≡ map (value_by (λ v. v)) (woven present (map kind values))
woven-map kind [] values = refl
woven-map kind (false ∷ present) values = ap (λ (l : List Value). value.Null ∷ l) (woven-map kind present values)
woven-map {A} kind (true ∷ present) [] = let none : List A = [] in ap (λ (l : List Value). value.Null ∷ l) (woven-map kind present none)
woven-map kind (true ∷ present) (x ∷ values) = ap (λ (l : List Value). kind x ∷ l) (woven-map kind present values)

-- the rows are woven of the values
pub column-woven : (present : List Bool) (values : ColumnValues)
    → column_of present values ≡ map (value_by (λ v. v)) (woven present (values_in values))
column-woven present (list.Bools values) = woven-map (λ b. value.Bool b) present values.items
column-woven present (list.Ints values) = woven-map (λ n. value.Int n) present values.items
column-woven present (list.Texts values) = woven-map (λ text. value.Text text) present values
column-woven present (list.Chosen values) = woven-map (λ text. value.Text text) present values

pub length-values_in : (values : ColumnValues) → length (values_in values) ≡ entries_in values
length-values_in (list.Bools values) = length-map values.items (λ b. value.Bool b)
length-values_in (list.Ints values) = length-map values.items (λ n. value.Int n)
length-values_in (list.Texts values) = length-map values (λ text. value.Text text)
length-values_in (list.Chosen values) = length-map values (λ text. value.Text text)

rows-length : {A : Type 0} (kind : A → Value) (present : List Bool) (values : List A)
    → length (map (value_by kind) (woven present values)) ≡ length present
rows-length kind present values = length-map (woven present values) (value_by kind) ∙ length-woven present values

pub length-column_of : (present : List Bool) (values : ColumnValues) → length (column_of present values) ≡ length present
length-column_of present (list.Bools values) = rows-length (λ b. value.Bool b) present values.items
length-column_of present (list.Ints values) = rows-length (λ n. value.Int n) present values.items
length-column_of present (list.Texts values) = rows-length (λ text. value.Text text) present values
length-column_of present (list.Chosen values) = rows-length (λ text. value.Text text) present values

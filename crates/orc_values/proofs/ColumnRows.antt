-- The rows of a column.
use Rattle.std.proofs.Common.{◌≡◌, ◌∙◌, ℕ, zero, suc, ◌+◌, ◌<◌, Bool, true, false, List, [], ◌∷◌, length, map, take, slice_get, Some, refl, sym, ap, arith}
use Rattle.orc_values.specs.declared.value.Value.{Value}
use Rattle.orc_values.specs.declared.value.Value.TheVariants as value
use Rattle.orc_values.specs.declared.column_values.ColumnValues.{ColumnValues}
use Rattle.orc_values.specs.declared.column_values.ColumnValues.TheVariants as list
use Rattle.orc_values.specs.Woven.{present_count, woven}
use Rattle.orc_values.specs.WovenLaws.{present_count-le}
use Rattle.orc_values.specs.Column.{value_by, entries_in, column_of, is_present, present_of}

-- ---- the rows of one type of value

rows-present : {A : Type 0} (kind : A → Value) → ((x : A) → is_present (kind x) ≡ true) → (present : List Bool) (values : List A) → length values ≡ present_count present →
    map is_present (map (value_by kind) (woven present values)) ≡ present
rows-present kind all [] values h = refl
rows-present kind all (false ∷ present) values h = ap (λ (l : List Bool). false ∷ l) (rows-present kind all present values (omega arith))
rows-present kind all (true ∷ present) [] h = absurd (omega arith)
rows-present kind all (true ∷ present) (x ∷ values) h =
    ap (λ (b : Bool). b ∷ map is_present (map (value_by kind) (woven present values))) (all x)
    ∙ ap (λ (l : List Bool). true ∷ l) (rows-present kind all present values (omega arith))

rows_null_at : {A : Type 0} (kind : A → Value) (present : List Bool) (values : List A) (row : ℕ) → slice_get present row ≡ Some false →
    slice_get (map (value_by kind) (woven present values)) row ≡ Some value.Null
rows_null_at kind [] values row unset = absurd (cc)
rows_null_at kind (false ∷ present) values zero unset = refl
rows_null_at kind (true ∷ present) values zero unset = absurd (cc)
rows_null_at kind (false ∷ present) values (suc row) unset = rows_null_at kind present values row unset
rows_null_at {A} kind (true ∷ present) [] (suc row) unset = let none : List A = [] in rows_null_at kind present none row unset
rows_null_at kind (true ∷ present) (x ∷ values) (suc row) unset = rows_null_at kind present values row unset

one_more : {A : Type 0} (x : A) (values : List A) (n : ℕ) → slice_get (x ∷ values) (1 + n) ≡ slice_get values n
one_more x values n = let e : 1 + n ≡ suc n = omega arith in rw e refl

-- the value of a row stands behind those of the rows in front
pub set_at : {A : Type 0} (kind : A → Value) (present : List Bool) (values : List A) (row : ℕ) (x : A) → slice_get present row ≡ Some true → slice_get values (present_count (take row present)) ≡ Some x →
    slice_get (map (value_by kind) (woven present values)) row ≡ Some (kind x)
set_at kind [] values row x set is = absurd (cc)
set_at kind (false ∷ present) values zero x set is = absurd (cc)
set_at kind (true ∷ present) [] zero x set is = absurd (cc)
set_at {A} kind (true ∷ present) (v ∷ values) zero x set is = let same : v ≡ x = cc in ap (λ (v : A). Some (kind v)) same
set_at {A} kind (false ∷ present) values (suc row) x set is =
    let e : 0 + present_count (take row present) ≡ present_count (take row present) = omega arith in
    set_at kind present values row x set (ap (λ (n : ℕ). slice_get values n) (sym e) ∙ is)
set_at kind (true ∷ present) [] (suc row) x set is = absurd (cc)
set_at kind (true ∷ present) (v ∷ values) (suc row) x set is =
    set_at kind present values row x set (sym (one_more v values (present_count (take row present))) ∙ is)

-- ---- the rows of a column

pub column-present : (present : List Bool) (values : ColumnValues) → entries_in values ≡ present_count present → present_of (column_of present values) ≡ present
column-present present (list.Bools values) h = rows-present (λ b. value.Bool b) (λ _. refl) present values.items h
column-present present (list.Ints values) h = rows-present (λ n. value.Int n) (λ _. refl) present values.items h
column-present present (list.Texts values) h = rows-present (λ text. value.Text text) (λ _. refl) present values h
column-present present (list.Chosen values) h = rows-present (λ text. value.Text text) (λ _. refl) present values h

pub null_at : (present : List Bool) (values : ColumnValues) (row : ℕ) → slice_get present row ≡ Some false → slice_get (column_of present values) row ≡ Some value.Null
null_at present (list.Bools values) row unset = rows_null_at (λ b. value.Bool b) present values.items row unset
null_at present (list.Ints values) row unset = rows_null_at (λ n. value.Int n) present values.items row unset
null_at present (list.Texts values) row unset = rows_null_at (λ text. value.Text text) present values row unset
null_at present (list.Chosen values) row unset = rows_null_at (λ text. value.Text text) present values row unset

-- the flags and the list give the column
pub column-again : (present : List Bool) (values : ColumnValues) → entries_in values ≡ present_count present → column_of (present_of (column_of present values)) values ≡ column_of present values
column-again present values h = ap (λ (l : List Bool). column_of l values) (column-present present values h)

pub column-count : (present : List Bool) (values : ColumnValues) → entries_in values ≡ present_count present → entries_in values ≡ present_count (present_of (column_of present values))
column-count present values h = h ∙ ap present_count (sym (column-present present values h))

-- ---- where a value stands

pub set_below : (present : List Bool) (row : ℕ) → slice_get present row ≡ Some true → present_count (take row present) < present_count present
set_below [] row set = absurd (cc)
set_below (false ∷ present) zero set = absurd (cc)
set_below (true ∷ present) zero set = omega arith
set_below (false ∷ present) (suc row) set = omega (arith, set_below present row set)
set_below (true ∷ present) (suc row) set = omega (arith, set_below present row set)

pub all_before : (present : List Bool) (row : ℕ) → row < length present → present_count present ≡ length present → present_count (take row present) ≡ row
all_before [] row h all = absurd (omega arith)
all_before (p ∷ present) zero h all = refl
all_before (false ∷ present) (suc row) h all = absurd (omega (arith, present_count-le present))
all_before (true ∷ present) (suc row) h all = omega (arith, all_before present row (omega arith) (omega (arith, all)))

pub place_is : (present : List Bool) (values : ColumnValues) (row before : ℕ) → entries_in values ≡ present_count present → before ≡ present_count (take row (present_of (column_of present values))) → before ≡ present_count (take row present)
place_is present values row before h is = is ∙ ap (λ (l : List Bool). present_count (take row l)) (column-present present values h)

pub place_seen : (present : List Bool) (values : ColumnValues) (row before : ℕ) → entries_in values ≡ present_count present → before ≡ present_count (take row present) → before ≡ present_count (take row (present_of (column_of present values)))
place_seen present values row before h is = is ∙ ap (λ (l : List Bool). present_count (take row l)) (sym (column-present present values h))

-- What follows of the rows of a batch.
use Rattle.std.specs.Prelude.{◌≡◌, ◌<◌, ℕ, zero, suc, ◌+◌, ◌&&◌, Bool, true, false, List, [], ◌∷◌, ◌++◌, length, map, get_or, filter}
use Rattle.std.proofs.Common.{refl, sym, ◌∙◌, ap, arith, append_assoc, length-append}
use Rattle.std.proofs.lemmas.List.{get_or_at}
use Rattle.orc_values.specs.declared.value.Value.{Value}
use Rattle.orc_values.specs.declared.value.Value.TheVariants as value
use Rattle.fragment_plan.specs.declared.test.Test.{Test}
use Rattle.batch_masks.specs.Checks.{check_holds}
use Rattle.batch_masks.specs.Rows.{field, passes, row_at, rows_from, rows_of}

pub length-rows_from : (k n : ℕ) (columns : List (List Value)) → length (rows_from k n columns) ≡ n
length-rows_from k zero columns = refl
length-rows_from k (suc n) columns = omega (arith, length-rows_from (k + 1) n columns)

-- the row at a place
pub get_or-rows_from : (k n i : ℕ) (columns : List (List Value)) (d : List Value) → i < n
    → get_or (rows_from k n columns) i d ≡ row_at columns (k + i)
get_or-rows_from k zero i columns d lt = absurd (omega arith)
get_or-rows_from k (suc n) zero columns d lt = let e : k ≡ k + 0 = omega arith in ap (row_at columns) e
get_or-rows_from k (suc n) (suc i) columns d lt =
    let e : k + 1 + i ≡ k + suc i = omega arith in
    get_or-rows_from (k + 1) n i columns d (omega arith) ∙ ap (row_at columns) e

-- a row's value in a column is the column's value in the row
pub field-row_at : (columns : List (List Value)) (k c : ℕ) → c < length columns
    → field (row_at columns k) c ≡ get_or (get_or columns c []) k value.Null
field-row_at [] k c lt = absurd (omega arith)
field-row_at (column ∷ columns) k zero lt = refl
field-row_at (column ∷ columns) k (suc c) lt = field-row_at columns k c (omega arith)

-- so many values of a column, from a place on
abbrev from : ℕ → ℕ → List Value → List Value
from k zero column = []
from k (suc n) column = get_or column k value.Null ∷ from (k + 1) n column

from_all : (n k : ℕ) (before column : List Value) → length before ≡ k → length column ≡ n → from k n (before ++ column) ≡ column
from_all zero k before [] len all = refl
from_all zero k before (v ∷ column) len all = absurd (omega arith)
from_all (suc n) k before [] len all = absurd (omega arith)
from_all (suc n) k before (v ∷ column) len all =
    ap (λ (x : Value). x ∷ from (k + 1) n (before ++ v ∷ column)) (get_or_at before v column value.Null k len)
    ∙ ap (λ (l : List Value). v ∷ from (k + 1) n l) (sym (append_assoc before (v ∷ []) column))
    ∙ ap (λ (l : List Value). v ∷ l)
    (from_all n (k + 1) (before ++ v ∷ []) column (omega (arith, length-append before (v ∷ []))) (omega arith))

column_from : (columns : List (List Value)) (k n c : ℕ) → c < length columns
    → map (λ row. field row c) (rows_from k n columns) ≡ from k n (get_or columns c [])
column_from columns k zero c lt = refl
column_from columns k (suc n) c lt =
    ap (λ (v : Value). v ∷ map (λ row. field row c) (rows_from (k + 1) n columns)) (field-row_at columns k c lt)
    ∙ ap (λ (l : List Value). get_or (get_or columns c []) k value.Null ∷ l) (column_from columns (k + 1) n c lt)

-- the values in a column of a batch's rows are the column
pub column_of_rows : (columns : List (List Value)) (n c : ℕ) → c < length columns → length (get_or columns c []) ≡ n
    → map (λ row. field row c) (rows_of n columns) ≡ get_or columns c []
column_of_rows columns n c lt len =
    let none : List Value = [] in
    column_from columns 0 n c lt ∙ from_all n 0 none (get_or columns c []) refl len

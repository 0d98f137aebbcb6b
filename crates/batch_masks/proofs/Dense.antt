-- Numbers that stand one behind the other.
use Rattle.std.proofs.Common.{◌≡◌, ℕ, ◌+◌, ◌*◌, ◌-◌, ◌^◌, ◌%◌, ◌<◌, ◌≤◌, ℤ, pos, negsuc, ◌+ℤ◌, Bool, true, false, not, ◌==◌, Vec, Global, List, [], ◌∷◌, ◌++◌, length, take, map, get_or, bit_or, of_z, w64, FitsSigned, refl, sym, ◌∙◌, ap, arith}
use Rattle.std.proofs.lemmas.Int.{ints}
use Rattle.std.proofs.lemmas.Nat.{le_or_l, le_or_r}
use Rattle.std.proofs.lemmas.List.{length-map, take_more}
use Rattle.orc_values.specs.declared.value.Value.{Value}
use Rattle.orc_values.specs.declared.value.Value.TheVariants as value
use Rattle.orc_values.specs.Woven.{present_count, woven}
use Rattle.orc_values.specs.Column.{value_by, is_present, present_of, entries_in, column_of}
use Rattle.orc_values.specs.declared.column_values.ColumnValues.{ColumnValues}
use Rattle.orc_values.specs.declared.column_values.ColumnValues.TheVariants as list
use Rattle.batch_masks.specs.Totals.{numbers_in, plus_all, has_some, SumOfFew}

-- ---- small numbers

-- a small number that is made positive
above_is : (v : ℤ) → FitsSigned w64 v → (of_z w64 v + 2 ^ 52) % 2 ^ 64 < 2 ^ 53
    → pos ((of_z w64 v + 2 ^ 52) % 2 ^ 64) ≡ v +ℤ pos (2 ^ 52)
above_is (pos n) fits h = omega (arith, ints, fits)
above_is (negsuc n) fits h = omega (arith, ints, fits)

-- the sum with one small number more, each made positive
pub above_more : (v before : ℤ) (seen above sum i : ℕ) → FitsSigned w64 v → (of_z w64 v + 2 ^ 52) % 2 ^ 64 ≡ above → i < 1024
    → (seen < 2 ^ 53 → pos sum ≡ before +ℤ pos (2 ^ 52 * i)) → (seen < 2 ^ 53 → sum ≤ (2 ^ 53 - 1) * i) → bit_or seen above < 2 ^ 53
    → (pos ((sum + above) % 2 ^ 64) ≡ before +ℤ v +ℤ pos (2 ^ 52 * (i + 1))) × ((sum + above) % 2 ^ 64 ≤ (2 ^ 53 - 1) * (i + 1))
above_more v before seen above sum i fits is few value below small =
    let old : seen < 2 ^ 53 = omega (arith, small, le_or_l seen above) in
    let new : above < 2 ^ 53 = omega (arith, small, le_or_r seen above) in
    let one : pos above ≡ v +ℤ pos (2 ^ 52) = ap pos (sym is) ∙ above_is v fits (omega (arith, is, new)) in
    let most = below old in
    let whole : (sum + above) % 2 ^ 64 ≡ sum + above = omega (arith, new, most, few) in
    (omega (arith, ints, whole, one, value old), omega (arith, whole, new, most))

pub without_is : (result total sum : ℤ) (n : ℕ) → result +ℤ pos n ≡ sum → sum ≡ total +ℤ pos n → result ≡ total
without_is result total sum n is all = omega (arith, ints, is, all)

-- ---- sums

plus_all-append : (sum : ℤ) (xs ys : List ℤ) → plus_all sum (xs ++ ys) ≡ plus_all (plus_all sum xs) ys
plus_all-append sum [] ys = refl
plus_all-append sum (x ∷ xs) ys = plus_all-append (sum +ℤ x) xs ys

-- the sum with one number more
pub plus_more : (start sum : ℤ) (xs : List ℤ) (i : ℕ) → i < length xs → sum ≡ plus_all start (take i xs)
    → plus_all start (take (i + 1) xs) ≡ sum +ℤ get_or xs i (pos 0)
plus_more start sum xs i lt is =
    ap (λ (l : List ℤ). plus_all start l) (take_more xs i (pos 0) lt)
    ∙ plus_all-append start (take i xs) (get_or xs i (pos 0) ∷ [])
    ∙ ap (λ (s : ℤ). s +ℤ get_or xs i (pos 0)) (sym is)

plus_shift : (a b c : ℤ) → a +ℤ b +ℤ c ≡ a +ℤ (b +ℤ c)
plus_shift a b c = omega (arith, ints)

-- a sum may begin with 0
pub plus_from : (start sum : ℤ) (xs : List ℤ) → plus_all (start +ℤ sum) xs ≡ start +ℤ plus_all sum xs
plus_from start sum [] = refl
plus_from start sum (x ∷ xs) = ap (λ (s : ℤ). plus_all s xs) (plus_shift start sum x) ∙ plus_from start (sum +ℤ x) xs

plus_zero : (a : ℤ) → a ≡ a +ℤ pos 0
plus_zero a = omega (arith, ints)

pub plus_from_zero : (start : ℤ) (xs : List ℤ) → start +ℤ plus_all (pos 0) xs ≡ plus_all start xs
plus_from_zero start xs = sym (ap (λ (s : ℤ). plus_all s xs) (plus_zero start) ∙ plus_from start (pos 0) xs)

-- a sum of few is one of more
pub few_more : (count more : ℕ) (sum : ℤ) → SumOfFew count sum → count ≤ more → SumOfFew more sum
few_more count more sum few le =
    record { low = omega (arith, ints, few.low, le); high = omega (arith, ints, few.high, le) }

-- ---- values that aren't null

pub present_most : (present : List Bool) → present_count present ≤ length present
present_most [] = omega arith
present_most (true ∷ present) = omega (arith, present_most present)
present_most (false ∷ present) = omega (arith, present_most present)

pub numbers_woven : (present : List Bool) (numbers : List ℤ) → length numbers ≡ present_count present
    → numbers_in (map (value_by (λ n. value.Int n)) (woven present numbers)) ≡ numbers
numbers_woven [] [] all = refl
numbers_woven [] (n ∷ numbers) all = absurd (omega arith)
numbers_woven (false ∷ present) numbers all = numbers_woven present numbers (omega (arith, all))
numbers_woven (true ∷ present) [] all = absurd (omega (arith, all))
numbers_woven (true ∷ present) (n ∷ numbers) all = ap (λ (l : List ℤ). n ∷ l) (numbers_woven present numbers (omega (arith, all)))

pub no_numbers : {A : Type 0} (kind : A → Value) → ((x : A) (values : List Value) → numbers_in (kind x ∷ values) ≡ numbers_in values)
    → (present : List Bool) (values : List A) → numbers_in (map (value_by kind) (woven present values)) ≡ []
no_numbers kind none [] values = refl
no_numbers kind none (false ∷ present) values = no_numbers kind none present values
no_numbers {A} kind none (true ∷ present) [] = let empty : List A = [] in no_numbers kind none present empty
no_numbers kind none (true ∷ present) (x ∷ values) = none x (map (value_by kind) (woven present values)) ∙ no_numbers kind none present values

pub some_is : (numbers : List ℤ) → not (length numbers == 0) ≡ has_some numbers
some_is [] = refl
some_is (n ∷ numbers) = grind arith

-- ---- a column's values

-- no more than it has rows
pub values_most : (column : List Value) (values : ColumnValues) → entries_in values ≡ present_count (present_of column) → entries_in values ≤ length column
values_most column values count = omega (arith, count, present_most (present_of column), length-map column is_present)

-- the rows by a list that is known
pub known_rows : (column : List Value) (values known : ColumnValues) → values ≡ known → column_of (present_of column) values ≡ column → column_of (present_of column) known ≡ column
known_rows column values known is rows = ap (column_of (present_of column)) (sym is) ∙ rows

pub column_numbers : (column : List Value) (numbers : Vec ℤ Global) → length numbers.items ≡ present_count (present_of column) → column_of (present_of column) (list.Ints numbers) ≡ column
    → numbers_in column ≡ numbers.items
column_numbers column numbers count rows = ap numbers_in (sym rows) ∙ numbers_woven (present_of column) numbers.items count

pub column_truths : (column : List Value) (truths : Vec Bool Global) → column_of (present_of column) (list.Bools truths) ≡ column → numbers_in column ≡ []
column_truths column truths rows = ap numbers_in (sym rows) ∙ no_numbers (λ (b : Bool). value.Bool b) (λ x values. refl) (present_of column) truths.items

pub column_texts : (column : List Value) (texts : List (List ℕ)) → column_of (present_of column) (list.Texts texts) ≡ column → numbers_in column ≡ []
column_texts column texts rows = ap numbers_in (sym rows) ∙ no_numbers (λ (t : List ℕ). value.Text t) (λ x values. refl) (present_of column) texts

pub column_chosen : (column : List Value) (texts : List (List ℕ)) → column_of (present_of column) (list.Chosen texts) ≡ column → numbers_in column ≡ []
column_chosen column texts rows = ap numbers_in (sym rows) ∙ no_numbers (λ (t : List ℕ). value.Text t) (λ x values. refl) (present_of column) texts

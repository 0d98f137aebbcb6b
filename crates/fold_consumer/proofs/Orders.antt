-- Batches of columns that are read, and the same in the order of names.
use Rattle.std.proofs.Common.{◌≡◌, ℕ, ◌+◌, ◌==◌, Bool, true, false, if◌then◌else◌, nat_lt, List, [], ◌∷◌, ◌++◌, length, refl, ap, ◌∙◌, length-append, arith, inl, inr, ◌⊎◌}
use Rattle.std.proofs.lemmas.Bool.Decides.{nat_tests}
use Rattle.orc_values.specs.declared.value.Value.{Value}
use Rattle.orc_streams.specs.declared.layout.ReadColumn.{ReadColumn}
use Rattle.orc_batches.specs.Batch.{Batch, IsBatch, behind}
use Rattle.orc_rows.specs.Given.{kinds_in, no_rows}
use Rattle.fragment_folds.specs.Folding.{rows_in}
use Rattle.fragment_meaning.specs.ScanColumns.{placed_in, by_number, values_at, in_named_order}
use Rattle.fold_consumer.specs.Pieces.{in_order}
use Rattle.fold_consumer.proofs.Rows.{Long, SameWidth}

-- a batch has so many rows of each column
abbrev pub Rect : List ReadColumn → ℕ → Batch → Type 0
Rect [] n [] = Unit {0}
Rect [] n (x ∷ xs) = ⊥
Rect (column ∷ columns) n [] = ⊥
Rect (column ∷ columns) n (x ∷ xs) = (length x ≡ n) × Rect columns n xs

pub batch_is_rect : (read : List ReadColumn) (n : ℕ) (batch : Batch) → IsBatch (kinds_in read) n batch → Rect read n batch
batch_is_rect [] n [] is = tt
batch_is_rect [] n (x ∷ xs) is = absurd is
batch_is_rect (column ∷ columns) n [] is = absurd is
batch_is_rect (column ∷ columns) n (x ∷ xs) is = (is.0, batch_is_rect columns n xs is.2)

pub rect_rows : (column : ReadColumn) (columns : List ReadColumn) (n : ℕ) (batch : Batch) → Rect (column ∷ columns) n batch → rows_in batch ≡ n
rect_rows column columns n [] is = absurd is
rect_rows column columns n (x ∷ xs) is = is.0

pub none_is_rect : (read : List ReadColumn) → Rect read 0 (no_rows read)
none_is_rect [] = tt
none_is_rect (column ∷ columns) = (refl, none_is_rect columns)

pub behind_is_rect : (read : List ReadColumn) (n m : ℕ) (a b : Batch) → Rect read n a → Rect read m b → Rect read (n + m) (behind a b)
behind_is_rect [] n m [] b is also = tt
behind_is_rect [] n m (x ∷ xs) b is also = absurd is
behind_is_rect (column ∷ columns) n m [] b is also = absurd is
behind_is_rect (column ∷ columns) n m (x ∷ xs) [] is also = absurd also
behind_is_rect (column ∷ columns) n m (x ∷ xs) (y ∷ ys) is also =
    (length-append x y ∙ ap (λ (k : ℕ). k + length y) is.0 ∙ ap (λ (k : ℕ). n + k) also.0, behind_is_rect columns n m xs ys is.1 also.1)

if_joined : (t : Bool) (x y u v w : List Value) → w ≡ u ++ v → (if t then x ++ y else w) ≡ (if t then x else u) ++ (if t then y else v)
if_joined true x y u v w is = refl
if_joined false x y u v w is = is

values_joined : (number : ℕ) (read : List ReadColumn) (n m : ℕ) (a b : Batch) → Rect read n a → Rect read m b
    → values_at number read (behind a b) ≡ values_at number read a ++ values_at number read b
values_joined number [] n m a b is also = refl
values_joined number (column ∷ columns) n m [] b is also = absurd is
values_joined number (column ∷ columns) n m (x ∷ xs) [] is also = absurd also
values_joined number (column ∷ columns) n m (x ∷ xs) (y ∷ ys) is also =
    if_joined (column.number == number) x y (values_at number columns xs) (values_at number columns ys) (values_at number columns (behind xs ys))
    (values_joined number columns n m xs ys is.1 also.1)

pub order_joined : (read columns : List ReadColumn) (n m : ℕ) (a b : Batch) → Rect read n a → Rect read m b
    → in_order read columns (behind a b) ≡ behind (in_order read columns a) (in_order read columns b)
order_joined read [] n m a b is also = refl
order_joined read (column ∷ columns) n m a b is also =
    ap (λ (x : List Value). batch_then x (in_order read columns (behind a b))) (values_joined column.number read n m a b is also)
    ∙ ap (λ (xs : Batch). batch_then (values_at column.number read a ++ values_at column.number read b) xs) (order_joined read columns n m a b is also)
  where
    batch_then : List Value → Batch → Batch
    batch_then x xs = x ∷ xs

pub same_width : (read columns : List ReadColumn) (a b : Batch) → SameWidth (in_order read columns a) (in_order read columns b)
same_width read [] a b = tt
same_width read (column ∷ columns) a b = same_width read columns a b

-- ---- each column that is named is read

abbrev HasNumber : ℕ → List ReadColumn → Type 0
HasNumber number [] = ⊥
HasNumber number (column ∷ columns) = (column.number ≡ number) ⊎ HasNumber number columns

abbrev AllRead : List ReadColumn → List ReadColumn → Type 0
AllRead [] read = Unit {0}
AllRead (column ∷ columns) read = HasNumber column.number read × AllRead columns read

is_equal : (a b : ℕ) → (a == b) ≡ true → b ≡ a
is_equal a b t = grind (arith, nat_tests)

if_has : (less same : Bool) (number : ℕ) (c x : ReadColumn) (xs placed : List ReadColumn) → ((c.number == x.number) ≡ same) → HasNumber c.number placed
    → HasNumber c.number (if less then c ∷ x ∷ xs else if same then x ∷ xs else x ∷ placed)
if_has true same number c x xs placed e has = inl refl
if_has false true number c x xs placed e has = inl (is_equal c.number x.number e)
if_has false false number c x xs placed e has = inr has

placed_has : (c : ReadColumn) (xs : List ReadColumn) → HasNumber c.number (placed_in c xs)
placed_has c [] = inl refl
placed_has c (x ∷ xs) = if_has (nat_lt c.number x.number) (c.number == x.number) c.number c x xs (placed_in c xs) refl (placed_has c xs)

later_has : (number : ℕ) (x : ReadColumn) (xs placed : List ReadColumn) → (HasNumber number xs → HasNumber number placed)
    → HasNumber number (x ∷ xs) → HasNumber number (x ∷ placed)
later_has number x xs placed more (inl here) = inl here
later_has number x xs placed more (inr later) = inr (more later)

if_kept : (less same : Bool) (number : ℕ) (c x : ReadColumn) (xs placed : List ReadColumn) → (HasNumber number xs → HasNumber number placed) → HasNumber number (x ∷ xs)
    → HasNumber number (if less then c ∷ x ∷ xs else if same then x ∷ xs else x ∷ placed)
if_kept true same number c x xs placed more has = inr has
if_kept false true number c x xs placed more has = has
if_kept false false number c x xs placed more has = later_has number x xs placed more has

placed_keeps : (number : ℕ) (c : ReadColumn) (xs : List ReadColumn) → HasNumber number xs → HasNumber number (placed_in c xs)
placed_keeps number c [] has = absurd has
placed_keeps number c (x ∷ xs) has =
    if_kept (nat_lt c.number x.number) (c.number == x.number) number c x xs (placed_in c xs) (placed_keeps number c xs) has

all_keep : (c : ReadColumn) (columns read : List ReadColumn) → AllRead columns read → AllRead columns (placed_in c read)
all_keep c [] read all = tt
all_keep c (column ∷ columns) read all = (placed_keeps column.number c read all.0, all_keep c columns read all.1)

all_read : (named : List ReadColumn) → AllRead named (by_number named)
all_read [] = tt
all_read (column ∷ columns) = (placed_has column (by_number columns), all_keep column columns (by_number columns) (all_read columns))

if_long : (t : Bool) (n : ℕ) (x y : List Value) → length x ≡ n → length y ≡ n → length (if t then x else y) ≡ n
if_long true n x y is also = is
if_long false n x y is also = also

first_long : (t : Bool) (number at n : ℕ) (x y : List Value) → ((number == at) ≡ t) → length x ≡ n → (number ≡ at) ⊎ (length y ≡ n) → length (if t then x else y) ≡ n
first_long true number at n x y e is has = is
first_long false number at n x y e is (inl same) = absurd (differ number at same e)
  where
    differ : (a b : ℕ) → a ≡ b → (a == b) ≡ false → ⊥
    differ a b same e = grind (arith, nat_tests)
first_long false number at n x y e is (inr later) = later

values_long : (number : ℕ) (read : List ReadColumn) (n : ℕ) (batch : Batch) → Rect read n batch → HasNumber number read → length (values_at number read batch) ≡ n
values_long number [] n batch is has = absurd has
values_long number (column ∷ columns) n [] is has = absurd is
values_long number (column ∷ columns) n (x ∷ xs) is (inl here) = first_long (column.number == number) column.number number n x (values_at number columns xs) refl is.0 (inl here)
values_long number (column ∷ columns) n (x ∷ xs) is (inr later) =
    if_long (column.number == number) n x (values_at number columns xs) is.0 (values_long number columns n xs is.1 later)

order_by_read : (read columns : List ReadColumn) (n : ℕ) (batch : Batch) → Rect read n batch → AllRead columns read → Long n (in_order read columns batch)
order_by_read read [] n batch is all = tt
order_by_read read (column ∷ columns) n batch is all = (values_long column.number read n batch is all.0, order_by_read read columns n batch is all.1)

-- a batch in the order of its names has as many rows
pub order_long : (named : List ReadColumn) (n : ℕ) (batch : Batch) → Rect (by_number named) n batch → Long n (in_named_order named batch)
order_long named n batch is = order_by_read (by_number named) named n batch is (all_read named)

if_some : (less same : Bool) (c x : ReadColumn) (xs placed : List ReadColumn) → (if less then c ∷ x ∷ xs else if same then x ∷ xs else x ∷ placed) ≡ [] → ⊥
if_some true same c x xs placed e = absurd cc
if_some false true c x xs placed e = absurd cc
if_some false false c x xs placed e = absurd cc

placed_some : (c : ReadColumn) (xs : List ReadColumn) → placed_in c xs ≡ [] → ⊥
placed_some c [] e = absurd cc
placed_some c (x ∷ xs) e = if_some (nat_lt c.number x.number) (c.number == x.number) c x xs (placed_in c xs) e

-- where no column is read, none is named
pub none_named : (named : List ReadColumn) → by_number named ≡ [] → named ≡ []
none_named [] e = refl
none_named (column ∷ columns) e = absurd (placed_some column (by_number columns) e)

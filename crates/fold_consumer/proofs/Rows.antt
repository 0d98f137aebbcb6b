-- Rows of batches that are joined.
use Rattle.std.proofs.Common.{◌≡◌, ℕ, zero, suc, ◌+◌, ◌<◌, ◌≤◌, List, [], ◌∷◌, ◌++◌, length, replicate, get_or, refl, sym, ap, ◌∙◌, arith}
use Rattle.std.proofs.lemmas.List.{get_or_append_left, get_or-append-add}
use Rattle.orc_values.specs.declared.value.Value.{Value}
use Rattle.orc_values.specs.declared.value.Value.TheVariants as value
use Rattle.orc_batches.specs.Batch.{Batch, behind}
use Rattle.batch_masks.specs.Rows.{row_at, rows_from, rows_of}

-- each of the columns has so many rows
abbrev pub Long : ℕ → Batch → Type 0
Long n [] = Unit {0}
Long n (column ∷ columns) = (length column ≡ n) × Long n columns

-- there are as many columns
abbrev pub SameWidth : Batch → Batch → Type 0
SameWidth [] [] = Unit {0}
SameWidth [] (y ∷ ys) = ⊥
SameWidth (x ∷ xs) [] = ⊥
SameWidth (x ∷ xs) (y ∷ ys) = SameWidth xs ys

abbrev front_of : Value → List Value → List Value
front_of v row = v ∷ row

row_front : (n k : ℕ) (a b : Batch) → k < n → Long n a → row_at (behind a b) k ≡ row_at a k
row_front n k [] b lt long = refl
row_front n k (x ∷ xs) [] lt long = refl
row_front n k (x ∷ xs) (y ∷ ys) lt long =
    let within : k < length x = omega (arith, long.0) in
    ap (λ (v : Value). front_of v (row_at (behind xs ys) k)) (get_or_append_left x y value.Null k within)
    ∙ ap (λ (row : List Value). front_of (get_or x k value.Null) row) (row_front n k xs ys lt long.1)

row_back : (n k : ℕ) (a b : Batch) → SameWidth a b → Long n a → row_at (behind a b) (n + k) ≡ row_at b k
row_back n k [] [] same long = refl
row_back n k [] (y ∷ ys) same long = absurd same
row_back n k (x ∷ xs) [] same long = absurd same
row_back n k (x ∷ xs) (y ∷ ys) same long =
    ap (λ (v : Value). front_of v (row_at (behind xs ys) (n + k))) (ap (λ (m : ℕ). get_or (x ++ y) (m + k) value.Null) (sym long.0) ∙ get_or-append-add x y k value.Null)
    ∙ ap (λ (row : List Value). front_of (get_or y k value.Null) row) (row_back n k xs ys same long.1)

abbrev row_then : List Value → List (List Value) → List (List Value)
row_then row rows = row ∷ rows

rows_front : (n k count : ℕ) (a b : Batch) → k + count ≤ n → Long n a → rows_from k count (behind a b) ≡ rows_from k count a
rows_front n k zero a b le long = refl
rows_front n k (suc count) a b le long =
    ap (λ (row : List Value). row_then row (rows_from (k + 1) count (behind a b))) (row_front n k a b (omega arith) long)
    ∙ ap (λ (rows : List (List Value)). row_then (row_at a k) rows) (rows_front n (k + 1) count a b (omega arith) long)

rows_back : (n k count : ℕ) (a b : Batch) → SameWidth a b → Long n a → rows_from (n + k) count (behind a b) ≡ rows_from k count b
rows_back n k zero a b same long = refl
rows_back n k (suc count) a b same long =
    let next : (n + k) + 1 ≡ n + (k + 1) = omega arith in
    ap (λ (row : List Value). row_then row (rows_from ((n + k) + 1) count (behind a b))) (row_back n k a b same long)
    ∙ ap (λ (m : ℕ). row_then (row_at b k) (rows_from m count (behind a b))) next
    ∙ ap (λ (rows : List (List Value)). row_then (row_at b k) rows) (rows_back n (k + 1) count a b same long)

rows_split : (k p q : ℕ) (columns : Batch) → rows_from k (p + q) columns ≡ rows_from k p columns ++ rows_from (k + p) q columns
rows_split k zero q columns =
    let all : zero + q ≡ q = omega arith in
    let at : k ≡ k + zero = omega arith in
    ap (λ (m : ℕ). rows_from k m columns) all ∙ ap (λ (m : ℕ). rows_from m q columns) at
rows_split k (suc p) q columns =
    let more : suc p + q ≡ suc (p + q) = omega arith in
    let at : (k + 1) + p ≡ k + suc p = omega arith in
    ap (λ (m : ℕ). rows_from k m columns) more
    ∙ ap (λ (rows : List (List Value)). row_then (row_at columns k) rows) (rows_split (k + 1) p q columns)
    ∙ ap (λ (m : ℕ). row_then (row_at columns k) (rows_from (k + 1) p columns ++ rows_from m q columns)) at

-- rows of a batch behind another are those of the one and then those of the other
pub rows_joined : (n m : ℕ) (a b : Batch) → SameWidth a b → Long n a → rows_of n a ++ rows_of m b ≡ rows_of (n + m) (behind a b)
rows_joined n m a b same long =
    let at : n + 0 ≡ 0 + n = omega arith in
    sym (rows_split 0 n m (behind a b)
    ∙ ap (λ (rows : List (List Value)). rows ++ rows_from (0 + n) m (behind a b)) (rows_front n 0 n a b (omega arith) long)
    ∙ ap (λ (k : ℕ). rows_of n a ++ rows_from k m (behind a b)) (sym at)
    ∙ ap (λ (rows : List (List Value)). rows_of n a ++ rows) (rows_back n 0 m a b same long))

abbrev none : List Value
none = []

rows_of_none : (k n : ℕ) → rows_from k n [] ≡ replicate n none
rows_of_none k zero = refl
rows_of_none k (suc n) = ap (λ (rows : List (List Value)). row_then none rows) (rows_of_none (k + 1) n)

-- the same without columns
pub rows_counted : (n m : ℕ) → rows_of n [] ++ replicate m none ≡ rows_of (n + m) []
rows_counted n m = ap (λ (rows : List (List Value)). rows_of n [] ++ rows) (sym (rows_of_none (0 + n) m)) ∙ sym (rows_split 0 n m [])

rows_length : (k n : ℕ) (columns : Batch) → length (rows_from k n columns) ≡ n
rows_length k zero columns = refl
rows_length k (suc n) columns = ap suc (rows_length (k + 1) n columns)

pub rows_of-length : (n : ℕ) (columns : Batch) → length (rows_of n columns) ≡ n
rows_of-length n columns = rows_length 0 n columns

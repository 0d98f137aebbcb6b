-- Lists of views read by `get_elem?`, as the table has them; a list with one element changed; sums over such lists.
use Rattle.std.proofs.Common.{◌≡◌, ◌≢◌, ℕ, zero, suc, ◌+◌, ◌<◌, ◌≤◌, List, [], ◌∷◌, ◌++◌, length, get_or, set, refl, sym, ap, inl, inr, arith, add-zero, zero-add}
use Rattle.std.proofs.lemmas.Bool.{cases_eq}
use Rattle.std.proofs.lemmas.List.{get_or-set_same, get_or-set_other, length-set}
use mathlib.Core.Option.{some, some-injective, some-ne-none}
use lib.ListN.{get_elem?}
use Rattle.pool_model.specs.Pool.{total}

pub elem_below : {A : Type 0} (l : List A) (i : ℕ) (a : A) → get_elem? l i ≡ some a → i < length l
elem_below [] i a e = absurd (some-ne-none a (sym e))
elem_below (x ∷ xs) zero a e = omega arith
elem_below (x ∷ xs) (suc i) a e = omega (arith, elem_below xs i a e)

pub elem_is : {A : Type 0} (l : List A) (i : ℕ) (a d : A) → get_elem? l i ≡ some a → get_or l i d ≡ a
elem_is [] i a d e = absurd (some-ne-none a (sym e))
elem_is (x ∷ xs) zero a d e = some-injective x a e
elem_is (x ∷ xs) (suc i) a d e = elem_is xs i a d e

-- what the changed element and the old one have in common, each element of the changed list has as before
pub same_at : {A B : Type 0} (F : A → B) (xs : List A) (i : ℕ) (w d : A) → i < length xs → F w ≡ F (get_or xs i d) → (n : ℕ) → F (get_or (set xs i w) n d) ≡ F (get_or xs n d)
same_at F xs i w d h e n =
    elim (cases_eq n i) [
      | inl same ↦ rw (same, get_or-set_same xs i w d h) e
      | inr other ↦ rw (get_or-set_other xs i n w d other) refl
    ]

-- one element changes: the sum loses its old part and gains the new one
pub total-set_from : {A : Type 0} (f : ℕ → A → ℕ) (i : ℕ) (xs : List A) (k : ℕ) (y d : A) → k < length xs → total f i (set xs k y) + f (i + k) (get_or xs k d) ≡ total f i xs + f (i + k) y
total-set_from f i [] k y d h = absurd (omega arith)
total-set_from f i (x ∷ xs) zero y d h = simp add-zero (omega arith)
total-set_from f i (x ∷ xs) (suc k) y d h =
    let e : i + suc k ≡ i + 1 + k = omega arith in
    rw e (omega (arith, total-set_from f (i + 1) xs k y d (omega arith)))

pub total-set : {A : Type 0} (f : ℕ → A → ℕ) (xs : List A) (k : ℕ) (y d : A) → k < length xs → total f 0 (set xs k y) + f k (get_or xs k d) ≡ total f 0 xs + f k y
total-set f xs k y d h = simp zero-add at (total-set_from f 0 xs k y d h)

-- one element's part is at most the sum
pub total-at_from : {A : Type 0} (f : ℕ → A → ℕ) (i : ℕ) (xs : List A) (k : ℕ) (d : A) → k < length xs → f (i + k) (get_or xs k d) ≤ total f i xs
total-at_from f i [] k d h = absurd (omega arith)
total-at_from f i (x ∷ xs) zero d h = simp add-zero (omega arith)
total-at_from f i (x ∷ xs) (suc k) d h =
    let e : i + suc k ≡ i + 1 + k = omega arith in
    rw e (omega (arith, total-at_from f (i + 1) xs k d (omega arith)))

pub total-at : {A : Type 0} (f : ℕ → A → ℕ) (xs : List A) (k : ℕ) (d : A) → k < length xs → f k (get_or xs k d) ≤ total f 0 xs
total-at f xs k d h = simp zero-add at (total-at_from f 0 xs k d h)

-- two elements' parts together are at most the sum, where the function is 0 of some element
pub total-two : {A : Type 0} (f : ℕ → A → ℕ) (xs : List A) (j k : ℕ) (z d : A) → j ≢ k → j < length xs → k < length xs → f k z ≡ 0 → f j (get_or xs j d) + f k (get_or xs k d) ≤ total f 0 xs
total-two f xs j k z d apart hj hk none =
    let without = total-set f xs k z d hk in
    let below : j < length (set xs k z) = rw length-set hj in
    let part = total-at f (set xs k z) j d below in
    let same : f j (get_or (set xs k z) j d) ≡ f j (get_or xs j d) = ap (f j) (get_or-set_other xs k j z d apart) in
    omega (arith, without, part, same, none)

-- one more element at the end
pub total-snoc_from : {A : Type 0} (f : ℕ → A → ℕ) (i : ℕ) (xs : List A) (y : A) → total f i (xs ++ y ∷ []) ≡ total f i xs + f (i + length xs) y
total-snoc_from f i [] y = simp add-zero (omega arith)
total-snoc_from f i (x ∷ xs) y =
    let e : i + suc (length xs) ≡ i + 1 + length xs = omega arith in
    rw e (omega (arith, total-snoc_from f (i + 1) xs y))

pub total-snoc : {A : Type 0} (f : ℕ → A → ℕ) (xs : List A) (y : A) → total f 0 (xs ++ y ∷ []) ≡ total f 0 xs + f (length xs) y
total-snoc f xs y = simp zero-add at (total-snoc_from f 0 xs y)

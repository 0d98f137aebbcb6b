-- Sums over lists by index.
use Rattle.std.proofs.Common.{◌≡◌, ℕ, suc, zero, ◌+◌, ◌<◌, ◌≤◌, List, [], ◌∷◌, length, get_or, set, arith, add-zero, zero-add}
use Rattle.std.proofs.Common.{inl, inr, ◌⊎◌}
use Rattle.std.proofs.lemmas.Bool.{cases_lt}
use Rattle.pool_model.specs.Pool.{total}

-- one element changes: the sum loses its old part and gains the new one
pub total-set_from : {A : Type 0} (f : ℕ → A → ℕ) (i : ℕ) (xs : List A) (k : ℕ) (y d : A) → k < length xs → total f i (set xs k y) + f (i + k) (get_or xs k d) ≡ total f i xs + f (i + k) y
total-set_from f i [] k y d h = absurd (omega arith)
total-set_from f i (x ∷ xs) zero y d h = simp add-zero (omega arith)
total-set_from f i (x ∷ xs) (suc k) y d h =
    let e : i + suc k ≡ i + 1 + k = omega arith in
    rw e (omega (arith, total-set_from f (i + 1) xs k y d (omega arith)))

-- one element's part is at most the sum
pub total-at_from : {A : Type 0} (f : ℕ → A → ℕ) (i : ℕ) (xs : List A) (k : ℕ) (d : A) → k < length xs → f (i + k) (get_or xs k d) ≤ total f i xs
total-at_from f i [] k d h = absurd (omega arith)
total-at_from f i (x ∷ xs) zero d h = simp add-zero (omega arith)
total-at_from f i (x ∷ xs) (suc k) d h =
    let e : i + suc k ≡ i + 1 + k = omega arith in
    rw e (omega (arith, total-at_from f (i + 1) xs k d (omega arith)))

-- two elements' parts together are at most the sum
pub total-two_from : {A : Type 0} (f : ℕ → A → ℕ) (i : ℕ) (xs : List A) (j k : ℕ) (d : A) → j < k → k < length xs → f (i + j) (get_or xs j d) + f (i + k) (get_or xs k d) ≤ total f i xs
total-two_from f i [] j k d l h = absurd (omega arith)
total-two_from f i (x ∷ xs) j zero d l h = absurd (omega arith)
total-two_from f i (x ∷ xs) zero (suc k) d l h =
    let e : i + suc k ≡ i + 1 + k = omega arith in
    rw e (simp add-zero (omega (arith, total-at_from f (i + 1) xs k d (omega arith))))
total-two_from f i (x ∷ xs) (suc j) (suc k) d l h =
    let e : i + suc k ≡ i + 1 + k = omega arith in
    let g : i + suc j ≡ i + 1 + j = omega arith in
    rw (e, g) (omega (arith, total-two_from f (i + 1) xs j k d (omega arith) (omega arith)))

-- the same from index 0 on
pub total-set : {A : Type 0} (f : ℕ → A → ℕ) (xs : List A) (k : ℕ) (y d : A) → k < length xs → total f 0 (set xs k y) + f k (get_or xs k d) ≡ total f 0 xs + f k y
total-set f xs k y d h = simp zero-add at (total-set_from f 0 xs k y d h)

pub total-at : {A : Type 0} (f : ℕ → A → ℕ) (xs : List A) (k : ℕ) (d : A) → k < length xs → f k (get_or xs k d) ≤ total f 0 xs
total-at f xs k d h = simp zero-add at (total-at_from f 0 xs k d h)

pub total-two : {A : Type 0} (f : ℕ → A → ℕ) (xs : List A) (j k : ℕ) (d : A) → j < k → k < length xs → f j (get_or xs j d) + f k (get_or xs k d) ≤ total f 0 xs
total-two f xs j k d l h = simp zero-add at (total-two_from f 0 xs j k d l h)

-- a sum that isn't 0 has a part that isn't
pub total-part_from : {A : Type 0} (f : ℕ → A → ℕ) (i : ℕ) (xs : List A) (d : A) → 0 < total f i xs → (k : ℕ) × (k < length xs) × (0 < f (i + k) (get_or xs k d))
total-part_from f i [] d h = absurd (omega arith)
total-part_from f i (x ∷ xs) d h =
    elim (cases_lt 0 (f i x)) [
      | inl here ↦ (0, omega arith, rw add-zero here)
      | inr none ↦
          let rest = total-part_from f (i + 1) xs d (omega arith) in
          let e : i + suc rest.0 ≡ i + 1 + rest.0 = omega arith in
          (suc rest.0, omega (arith, rest.1), rw e rest.2)
    ]

pub total-part : {A : Type 0} (f : ℕ → A → ℕ) (xs : List A) (d : A) → 0 < total f 0 xs → (k : ℕ) × (k < length xs) × (0 < f k (get_or xs k d))
total-part f xs d h =
    let part = total-part_from f 0 xs d h in
    (part.0, part.1, rw zero-add at part.2)

-- a sum above 1 has a part above 1, or two parts that aren't 0
pub total-parts_from : {A : Type 0} (f : ℕ → A → ℕ) (i : ℕ) (xs : List A) (d : A) → 1 < total f i xs → ((k : ℕ) × (k < length xs) × (1 < f (i + k) (get_or xs k d))) ⊎ ((j : ℕ) × ((k : ℕ) × (j < k) × (k < length xs) × (0 < f (i + j) (get_or xs j d)) × (0 < f (i + k) (get_or xs k d))))
total-parts_from f i [] d h = absurd (omega arith)
total-parts_from f i (x ∷ xs) d h =
    elim (cases_lt 1 (f i x)) [
      | inl both ↦ inl (0, omega arith, rw add-zero both)
      | inr few ↦
          elim (cases_lt 0 (f i x)) [
            | inl one ↦
                let rest = total-part_from f (i + 1) xs d (omega arith) in
                let e : i + suc rest.0 ≡ i + 1 + rest.0 = omega arith in
                inr (0, (suc rest.0, omega arith, omega (arith, rest.1), rw add-zero one, rw e rest.2))
            | inr none ↦
                elim (total-parts_from f (i + 1) xs d (omega arith)) [
                  | inl w ↦
                      let e : i + suc w.0 ≡ i + 1 + w.0 = omega arith in
                      inl (suc w.0, omega (arith, w.1), rw e w.2)
                  | inr w ↦
                      let v = w.1 in
                      let e : i + suc w.0 ≡ i + 1 + w.0 = omega arith in
                      let g : i + suc v.0 ≡ i + 1 + v.0 = omega arith in
                      inr (suc w.0, (suc v.0, omega (arith, v.1), omega (arith, v.2), rw e v.3, rw g v.4))
                ]
          ]
    ]

pub total-parts : {A : Type 0} (f : ℕ → A → ℕ) (xs : List A) (d : A) → 1 < total f 0 xs → ((k : ℕ) × (k < length xs) × (1 < f k (get_or xs k d))) ⊎ ((j : ℕ) × ((k : ℕ) × (j < k) × (k < length xs) × (0 < f j (get_or xs j d)) × (0 < f k (get_or xs k d))))
total-parts f xs d h =
    elim (total-parts_from f 0 xs d h) [
      | inl w ↦ inl (w.0, w.1, rw zero-add at w.2)
      | inr w ↦ let v = w.1 in inr (w.0, (v.0, v.1, v.2, rw zero-add at v.3, rw zero-add at v.4))
    ]

-- a sum is 0 where each part is
pub total-zero : {A : Type 0} (f : ℕ → A → ℕ) (xs : List A) (d : A) → ((k : ℕ) → k < length xs → f k (get_or xs k d) ≡ 0) → total f 0 xs ≡ 0
total-zero f xs d h =
    elim (cases_lt 0 (total f 0 xs)) [
      | inl some ↦ let part = total-part f xs d some in absurd (omega (arith, h part.0 part.1, part.2))
      | inr none ↦ omega arith
    ]

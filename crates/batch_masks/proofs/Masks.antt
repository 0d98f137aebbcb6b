-- Rows that pass one test more.
use Rattle.std.proofs.Common.{◌≡◌, ◌&&◌, ℕ, zero, suc, ◌+◌, ◌<◌, ◌≤◌, Bool, true, false, List, [], ◌∷◌, length, map, get_or, set, slice_get, replicate, not, ⊎_elim, Some, if◌then◌else◌, refl, sym, ◌∙◌, ap, arith}
use Rattle.std.proofs.lemmas.List.{ext_get_or, get_or-set_same, get_or-set_other, length-map}
use Rattle.std.proofs.lemmas.Bool.{cases_eq}
use Rattle.std.specs.Prelude.{Decides}
use Rattle.batch_masks.specs.Kept.{both}
use Rattle.orc_values.specs.declared.value.Value.{Value}

pub and-true : (b : Bool) → b ≡ (b && true)
and-true true = refl
and-true false = refl

pub and-false : (b : Bool) → false ≡ (b && false)
and-false true = refl
and-false false = refl

pub both-length : (mask others : List Bool) → length mask ≡ length others → length (both mask others) ≡ length mask
both-length [] others len = refl
both-length (p ∷ mask) [] len = absurd (omega arith)
both-length (p ∷ mask) (q ∷ others) len = omega (arith, both-length mask others (omega arith))

pub both-at : (mask others : List Bool) (k : ℕ) → length mask ≡ length others → k < length mask → get_or (both mask others) k false ≡ (get_or mask k false && get_or others k false)
both-at [] others k len lt = absurd (omega arith)
both-at (p ∷ mask) [] k len lt = absurd (omega arith)
both-at (p ∷ mask) (q ∷ others) zero len lt = refl
both-at (p ∷ mask) (q ∷ others) (suc k) len lt = both-at mask others k (omega arith) (omega arith)

-- a mask is known by its flags
pub narrowed : (now mask others : List Bool) → length mask ≡ length others → length now ≡ length mask
    → ((k : ℕ) → k < length mask → get_or now k false ≡ (get_or mask k false && get_or others k false))
    → now ≡ both mask others
narrowed now mask others len same at =
    ext_get_or false now (both mask others) (same ∙ sym (both-length mask others len))
    (λ k lt. at k (omega arith) ∙ sym (both-at mask others k len (omega arith)))

module _ (now mask others : List Bool) (i : ℕ) (y : Bool) where
  -- one flag more is done
  pub narrow_done : i < length now
      → ((k : ℕ) → k < i → get_or now k false ≡ (get_or mask k false && get_or others k false))
      → ((k : ℕ) → i ≤ k → get_or now k false ≡ get_or mask k false)
      → y ≡ (get_or now i false && get_or others i false)
      → (k : ℕ) → k < i + 1 → get_or (set now i y) k false ≡ (get_or mask k false && get_or others k false)
  narrow_done lt done rest is k h = ⊎_elim
      (λ e. rw e (get_or-set_same now i y false lt ∙ is ∙ ap (λ (b : Bool). b && get_or others i false) (rest i (omega arith))))
      (λ ne. get_or-set_other now i k y false ne ∙ done k (omega (arith, ne)))
      (cases_eq k i)

  -- and those behind it stay
  pub narrow_rest : ((k : ℕ) → i ≤ k → get_or now k false ≡ get_or mask k false)
      → (k : ℕ) → i + 1 ≤ k → get_or (set now i y) k false ≡ get_or mask k false
  narrow_rest rest k h = get_or-set_other now i k y false (λ e. omega (arith, e)) ∙ rest k (omega arith)

-- or stays as it was
pub narrow_stays : (now mask others : List Bool) (i : ℕ)
    → ((k : ℕ) → k < i → get_or now k false ≡ (get_or mask k false && get_or others k false))
    → ((k : ℕ) → i ≤ k → get_or now k false ≡ get_or mask k false)
    → get_or others i false ≡ true
    → (k : ℕ) → k < i + 1 → get_or now k false ≡ (get_or mask k false && get_or others k false)
narrow_stays now mask others i done rest passes k h = ⊎_elim
    (λ e. rw e (rest i (omega arith) ∙ and-true (get_or mask i false) ∙ ap (λ (b : Bool). get_or mask i false && b) (sym passes)))
    (λ ne. done k (omega (arith, ne)))
    (cases_eq k i)

pub and_assoc : (a b c : Bool) → ((a && b) && c) ≡ (a && (b && c))
and_assoc true b c = refl
and_assoc false b c = refl

-- a check of values of one kind is a test of what they are
pub checked : {A : Type 0} (asked : Value → Bool) (kind : A → Value) (meets : A → Bool) → ((x : A) → asked (kind x) ≡ meets x)
    → (values : List A) → map meets values ≡ map asked (map kind values)
checked asked kind meets same [] = refl
checked asked kind meets same (x ∷ values) =
    ap (λ (b : Bool). b ∷ map meets values) (sym (same x)) ∙ ap (λ (l : List Bool). asked (kind x) ∷ l) (checked asked kind meets same values)

both-false : (mask others : List Bool) → length mask ≡ length others → ((k : ℕ) → k < length others → get_or others k false ≡ false) → replicate (length mask) false ≡ both mask others
both-false [] others len none = refl
both-false (p ∷ mask) [] len none = absurd (omega arith)
both-false (p ∷ mask) (q ∷ others) len none =
    ap (λ (l : List Bool). false ∷ l) (both-false mask others (omega arith) (λ k lt. none (suc k) (omega arith)))
    ∙ ap (λ (b : Bool). b ∷ both mask others) (no_and p ∙ ap (λ (b : Bool). p && b) (sym (none 0 (omega arith))))
  where
    no_and : (b : Bool) → false ≡ (b && false)
    no_and true = refl
    no_and false = refl

-- a check that holds of no value lets none pass
pub none_holds : {A : Type 0} (asked : Value → Bool) (kind : A → Value) → ((x : A) → asked (kind x) ≡ false)
    → (mask : List Bool) (values : List A) → length mask ≡ length values
    → replicate (length mask) false ≡ both mask (map asked (map kind values))
none_holds {A} asked kind never mask values rows =
    both-false mask (map (λ (x : A). false) values) (rows ∙ sym (length-map values (λ (x : A). false))) (λ k lt. no values k)
    ∙ ap (both mask) (checked asked kind (λ (x : A). false) never values)
  where
    no : (values : List A) (k : ℕ) → get_or (map (λ (x : A). false) values) k false ≡ false
    no [] k = refl
    no (x ∷ values) zero = refl
    no (x ∷ values) (suc k) = no values k

-- tests that answer the same of each value are one
pub map-same : {A : Type 0} (f g : A → Bool) → ((x : A) → f x ≡ g x) → (values : List A) → map f values ≡ map g values
map-same f g same [] = refl
map-same f g same (x ∷ values) = ap (λ (b : Bool). b ∷ map f values) (same x) ∙ ap (λ (l : List Bool). g x ∷ l) (map-same f g same values)

pub map-map : {A B C : Type 0} (f : B → C) (g : A → B) (xs : List A) → map f (map g xs) ≡ map (λ x. f (g x)) xs
map-map f g [] = refl
map-map {C = C} f g (x ∷ xs) = ap (λ (l : List C). f (g x) ∷ l) (map-map f g xs)

-- an item that is there
pub slice_get-get_or : {A : Type 0} (xs : List A) (i : ℕ) (x d : A) → slice_get xs i ≡ Some x → x ≡ get_or xs i d
slice_get-get_or [] i x d e = absurd cc
slice_get-get_or (y ∷ xs) zero x d e = cc
slice_get-get_or (y ∷ xs) (suc i) x d e = slice_get-get_or xs i x d e

-- ---- truth values, by what is answered of each

module _ (of_false of_true : Bool) where
  pub answers-as : of_false ≡ false → of_true ≡ true → (values : List Bool) → values ≡ map (λ b. if b then of_true else of_false) values
  answers-as f t [] = refl
  answers-as f t (true ∷ values) = ap (λ (b : Bool). b ∷ values) (sym t) ∙ ap (λ (l : List Bool). of_true ∷ l) (answers-as f t values)
  answers-as f t (false ∷ values) = ap (λ (b : Bool). b ∷ values) (sym f) ∙ ap (λ (l : List Bool). of_false ∷ l) (answers-as f t values)

  pub answers-turned : of_false ≡ true → of_true ≡ false → (values : List Bool) → map not values ≡ map (λ b. if b then of_true else of_false) values
  answers-turned f t [] = refl
  answers-turned f t (true ∷ values) = ap (λ (b : Bool). b ∷ map not values) (sym t) ∙ ap (λ (l : List Bool). of_true ∷ l) (answers-turned f t values)
  answers-turned f t (false ∷ values) = ap (λ (b : Bool). b ∷ map not values) (sym f) ∙ ap (λ (l : List Bool). of_false ∷ l) (answers-turned f t values)

  pub answers-all : of_false ≡ true → of_true ≡ true → (mask values : List Bool) → length mask ≡ length values
      → mask ≡ both mask (map (λ b. if b then of_true else of_false) values)
  answers-all f t [] values len = refl
  answers-all f t (p ∷ mask) [] len = absurd (omega arith)
  answers-all f t (p ∷ mask) (true ∷ values) len =
      ap (λ (b : Bool). b ∷ mask) (and-true p ∙ ap (λ (b : Bool). p && b) (sym t))
      ∙ ap (λ (l : List Bool). (p && of_true) ∷ l) (answers-all f t mask values (omega arith))
  answers-all f t (p ∷ mask) (false ∷ values) len =
      ap (λ (b : Bool). b ∷ mask) (and-true p ∙ ap (λ (b : Bool). p && b) (sym f))
      ∙ ap (λ (l : List Bool). (p && of_false) ∷ l) (answers-all f t mask values (omega arith))

  pub answers-none : of_false ≡ false → of_true ≡ false → (mask values : List Bool) → length mask ≡ length values
      → replicate (length mask) false ≡ both mask (map (λ b. if b then of_true else of_false) values)
  answers-none f t [] values len = refl
  answers-none f t (p ∷ mask) [] len = absurd (omega arith)
  answers-none f t (p ∷ mask) (true ∷ values) len =
      ap (λ (b : Bool). b ∷ replicate (length mask) false) (and-false p ∙ ap (λ (b : Bool). p && b) (sym t))
      ∙ ap (λ (l : List Bool). (p && of_true) ∷ l) (answers-none f t mask values (omega arith))
  answers-none f t (p ∷ mask) (false ∷ values) len =
      ap (λ (b : Bool). b ∷ replicate (length mask) false) (and-false p ∙ ap (λ (b : Bool). p && b) (sym f))
      ∙ ap (λ (l : List Bool). (p && of_false) ∷ l) (answers-none f t mask values (omega arith))

-- ---- texts that are the literal

-- what is decided of lists that aren't the same, and of those that are
pub not_same : (xs ys : List ℕ) (b : Bool) → Decides b (xs ≡ ys) → (xs ≡ ys → ⊥) → false ≡ b
not_same xs ys true decides ne = absurd (ne (decides.0 refl))
not_same xs ys false decides ne = refl

pub are_same : (xs ys : List ℕ) (b : Bool) → Decides b (xs ≡ ys) → xs ≡ ys → true ≡ b
are_same xs ys b decides is = sym (decides.1 is)

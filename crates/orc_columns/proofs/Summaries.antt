-- What the summary of numbers says of them.
use Rattle.std.proofs.Common.{◌≡◌, ℕ, suc, ◌+◌, ◌^◌, ◌<◌, ◌≤◌, ◌⊎◌, List, [], ◌∷◌, ◌++◌, length, map, ℤ, pos, negsuc, refl, sym, ◌∙◌, ap, arith, inl, inr, All, Contains, sum}
use Rattle.std.specs.Prelude.{max, FitsSigned, take, get_or}
use Rattle.std.specs.Int.{w64, cast_unsigned}
use Rattle.std.proofs.lemmas.Int.{ints, to_z-of_z, to_z_pos}
use Rattle.std.proofs.lemmas.List.Elements.{All-nil, All-cons, All-head, All-tail, All-append, All-same}
use Rattle.std.proofs.Math.Seq.{take-suc}
use Rattle.orc_values.specs.TextsLaws.{sum-cons}
use Rattle.orc_columns.specs.Column.{places_of, IsNegative}
use Rattle.orc_columns.specs.Numbers.{total_from, bound_from}

pub total_is : (t : ℕ) (numbers : List ℤ) → total_from t numbers ≡ t + sum (places_of numbers)
total_is t [] = omega arith
total_is t (n ∷ numbers) = omega (arith, total_is (t + cast_unsigned w64 n) numbers, sum-cons (cast_unsigned w64 n) (places_of numbers))

bound_grows : (b : ℕ) (numbers : List ℤ) → b ≤ bound_from b numbers
bound_grows b [] = omega arith
bound_grows b (n ∷ numbers) = omega (arith, bound_grows (max b (cast_unsigned w64 n + 1)) numbers)

-- all are below the bound
pub all_below : (b limit : ℕ) (numbers : List ℤ) → bound_from b numbers ≤ limit → All (λ place. place < limit) (places_of numbers)
all_below b limit [] le = All-nil (λ place. place < limit)
all_below b limit (n ∷ numbers) le =
    All-cons (λ place. place < limit) (cast_unsigned w64 n) (places_of numbers) (omega (arith, le, bound_grows (max b (cast_unsigned w64 n + 1)) numbers)) (all_below (max b (cast_unsigned w64 n + 1)) limit numbers le)

contains_later : {X : Type 0} (x y : X) (xs : List X) → Contains xs x → Contains (y ∷ xs) x
contains_later x y xs (k, below, is) = (suc k, omega (arith, below), is)

contains_first : {X : Type 0} (x : X) (xs : List X) → Contains (x ∷ xs) x
contains_first x xs = (0, omega arith, refl)

split : (u limit : ℕ) → (u < limit) ⊎ (limit ≤ u)
split u limit = grind arith

-- a number of these is at least that, as an unsigned one
abbrev pub SomeAbove : ℕ → List ℤ → Type 0
SomeAbove limit numbers = (number : ℤ) × Contains numbers number × Contains (places_of numbers) (cast_unsigned w64 number) × (limit ≤ cast_unsigned w64 number)

above_later : (limit : ℕ) (n : ℤ) (numbers : List ℤ) → SomeAbove limit numbers → SomeAbove limit (n ∷ numbers)
above_later limit n numbers on = (on.0, contains_later on.0 n numbers on.1, contains_later (cast_unsigned w64 on.0) (cast_unsigned w64 n) (places_of numbers) on.2, on.3)

by_first : (limit : ℕ) (n : ℤ) (numbers : List ℤ) → (cast_unsigned w64 n < limit → SomeAbove limit numbers) → (cast_unsigned w64 n < limit) ⊎ (limit ≤ cast_unsigned w64 n) → SomeAbove limit (n ∷ numbers)
by_first limit n numbers later (inl less) = above_later limit n numbers (later less)
by_first limit n numbers later (inr most) = (n, contains_first n numbers, contains_first (cast_unsigned w64 n) (places_of numbers), most)

-- one is at least that, where the bound is above it
pub some_above : (b limit : ℕ) (numbers : List ℤ) → b ≤ limit → limit < bound_from b numbers → SomeAbove limit numbers
some_above b limit [] low high = absurd (omega arith)
some_above b limit (n ∷ numbers) low high =
    by_first limit n numbers (λ less. some_above (max b (cast_unsigned w64 n + 1)) limit numbers (omega arith) high) (split (cast_unsigned w64 n) limit)

-- ---- signs

-- a number of 64 bits whose unsigned one is below 2 ^ 63 is that
pub is_place : (number : ℤ) → FitsSigned w64 number → cast_unsigned w64 number < 2 ^ 63 → number ≡ pos (cast_unsigned w64 number)
is_place number fits low = sym (to_z-of_z w64 number fits) ∙ to_z_pos w64 (cast_unsigned w64 number) low

pub are_places : (numbers : List ℤ) → All (FitsSigned w64) numbers → All (λ place. place < 2 ^ 63) (places_of numbers) → numbers ≡ map pos (places_of numbers)
are_places [] fit low = refl
are_places (n ∷ numbers) fit low =
    let first : n ≡ pos (cast_unsigned w64 n) = is_place n (All-head (FitsSigned w64) n numbers fit) (All-head (λ place. place < 2 ^ 63) (cast_unsigned w64 n) (places_of numbers) low) in
    let others : numbers ≡ map pos (places_of numbers) = are_places numbers (All-tail (FitsSigned w64) n numbers fit) (All-tail (λ place. place < 2 ^ 63) (cast_unsigned w64 n) (places_of numbers) low) in
    ap (λ (z : ℤ). z ∷ numbers) first ∙ ap (λ (zs : List ℤ). pos (cast_unsigned w64 n) ∷ zs) others

-- a number of 64 bits whose unsigned one is at least 2 ^ 63 is negative
pub is_negative : (number : ℤ) → FitsSigned w64 number → 2 ^ 63 ≤ cast_unsigned w64 number → IsNegative number
is_negative (pos n) fits high = absurd (omega (arith, ints))
is_negative (negsuc n) fits high = tt

-- all of a list up to a place, and then the number there
pub all_more : (P : ℤ → Type 0) (numbers : List ℤ) (i : ℕ) → i < length numbers → All P (take i numbers) → P (get_or numbers i (pos 0)) → All P (take (i + 1) numbers)
all_more P numbers i below before here =
    let next : i + 1 ≡ suc i = omega arith in
    All-same P (take (i + 1) numbers) (take i numbers ++ get_or numbers i (pos 0) ∷ []) (ap (λ (n : ℕ). take n numbers) next ∙ take-suc numbers i (pos 0) below)
    (All-append P (take i numbers) (get_or numbers i (pos 0) ∷ []) before (All-cons P (get_or numbers i (pos 0)) [] here (All-nil P)))

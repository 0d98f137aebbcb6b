-- Sums, value by value.
use Rattle.std.proofs.Common.{◌≡◌, ℕ, ◌+◌, ◌-◌, ◌%◌, ◌^◌, ◌<◌, ◌≤◌, true, false, ltb, eqb, inl, inr, List, [], ◌∷◌, ◌++◌, length, take, set, get_or, map, ℤ, pos, neg_ℤ, ◌+ℤ◌, ◌-ℤ◌, ◌*ℤ◌, refl, sym, ap, ◌∙◌, arith}
use Rattle.std.specs.Int.{w64, cast_signed, cast_unsigned, int_wrap}
use Rattle.std.proofs.lemmas.Int.{int_wrap-add_right, int_wrap-sub_right, wrapping_add-bits, wrapping_sub-bits, to_z_pos, ints}
use Rattle.std.proofs.lemmas.Bool.{le-ltb, cases_eq, eq-eqb, ne_eqb}
use Rattle.std.proofs.lemmas.List.{take_more_set}
use Rattle.orc_integers.specs.Integers.{wrapped_sum, ramp}
use Rattle.orc_rle2.specs.Integers.{sums, with_sign}
use Rattle.orc_integers.specs.RampLaws.{ramp_first}
use Rattle.orc_rle2.specs.IntRun2.{varied}
use Rattle.orc_rle2.proofs.InPlace.{map_take_more}

-- the value that all steps make
abbrev pub sum_after : ℤ → List ℤ → ℤ
sum_after value [] = value
sum_after value (step ∷ steps) = sum_after (wrapped_sum value step) steps

pub sums_more : (value : ℤ) (steps : List ℤ) (step : ℤ) → sums value (steps ++ step ∷ []) ≡ sums value steps ++ wrapped_sum (sum_after value steps) step ∷ []
sums_more value [] step = refl
sums_more value (first ∷ steps) step = ap (λ (l : List ℤ). value ∷ l) (sums_more (wrapped_sum value first) steps step)

pub sum_after_more : (value : ℤ) (steps : List ℤ) (step : ℤ) → sum_after value (steps ++ step ∷ []) ≡ wrapped_sum (sum_after value steps) step
sum_after_more value [] step = refl
sum_after_more value (first ∷ steps) step = sum_after_more (wrapped_sum value first) steps step

-- the bits of a number, in a sum that wraps
pub wrap_bits : (number : ℕ) → number < 2 ^ 64 → int_wrap w64 (pos number) ≡ cast_signed w64 number
unfolding int_wrap
wrap_bits number h = let e : number % 2 ^ 64 ≡ number = omega arith in ap (λ (n : ℕ). cast_signed w64 n) e

pub plus_bits : (value : ℤ) (number : ℕ) → number < 2 ^ 64 → int_wrap w64 (value +ℤ cast_signed w64 number) ≡ wrapped_sum value (pos number)
plus_bits value number h = ap (λ (z : ℤ). int_wrap w64 (value +ℤ z)) (sym (wrap_bits number h)) ∙ int_wrap-add_right w64 value (pos number)

minus : (a b : ℤ) → a -ℤ b ≡ a +ℤ neg_ℤ b
minus a b = omega (arith, ints)

pub minus_bits : (value : ℤ) (number : ℕ) → number < 2 ^ 64 → int_wrap w64 (value -ℤ cast_signed w64 number) ≡ wrapped_sum value (neg_ℤ (pos number))
minus_bits value number h =
    ap (λ (z : ℤ). int_wrap w64 (value -ℤ z)) (sym (wrap_bits number h))
    ∙ int_wrap-sub_right w64 value (pos number)
    ∙ ap (λ (z : ℤ). int_wrap w64 z) (minus value (pos number))

pub sum_bits : (base number : ℕ) → base < 2 ^ 64 → number < 2 ^ 64 → cast_signed w64 ((base + number) % 2 ^ 64) ≡ wrapped_sum (cast_signed w64 base) (pos number)
sum_bits base number h k = wrapping_add-bits w64 base number h k ∙ plus_bits (cast_signed w64 base) number k

pub difference_bits : (base number : ℕ) → base < 2 ^ 64 → number < 2 ^ 64 → cast_signed w64 ((base + (2 ^ 64 - number)) % 2 ^ 64) ≡ wrapped_sum (cast_signed w64 base) (neg_ℤ (pos number))
difference_bits base number h k = wrapping_sub-bits w64 base number h k ∙ minus_bits (cast_signed w64 base) number k

pub with_sign-positive : (delta magnitude : ℕ) → delta < 2 ^ 63 → with_sign (cast_signed w64 delta) magnitude ≡ pos magnitude
with_sign-positive delta magnitude h = ap (λ (z : ℤ). with_sign z magnitude) (to_z_pos w64 delta h)

pub with_sign-negative : (delta magnitude : ℕ) → 2 ^ 63 ≤ delta → with_sign (cast_signed w64 delta) magnitude ≡ neg_ℤ (pos magnitude)
with_sign-negative delta magnitude h = let t : ltb delta (2 ^ 63) ≡ false = le-ltb delta (2 ^ 63) h in rw t refl

-- ---- a list of sums, in the making

-- the sum of a base and of the bits of a value
abbrev pub above : ℤ → ℤ → ℤ
above base number = wrapped_sum base (pos (cast_unsigned w64 number))

-- the bits of a value, with the sign of a delta
abbrev pub signed_step : ℤ → ℤ → ℤ
signed_step delta magnitude = with_sign delta (cast_unsigned w64 magnitude)

pub steps_more : (first delta : ℤ) (values magnitudes : List ℤ) (i : ℕ) (value : ℤ) → i < length values → i < length magnitudes →
    first ∷ take i values ≡ sums first (map (signed_step delta) (take i magnitudes)) → value ≡ wrapped_sum (sum_after first (map (signed_step delta) (take i magnitudes))) (signed_step delta (get_or magnitudes i (pos 0))) →
    first ∷ take (i + 1) (set values i value) ≡ sums first (map (signed_step delta) (take (i + 1) magnitudes))
steps_more first delta values magnitudes i value h k made is =
    let steps = map (signed_step delta) (take i magnitudes) in
    ap (λ (l : List ℤ). first ∷ l) (take_more_set values i value h)
    ∙ ap (λ (l : List ℤ). l ++ value ∷ []) made
    ∙ ap (λ (v : ℤ). sums first steps ++ v ∷ []) is
    ∙ sym (sums_more first steps (signed_step delta (get_or magnitudes i (pos 0))))
    ∙ ap (sums first) (sym (map_take_more (signed_step delta) magnitudes i (pos 0) k))

pub steps_next : (first delta : ℤ) (magnitudes : List ℤ) (i : ℕ) → i < length magnitudes →
    wrapped_sum (sum_after first (map (signed_step delta) (take i magnitudes))) (signed_step delta (get_or magnitudes i (pos 0))) ≡ sum_after first (map (signed_step delta) (take (i + 1) magnitudes))
steps_next first delta magnitudes i k =
    sym (sum_after_more first (map (signed_step delta) (take i magnitudes)) (signed_step delta (get_or magnitudes i (pos 0))))
    ∙ ap (sum_after first) (sym (map_take_more (signed_step delta) magnitudes i (pos 0) k))

-- ---- a run of deltas, in two parts

no_values : (values : List ℤ) → length values ≡ 0 → values ≡ []
no_values [] e = refl
no_values (x ∷ values) e = absurd (omega arith)

once : (base delta : ℤ) → base +ℤ pos 1 *ℤ delta ≡ base +ℤ delta
once base delta = omega (arith, ints)

-- the first two values, or the one that there is, and then the sums
pub varied-parts : (base : ℕ) (delta : ℤ) (count head : ℕ) (numbers : List ℕ) (others : List ℤ) → base < 2 ^ 64 → (count ≡ 1 → (head ≡ 1) × (length others ≡ 0)) → ((count ≡ 1 → ⊥) → head ≡ 2) →
    wrapped_sum (cast_signed w64 base) delta ∷ others ≡ sums (wrapped_sum (cast_signed w64 base) delta) (map (with_sign delta) numbers) → ramp (cast_signed w64 base) delta head ++ others ≡ varied (cast_signed w64 base) delta count numbers
varied-parts base delta count head numbers others h one more sums_are =
    let value = cast_signed w64 base in
    let first : value ≡ wrapped_sum value (pos 0 *ℤ delta) = ramp_first base delta h in
    let second : wrapped_sum value (pos 1 *ℤ delta) ≡ wrapped_sum value delta = ap (λ (z : ℤ). int_wrap w64 z) (once value delta) in
    elim (cases_eq count 1) [
      | inl e ↦
          let t : eqb count 1 ≡ true = eq-eqb count 1 e in
          let k = one e in
          rw (t, k.0, no_values others k.1, ← first) refl
      | inr other ↦
          let t : eqb count 1 ≡ false = ne_eqb count 1 other in
          let k = more other in
          rw (t, k, ← first, second) (ap (λ (l : List ℤ). value ∷ l) sums_are)
    ]

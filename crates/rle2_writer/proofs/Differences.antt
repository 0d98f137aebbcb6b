-- How far values are from one another, in sums that wrap.
use Rattle.std.proofs.Common.{◌≡◌, ℕ, ◌+◌, ◌-◌, ◌%◌, ◌^◌, ◌<◌, ◌≤◌, false, ltb, List, [], ◌∷◌, ◌++◌, length, take, set, get_or, map, ℤ, pos, neg_ℤ, ◌+ℤ◌, ◌-ℤ◌, refl, sym, ap, ◌∙◌, arith}
use Rattle.std.specs.Int.{w64, cast_signed, int_wrap}
use Rattle.std.proofs.lemmas.Int.{int_wrap-add_right, int_wrap-sub_right, wrapping_add-bits, wrapping_sub-bits, to_z_pos, ints}
use Rattle.std.proofs.lemmas.Bool.{le-ltb}
use Rattle.std.proofs.lemmas.List.{take_more_set, map-append, length-map, length-take-le, take_more, get_or-take}
use Rattle.orc_integers.specs.Integers.{wrapped_sum}
use Rattle.orc_rle2.specs.Integers.{sums, with_sign}

-- ---- one step

wrap_bits : (number : ℕ) → number < 2 ^ 64 → int_wrap w64 (pos number) ≡ cast_signed w64 number
unfolding int_wrap
wrap_bits number h = let e : number % 2 ^ 64 ≡ number = omega arith in ap (λ (n : ℕ). cast_signed w64 n) e

plus_bits : (value : ℤ) (number : ℕ) → number < 2 ^ 64 → int_wrap w64 (value +ℤ cast_signed w64 number) ≡ wrapped_sum value (pos number)
plus_bits value number h = ap (λ (z : ℤ). int_wrap w64 (value +ℤ z)) (sym (wrap_bits number h)) ∙ int_wrap-add_right w64 value (pos number)

minus : (a b : ℤ) → a -ℤ b ≡ a +ℤ neg_ℤ b
minus a b = omega (arith, ints)

minus_bits : (value : ℤ) (number : ℕ) → number < 2 ^ 64 → int_wrap w64 (value -ℤ cast_signed w64 number) ≡ wrapped_sum value (neg_ℤ (pos number))
minus_bits value number h =
    ap (λ (z : ℤ). int_wrap w64 (value -ℤ z)) (sym (wrap_bits number h))
    ∙ int_wrap-sub_right w64 value (pos number)
    ∙ ap (λ (z : ℤ). int_wrap w64 z) (minus value (pos number))

up : (step magnitude : ℕ) → step < 2 ^ 63 → with_sign (cast_signed w64 step) magnitude ≡ pos magnitude
up step magnitude h = ap (λ (z : ℤ). with_sign z magnitude) (to_z_pos w64 step h)

down : (step magnitude : ℕ) → 2 ^ 63 ≤ step → with_sign (cast_signed w64 step) magnitude ≡ neg_ℤ (pos magnitude)
down step magnitude h = let t : ltb step (2 ^ 63) ≡ false = le-ltb step (2 ^ 63) h in rw t refl

-- upwards
pub distance_up : (step first second far : ℕ) (a b : ℤ) → step < 2 ^ 63 → first < 2 ^ 64 → second < 2 ^ 64 → cast_signed w64 first ≡ a → cast_signed w64 second ≡ b → far ≡ (second + (2 ^ 64 - first)) % 2 ^ 64
    → wrapped_sum a (with_sign (cast_signed w64 step) far) ≡ b
distance_up step first second far a b low h k first_is second_is is =
    let fits : far < 2 ^ 64 = omega arith in
    let back : (first + far) % 2 ^ 64 ≡ second = omega arith in
    ap (wrapped_sum a) (up step far low)
    ∙ ap (λ (z : ℤ). wrapped_sum z (pos far)) (sym first_is)
    ∙ sym (plus_bits (cast_signed w64 first) far fits)
    ∙ sym (wrapping_add-bits w64 first far h fits)
    ∙ ap (cast_signed w64) back
    ∙ second_is

-- and downwards
pub distance_down : (step first second far : ℕ) (a b : ℤ) → 2 ^ 63 ≤ step → first < 2 ^ 64 → second < 2 ^ 64 → cast_signed w64 first ≡ a → cast_signed w64 second ≡ b → far ≡ (first + (2 ^ 64 - second)) % 2 ^ 64
    → wrapped_sum a (with_sign (cast_signed w64 step) far) ≡ b
distance_down step first second far a b high h k first_is second_is is =
    let fits : far < 2 ^ 64 = omega arith in
    let back : (first + (2 ^ 64 - far)) % 2 ^ 64 ≡ second = omega arith in
    ap (wrapped_sum a) (down step far high)
    ∙ ap (λ (z : ℤ). wrapped_sum z (neg_ℤ (pos far))) (sym first_is)
    ∙ sym (minus_bits (cast_signed w64 first) far fits)
    ∙ sym (wrapping_sub-bits w64 first far h fits)
    ∙ ap (cast_signed w64) back
    ∙ second_is

-- ---- a list of them

sums_more : (value : ℤ) (steps : List ℤ) (step : ℤ) → sums value (steps ++ step ∷ []) ≡ sums value steps ++ wrapped_sum (get_or (sums value steps) (length steps) (pos 0)) step ∷ []
sums_more value [] step = refl
sums_more value (first ∷ steps) step = ap (λ (l : List ℤ). value ∷ l) (sums_more (wrapped_sum value first) steps step)

pub distances_none : (values : List ℤ) (delta : ℤ) (numbers : List ℕ) → length numbers + 1 ≡ length values → sums (get_or values 0 (pos 0)) (map (with_sign delta) (take 0 numbers)) ≡ take 1 values
distances_none [] delta numbers e = absurd (omega (arith, e))
distances_none (v ∷ values) delta numbers e = refl

pub distances_more : (first delta : ℤ) (values : List ℤ) (numbers : List ℕ) (i number : ℕ) → i < length numbers → length numbers + 1 ≡ length values → sums first (map (with_sign delta) (take i numbers)) ≡ take (i + 1) values
    → wrapped_sum (get_or values i (pos 0)) (with_sign delta number) ≡ get_or values (i + 1) (pos 0) → sums first (map (with_sign delta) (take (i + 1) (set numbers i number))) ≡ take (i + 1 + 1) values
distances_more first delta values numbers i number below room made is =
    let steps = map (with_sign delta) (take i numbers) in
    let len : length steps ≡ i = length-map (take i numbers) (with_sign delta) ∙ length-take-le i numbers (omega arith) in
    let last : get_or (sums first steps) (length steps) (pos 0) ≡ get_or values i (pos 0) =
    ap (λ (n : ℕ). get_or (sums first steps) n (pos 0)) len ∙ ap (λ (l : List ℤ). get_or l i (pos 0)) made ∙ get_or-take (i + 1) values i (pos 0) (omega arith) in
    ap (λ (l : List ℕ). sums first (map (with_sign delta) l)) (take_more_set numbers i number below)
    ∙ ap (sums first) (map-append (with_sign delta) (take i numbers) (number ∷ []))
    ∙ sums_more first steps (with_sign delta number)
    ∙ ap (λ (v : ℤ). sums first steps ++ wrapped_sum v (with_sign delta number) ∷ []) last
    ∙ ap (λ (v : ℤ). sums first steps ++ v ∷ []) is
    ∙ ap (λ (l : List ℤ). l ++ get_or values (i + 1) (pos 0) ∷ []) made
    ∙ sym (take_more values (i + 1) (pos 0) (omega (arith, room)))

-- What is known of an answer that is Ok.
use Rattle.std.proofs.Common.{◌≡◌, ℕ, ◌+◌, ◌-◌, ◌^◌, ◌%◌, ◌<◌, List, take, length, get_or, Result, Ok, Err, ℤ, pos, ◌+ℤ◌, ◌*ℤ◌, refl, sym, ap, ◌∙◌, arith, FitsSigned}
use Rattle.std.specs.Prelude.{OnOk, IfOk}
use Rattle.std.specs.Int.{w64, cast_signed, cast_unsigned, int_wrap}
use Rattle.std.proofs.lemmas.Int.{int_wrap_fits, wrapping_add-bits, int_wrap-add_left, of_z-to_z, ints}
use Rattle.std.proofs.lemmas.List.{take_more}
use Rattle.std.proofs.lemmas.List.FromFn.{map-range_with_len_more}
use Rattle.orc_integers.specs.Integers.{ramp}

pub OnOk-then : {T E : Type 0} (r : Result T E) {P Q : Type 0} → OnOk r P → (P → Q) → OnOk r Q
OnOk-then (Ok x) h f = f h
OnOk-then (Err e) h f = tt

pub IfOk-then : {T E : Type 0} (r : Result T E) {P Q : T → Type 0} → IfOk r P → ((x : T) → P x → Q x) → IfOk r Q
IfOk-then (Ok x) h f = f x h
IfOk-then (Err e) h f = tt

-- ---- a ramp, value by value

at_first : (base delta : ℤ) → base +ℤ pos 0 *ℤ delta ≡ base
at_first base delta = omega (arith, ints)

at_next : (base delta : ℤ) (i : ℕ) → (base +ℤ pos i *ℤ delta) +ℤ delta ≡ base +ℤ pos (i + 1) *ℤ delta
at_next base delta i = omega (arith, ints)

bits_fit : (bits : ℕ) → bits < 2 ^ 64 → FitsSigned w64 (cast_signed w64 bits)
bits_fit bits h = search (arith, ints)

pub ramp_first : (base : ℤ) (bits : ℕ) (delta : ℤ) → bits < 2 ^ 64 → cast_signed w64 bits ≡ base → cast_signed w64 bits ≡ int_wrap w64 (base +ℤ pos 0 *ℤ delta)
ramp_first base bits delta h is = rw at_first (rw (← is) (sym (int_wrap_fits w64 (cast_signed w64 bits) (bits_fit bits h))))

pub ramp_next : (base : ℤ) (next delta i : ℕ) → next < 2 ^ 64 → delta < 2 ^ 64 → cast_signed w64 next ≡ int_wrap w64 (base +ℤ pos i *ℤ cast_signed w64 delta) →
    cast_signed w64 ((next + delta) % 2 ^ 64) ≡ int_wrap w64 (base +ℤ pos (i + 1) *ℤ cast_signed w64 delta)
ramp_next base next delta i h k is =
    wrapping_add-bits w64 next delta h k
    ∙ ap (λ (z : ℤ). int_wrap w64 (z +ℤ cast_signed w64 delta)) is
    ∙ int_wrap-add_left w64 (base +ℤ pos i *ℤ cast_signed w64 delta) (cast_signed w64 delta)
    ∙ ap (λ (z : ℤ). int_wrap w64 z) (at_next base (cast_signed w64 delta) i)

pub ramp_more : (base delta : ℤ) (values : List ℤ) (i : ℕ) → i < length values → take i values ≡ ramp base delta i → get_or values i (pos 0) ≡ int_wrap w64 (base +ℤ pos i *ℤ delta) → take (i + 1) values ≡ ramp base delta (i + 1)
ramp_more base delta values i h made is =
    take_more values i (pos 0) h
    ∙ rw (made, is) refl
    ∙ sym (map-range_with_len_more (λ k. int_wrap w64 (base +ℤ pos k *ℤ delta)) 0 i i (omega arith))

-- the next value isn't a step above, since its bits aren't
pub other_value : (value : ℤ) (bits next : ℕ) → bits < 2 ^ 64 → next < 2 ^ 64 → cast_signed w64 bits ≡ value → (bits ≡ next → ⊥) → value ≡ cast_signed w64 next → ⊥
other_value value bits next h k is other same = other (sym (of_z-to_z w64 bits h) ∙ ap (cast_unsigned w64) (is ∙ same) ∙ of_z-to_z w64 next k)

-- how far one value is above another
pub step_between : (first second step : ℕ) (a b : ℤ) → first < 2 ^ 64 → second < 2 ^ 64 → cast_signed w64 first ≡ a → cast_signed w64 second ≡ b → step ≡ (second + (2 ^ 64 - first)) % 2 ^ 64 → b ≡ int_wrap w64 (a +ℤ cast_signed w64 step)
step_between first second step a b h k first_is second_is is =
    let fits : step < 2 ^ 64 = omega arith in
    let back : (first + step) % 2 ^ 64 ≡ second = omega arith in
    sym second_is ∙ ap (cast_signed w64) (sym back) ∙ wrapping_add-bits w64 first step h fits ∙ ap (λ (z : ℤ). int_wrap w64 (z +ℤ cast_signed w64 step)) first_is

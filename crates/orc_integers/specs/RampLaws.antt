-- A ramp, value by value.
use Rattle.std.proofs.Common.{◌≡◌, ℕ, ◌+◌, ◌<◌, ◌^◌, ◌%◌, List, take, length, set, ℤ, pos, ◌+ℤ◌, ◌*ℤ◌, refl, sym, ap, ◌∙◌, arith}
use Rattle.std.specs.Int.{w64, cast_signed, int_wrap}
use Rattle.std.specs.Prelude.{FitsSigned}
use Rattle.std.proofs.lemmas.Int.{int_wrap_fits, wrapping_add-bits, int_wrap-add_left, ints}
use Rattle.std.proofs.lemmas.List.{take_more_set}
use Rattle.std.proofs.lemmas.List.FromFn.{map-range_with_len_more}
use Rattle.orc_integers.specs.Integers.{ramp}

bits_fit : (bits : ℕ) → bits < 2 ^ 64 → FitsSigned w64 (cast_signed w64 bits)
bits_fit bits h = search (arith, ints)

at_first : (base delta : ℤ) → base +ℤ pos 0 *ℤ delta ≡ base
at_first base delta = omega (arith, ints)

at_next : (base delta : ℤ) (i : ℕ) → (base +ℤ pos i *ℤ delta) +ℤ delta ≡ base +ℤ pos (i + 1) *ℤ delta
at_next base delta i = omega (arith, ints)

pub ramp_first : (base : ℕ) (delta : ℤ) → base < 2 ^ 64 → cast_signed w64 base ≡ int_wrap w64 (cast_signed w64 base +ℤ pos 0 *ℤ delta)
ramp_first base delta h = rw at_first (sym (int_wrap_fits w64 (cast_signed w64 base) (bits_fit base h)))

pub ramp_next : (base : ℤ) (next delta i : ℕ) → next < 2 ^ 64 → delta < 2 ^ 64
    → cast_signed w64 next ≡ int_wrap w64 (base +ℤ pos i *ℤ cast_signed w64 delta) →
    cast_signed w64 ((next + delta) % 2 ^ 64) ≡ int_wrap w64 (base +ℤ pos (i + 1) *ℤ cast_signed w64 delta)
ramp_next base next delta i h k is =
    wrapping_add-bits w64 next delta h k
    ∙ ap (λ (z : ℤ). int_wrap w64 (z +ℤ cast_signed w64 delta)) is
    ∙ int_wrap-add_left w64 (base +ℤ pos i *ℤ cast_signed w64 delta) (cast_signed w64 delta)
    ∙ ap (λ (z : ℤ). int_wrap w64 z) (at_next base (cast_signed w64 delta) i)

pub ramp_more : (base delta : ℤ) (front : List ℤ) (i : ℕ) (value : ℤ) → i < length front
    → take i front ≡ ramp base delta i → value ≡ int_wrap w64 (base +ℤ pos i *ℤ delta)
    → take (i + 1) (set front i value) ≡ ramp base delta (i + 1)
ramp_more base delta front i value h made is =
    take_more_set front i value h
    ∙ rw (made, is) refl
    ∙ sym (map-range_with_len_more (λ k. int_wrap w64 (base +ℤ pos k *ℤ delta)) 0 i i (omega arith))

-- Each run has a value.
use Rattle.std.proofs.Common.{◌≡◌, ℕ, ◌+◌, ◌*◌, ◌%◌, ◌<◌, Bool, true, false, cond, eqb, ltb, List, [], ◌∷◌, length, map, Some, None, ℤ, pos, ◌*ℤ◌, sym, ap, ◌∙◌, arith, set, get_or, length-set}
use Rattle.std.proofs.lemmas.List.{length-map, length-replicate}
use Rattle.std.proofs.lemmas.List.FromFn.{length-map-range_with_len}
use Rattle.orc_rle2.specs.declared.patches.Shape.{Shape}
use Rattle.orc_integers.specs.Integers.{integer, wrapped_sum, ramp}
use Rattle.orc_rle2.specs.Packed.{unpacked, bits_to, number_of}
use Rattle.orc_rle2.specs.Patches.{patched, only_moves, gap_of, patch_of, patched_value}
use Rattle.orc_rle2.specs.IntRun2.{repeat_values, above_base, varied, delta_values, patched_numbers}

pub repeat-some : (signed : Bool) (first : ℕ) (body : List ℕ) → 0 < length (repeat_values signed first body)
repeat-some signed first body = omega (arith, length-replicate (first % 8 + 3) (integer signed (number_of body)))

pub unpacked-length : (width count : ℕ) (bytes : List ℕ) → length (unpacked width count bytes) ≡ count
unpacked-length width count bytes = length-map-range_with_len (λ i. bits_to bytes width (width * (i + 1))) 0 count

pub direct-some : (signed : Bool) (width count : ℕ) (body : List ℕ) → 0 < count → 0 < length (map (integer signed) (unpacked width count body))
direct-some signed width count body h = omega (arith, length-map (unpacked width count body) (integer signed), unpacked-length width count body)

varied-some : (test : Bool) (base : ℤ) (others : List ℤ) → 0 < length (cond test (base ∷ []) (base ∷ others))
varied-some true base others = omega arith
varied-some false base others = omega arith

delta_by : (test : Bool) (some others : List ℤ) → 0 < length some → 0 < length others → 0 < length (cond test some others)
delta_by true some others h k = h
delta_by false some others h k = k

pub delta-some : (base delta : ℤ) (code count : ℕ) (magnitudes : List ℕ) → 0 < count → 0 < length (delta_values base delta code count magnitudes)
delta-some base delta code count magnitudes h =
    delta_by (eqb code 0) (ramp base delta count) (varied base delta count magnitudes)
    (omega (arith, length-map-range_with_len (λ i. wrapped_sum base (pos i *ℤ delta)) 0 count))
    (varied-some (eqb count 1) base _)

same_some : (x y : List ℕ) → Some x ≡ Some y → x ≡ y
same_some x y e = cc

patched_by : (move within : Bool) (shape : Shape) (at : ℕ) (entries values set_values numbers : List ℕ) → cond move (patched shape at entries values) (cond within (patched shape at entries set_values) None) ≡ Some numbers →
    (patched shape at entries values ≡ Some numbers → length numbers ≡ length values) → (patched shape at entries set_values ≡ Some numbers → length numbers ≡ length values) → length numbers ≡ length values
patched_by true within shape at entries values set_values numbers e one two = one e
patched_by false true shape at entries values set_values numbers e one two = two e
patched_by false false shape at entries values set_values numbers e one two = absurd cc

pub patched-length : (shape : Shape) (position : ℕ) (entries values numbers : List ℕ) → patched shape position entries values ≡ Some numbers → length numbers ≡ length values
patched-length shape position [] values numbers e = ap length (sym (same_some values numbers e))
patched-length shape position (entry ∷ entries) values numbers e =
    let at = position + gap_of shape entry in
    let after = set values at (patched_value shape.values (patch_of shape entry) (get_or values at 0)) in
    patched_by (only_moves shape entry) (ltb at (length values)) shape at entries values after numbers e
    (λ one. patched-length shape at entries values numbers one)
    (λ two. patched-length shape at entries after numbers two ∙ length-set values at (patched_value shape.values (patch_of shape entry) (get_or values at 0)))

pub patched-some : (shape : Shape) (patches count : ℕ) (base : ℤ) (body entries numbers : List ℕ) → patched_numbers shape patches count body entries ≡ Some numbers → 0 < count → 0 < length (above_base base numbers)
patched-some shape patches count base body entries numbers e h =
    omega (arith, length-map numbers (λ number. wrapped_sum base (pos number)), patched-length shape 0 _ (unpacked shape.values count body) numbers e, unpacked-length shape.values count body)

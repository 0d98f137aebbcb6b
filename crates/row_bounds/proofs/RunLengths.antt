-- How many values a run has for each of its bytes.
use Rattle.std.proofs.Common.{◌≡◌, ℕ, ◌+◌, ◌-◌, ◌*◌, ◌%◌, ◌<◌, ◌≤◌, Bool, true, false, cond, eqb, ltb, List, [], ◌∷◌, ◌++◌, length, map, Some, None, ℤ, pos, ◌*ℤ◌, sym, ap, ◌∙◌, arith, set, get_or, length-set}
use Rattle.std.specs.Int.{w8, cast_signed}
use Rattle.std.proofs.lemmas.List.{length-map, length-replicate}
use Rattle.std.proofs.lemmas.List.FromFn.{length-map-range_with_len}
use Rattle.std.proofs.lemmas.List.Elements.{All-head, All-tail}
use Rattle.orc_rle.specs.ByteRun.{ByteRun}
use Rattle.orc_rle.specs.ByteRun.{repeated as bytes_repeated, literals as byte_literals}
use Rattle.orc_rle.specs.BitRun.{BitRun, bits, bits_of}
use Rattle.orc_rle.specs.IntRun1.{IntRun1}
use Rattle.orc_rle.specs.IntRun1.{repeated as numbers_repeated, literals as number_literals}
use Rattle.orc_integers.specs.Integers.{integer, zigzag, wrapped_sum, ramp}
use Rattle.orc_columns.specs.declared.spelling.Version.{Version}
use Rattle.orc_columns.specs.declared.spelling.Version.TheVariants.{One, Two}
use Rattle.orc_columns.specs.Spelling.{IntRun}
use Rattle.orc_rle2.specs.declared.patches.Shape.{Shape}
use Rattle.orc_rle2.specs.Integers.{sign_magnitude, with_sign, sums}
use Rattle.orc_rle2.specs.Packed.{unpacked, bits_to, number_of}
use Rattle.orc_rle2.specs.Patches.{patched, only_moves, gap_of, patch_of, patched_value}
use Rattle.orc_rle2.specs.Widths.{width_of}
use Rattle.orc_rle2.specs.IntRun2.{IntRun2, short_repeat, direct, patched_base, delta as by_deltas, code_of, run_len, base_len, shape_of, varied, delta_values, magnitudes_in}
use Rattle.row_bounds.specs.Bounds.{AreBytes}
use Rattle.row_bounds.proofs.SpelledBytes.{IsBounded}

-- ---- bits: a run of bytes has at most 65 for each of its own

byte_run_bounded : (bytes values : List ℕ) → ByteRun bytes values → length values ≤ 65 * length bytes
byte_run_bounded _ _ (bytes_repeated {control = control} {value = value} lt) = omega (arith, length-replicate (control + 3) value)
byte_run_bounded _ _ (byte_literals {values = values} ge lt len) = omega (arith, len)

length-bits_of : (bytes : List ℕ) → length (bits_of bytes) ≡ 8 * length bytes
length-bits_of [] = omega arith
length-bits_of (byte ∷ bytes) = omega (arith, length-bits_of bytes)

pub bit_run_bounded : IsBounded BitRun
bit_run_bounded _ _ are (bits {bytes = bytes} {values = values} run) = omega (arith, byte_run_bounded bytes values run, length-bits_of values)

-- ---- integers, version 1

length-ramp : (base delta : ℤ) (count : ℕ) → length (ramp base delta count) ≡ count
length-ramp base delta count = length-map-range_with_len (λ i. wrapped_sum base (pos i *ℤ delta)) 0 count

int_run1_bounded : (signed : Bool) → IsBounded (IntRun1 signed)
int_run1_bounded signed _ _ are (numbers_repeated {control = control} {delta = delta} {base = base} lt spelled) =
    omega (arith, lt, length-ramp (integer signed base) (cast_signed w8 delta) (control + 3))
int_run1_bounded signed _ _ are (number_literals {numbers = numbers} ge lt spelled len) = omega (arith, len, length-map numbers (integer signed))

-- ---- integers, version 2: at most 512 values, whatever the form

second_byte : (first second : ℕ) (bytes : List ℕ) → AreBytes (first ∷ second ∷ bytes) → second < 256
second_byte first second bytes are =
    All-head (λ (b : ℕ). b < 256) second bytes (All-tail (λ (b : ℕ). b < 256) first (second ∷ bytes) are)

length-run : (first second : ℕ) → second < 256 → run_len first second ≤ 512
length-run first second lt = omega (arith, lt)

unpacked-length : (width count : ℕ) (bytes : List ℕ) → length (unpacked width count bytes) ≡ count
unpacked-length width count bytes = length-map-range_with_len (λ i. bits_to bytes width (width * (i + 1))) 0 count

same_some : (x y : List ℕ) → Some x ≡ Some y → x ≡ y
same_some x y e = cc

patched_by : (move within : Bool) (shape : Shape) (at : ℕ) (entries values set_values numbers : List ℕ)
    → cond move (patched shape at entries values) (cond within (patched shape at entries set_values) None) ≡ Some numbers
    → (patched shape at entries values ≡ Some numbers → length numbers ≡ length values)
    → (patched shape at entries set_values ≡ Some numbers → length numbers ≡ length values) → length numbers ≡ length values
patched_by true within shape at entries values set_values numbers e one two = one e
patched_by false true shape at entries values set_values numbers e one two = two e
patched_by false false shape at entries values set_values numbers e one two = absurd cc

-- patches leave as many values as there were
patched-length : (shape : Shape) (position : ℕ) (entries values numbers : List ℕ) → patched shape position entries values ≡ Some numbers
    → length numbers ≡ length values
patched-length shape position [] values numbers e = ap length (sym (same_some values numbers e))
patched-length shape position (entry ∷ entries) values numbers e =
    let at = position + gap_of shape entry in
    let after = set values at (patched_value shape.values (patch_of shape entry) (get_or values at 0)) in
    patched_by (only_moves shape entry) (ltb at (length values)) shape at entries values after numbers e
    (λ one. patched-length shape at entries values numbers one)
    (λ two. patched-length shape at entries after numbers two ∙ length-set values at (patched_value shape.values (patch_of shape entry) (get_or values at 0)))

length-sums : (value : ℤ) (steps : List ℤ) → length (sums value steps) ≡ length steps + 1
length-sums value [] = omega arith
length-sums value (step ∷ steps) = omega (arith, length-sums (wrapped_sum value step) steps)

magnitudes_few : (test : Bool) (numbers : List ℕ) (count : ℕ) → length numbers ≤ count → length (cond test [] numbers) ≤ count
magnitudes_few true numbers count few = omega arith
magnitudes_few false numbers count few = few

varied_few : (test : Bool) (base : ℤ) (others : List ℤ) (count : ℕ) → length others ≤ count → length (cond test (base ∷ []) (base ∷ others)) ≤ count + 1
varied_few true base others count few = omega arith
varied_few false base others count few = omega (arith, few)

delta_few : (test : Bool) (some others : List ℤ) (count : ℕ) → length some ≤ count → length others ≤ count → length (cond test some others) ≤ count
delta_few true some others count h k = h
delta_few false some others count h k = k

-- a run by deltas, of so many values by its header
delta-bounded : (base delta : ℤ) (code count : ℕ) (body : List ℕ) → length (delta_values base delta code count (magnitudes_in code count body)) ≤ count + 2
delta-bounded base delta code count body =
    let magnitudes = magnitudes_in code count body in
    let steps = map (with_sign delta) magnitudes in
    let few : length magnitudes ≤ count - 2 =
    magnitudes_few (eqb code 0) (unpacked (width_of code) (count - 2) body) (count - 2) (omega (arith, unpacked-length (width_of code) (count - 2) body)) in
    let others : length (sums (wrapped_sum base delta) steps) ≤ count + 1 =
    omega (arith, few, length-map magnitudes (with_sign delta), length-sums (wrapped_sum base delta) steps) in
    delta_few (eqb code 0) (ramp base delta count) (varied base delta count magnitudes) (count + 2)
    (omega (arith, length-ramp base delta count)) (omega (arith, varied_few (eqb count 1) base (sums (wrapped_sum base delta) steps) (count + 1) others))

int_run2_bounded : (signed : Bool) → IsBounded (IntRun2 signed)
int_run2_bounded signed _ _ are (short_repeat first body lt len) = omega (arith, len, length-replicate (first % 8 + 3) (integer signed (number_of body)))
int_run2_bounded signed _ _ are (direct first second body ge lt len) =
    let numbers = unpacked (width_of (code_of first)) (run_len first second) body in
    let count : length numbers ≡ run_len first second = unpacked-length (width_of (code_of first)) (run_len first second) body in
    omega (arith, length-run first second (second_byte first second body are), count, length-map numbers (integer signed))
int_run2_bounded signed _ _ are (patched_base first second third fourth base body entries numbers ge lt narrow len_base len_body len_entries is) =
    let lt256 = second_byte first second (third ∷ fourth ∷ (base ++ (body ++ entries))) are in
    let width = width_of (code_of first) in
    let same : length numbers ≡ length (unpacked width (run_len first second) body) =
    patched-length (shape_of width third fourth) 0 _ (unpacked width (run_len first second) body) numbers is in
    omega (
      arith,
      length-run first second lt256,
      same,
      unpacked-length width (run_len first second) body,
      length-map numbers (λ number. wrapped_sum (sign_magnitude (8 * base_len third) (number_of base)) (pos number)),
    )
int_run2_bounded signed _ _ are (by_deltas first second start step start_bytes step_bytes body ge lt start_is step_is len) =
    let lt256 = second_byte first second (start_bytes ++ (step_bytes ++ body)) are in
    omega (
      arith,
      length-run first second lt256,
      delta-bounded (integer signed start) (zigzag step) (code_of first) (run_len first second) body,
    )

pub int_run_bounded : (version : Version) (signed : Bool) → IsBounded (IntRun version signed)
int_run_bounded One signed = int_run1_bounded signed
int_run_bounded Two signed = int_run2_bounded signed

-- Runs of bytes and of integers, version 1, as they are written.
use Rattle.std.proofs.Common.{◌≡◌, ℕ, ◌+◌, ◌-◌, ◌<◌, ◌≤◌, List, [], ◌∷◌, ◌++◌, length, map, take, replicate, sym, ap, subst, ◌∙◌, append_assoc, arith, ℤ, Bool}
use Rattle.std.specs.Int.{w8, cast_signed}
use Rattle.std.proofs.lemmas.List.{length-map}
use Rattle.outside.specs.Varint.{IsVarint}
use Rattle.orc_integers.specs.Integers.{integer, ramp}
use Rattle.orc_rle.specs.ByteRun.{ByteRun, repeated, literals}
use Rattle.orc_rle.specs.IntRun1.{IntRun1, repeated as ramps, literals as varints}
use Rattle.rle_writer.specs.Written.{Adds, AddsRun, AreIntegers}

pub repeated_bytes : (before after : List ℕ) (control value count : ℕ) → 3 ≤ count → count ≤ 130 → control ≡ count - 3 → after ≡ before ++ control ∷ value ∷ [] → Adds ByteRun before after (replicate count value)
repeated_bytes before after control value count some most is written =
    let low : control < 128 = omega arith in
    let back : control + 3 ≡ count = omega arith in
    (control ∷ value ∷ [], written, subst (λ (n : ℕ). ByteRun (control ∷ value ∷ []) (replicate n value)) back (repeated low))

pub literal_bytes : (before between after values : List ℕ) (control : ℕ) → 0 < length values → length values ≤ 128 → control ≡ 256 - length values → between ≡ before ++ control ∷ [] → after ≡ between ++ values → Adds ByteRun before after values
literal_bytes before between after values control some most is first written =
    let high : 128 ≤ control = omega arith in
    let low : control < 256 = omega arith in
    let count : length values ≡ 256 - control = omega arith in
    (control ∷ values, written ∙ ap (λ (l : List ℕ). l ++ values) first ∙ append_assoc before (control ∷ []) values, literals high low count)

pub ramp_run : (signed : Bool) (before between after : List ℕ) (control delta base count : ℕ) (first : ℤ) → 3 ≤ count → count ≤ 130 → control ≡ count - 3 → between ≡ before ++ control ∷ delta ∷ [] → Adds IsVarint between after base → integer signed base ≡ first
    → Adds (IntRun1 signed) before after (ramp first (cast_signed w8 delta) count)
ramp_run signed before between after control delta base count first some most is front adds base_is =
    let low : control < 128 = omega arith in
    let back : control + 3 ≡ count = omega arith in
    let bytes = adds.0 in
    let run : IntRun1 signed (control ∷ delta ∷ bytes) (ramp (integer signed base) (cast_signed w8 delta) (control + 3)) = ramps low adds.2 in (
      control ∷ delta ∷ bytes,
      adds.1 ∙ ap (λ (l : List ℕ). l ++ bytes) front ∙ append_assoc before (control ∷ delta ∷ []) bytes,
      subst (λ (n : ℕ). IntRun1 signed (control ∷ delta ∷ bytes) (ramp first (cast_signed w8 delta) n)) back
          (subst (λ (z : ℤ). IntRun1 signed (control ∷ delta ∷ bytes) (ramp z (cast_signed w8 delta) (control + 3))) base_is run),
    )

pub literal_run : (signed : Bool) (before between after : List ℕ) (control : ℕ) (values : List ℤ) → 0 < length values → length values ≤ 128 → control ≡ 256 - length values → between ≡ before ++ control ∷ [] → Adds (AreIntegers signed) between after values
    → Adds (IntRun1 signed) before after values
literal_run signed before between after control values some most is front adds =
    let bytes = adds.0 in
    let numbers = adds.2.0 in
    let high : 128 ≤ control = omega arith in
    let low : control < 256 = omega arith in
    let len : length numbers ≡ length values = sym (length-map numbers (integer signed)) ∙ ap length adds.2.2 in
    let count : length numbers ≡ 256 - control = omega arith in
    let run : IntRun1 signed (control ∷ bytes) (map (integer signed) numbers) = varints high low adds.2.1 count in (
      control ∷ bytes,
      adds.1 ∙ ap (λ (l : List ℕ). l ++ bytes) front ∙ append_assoc before (control ∷ []) bytes,
      subst (λ (l : List ℤ). IntRun1 signed (control ∷ bytes) l) adds.2.2 run,
    )

-- the first of the values are one run
pub run_of : {V : Type 0} (Run : List ℕ → List V → Type 0) (before after : List ℕ) (values front : List V) (count : ℕ) → 0 < count → count ≤ length values → take count values ≡ front → Adds Run before after front → AddsRun Run before after values count
run_of {V} Run before after values front count some within is adds = (some, within, subst (λ (l : List V). Adds Run before after l) (sym is) adds)

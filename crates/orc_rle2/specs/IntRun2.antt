-- Runs of integers, version 2. The top two bits of the first byte choose one of four forms.
--
-- Source: Apache ORC specification v1, "Integer Run Length Encoding, version 2". The width of an entry of a patched
-- run, that a run of length 1 has a delta base, and that sums wrap at 64 bits, are this project's own.
use Rattle.std.specs.Prelude.{◌≡◌, ℕ, ◌+◌, ◌-◌, ◌*◌, ◌/◌, ◌%◌, ◌<◌, ◌≤◌, Bool, ◌&&◌, List, [], ◌∷◌, ◌++◌, length, map, replicate, Option, Some, None, ℤ, pos, ◌==◌, nat_lt, if◌then◌else◌}
use Rattle.outside.specs.declared.run_fault.RunFault.TheVariants.{StreamEnds, PatchOutOfRun, PatchTooWide}
use Rattle.outside.specs.Reading.{Reader, bind, value, mapped, refusal, byte, exactly}
use Rattle.outside.specs.Varint.{IsVarint, varint}
use Rattle.orc_rle2.specs.declared.patches.Shape.{Shape}
use Rattle.orc_integers.specs.Integers.{integer, zigzag, wrapped_sum, ramp}
use Rattle.orc_rle2.specs.Integers.{sign_magnitude, with_sign, sums}
use Rattle.orc_rle2.specs.Packed.{number_of, packed_len, unpacked}
use Rattle.orc_rle2.specs.Patches.{patched}
use Rattle.orc_rle2.specs.Widths.{width_of, least_width}

-- ---- the header of direct, patched base and delta

-- the width code, five bits below the form
abbrev pub code_of : ℕ → ℕ
code_of first = first / 2 % 32

-- the length, nine bits, minus one
abbrev pub run_len : ℕ → ℕ → ℕ
run_len first second = 256 * (first % 2) + second + 1

-- ---- the values of each form

abbrev pub repeat_values : Bool → ℕ → List ℕ → List ℤ
repeat_values signed first body = replicate (first % 8 + 3) (integer signed (number_of body))

-- values that a base is added to
abbrev pub above_base : ℤ → List ℕ → List ℤ
above_base base numbers = map (λ number. wrapped_sum base (pos number)) numbers

-- the magnitudes behind the second value; code 0 means that there are none
abbrev pub magnitude_len : ℕ → ℕ → ℕ
magnitude_len code count = if code == 0 then 0 else packed_len (width_of code) (count - 2)

abbrev pub magnitudes_in : ℕ → ℕ → List ℕ → List ℕ
magnitudes_in code count body = if code == 0 then [] else unpacked (width_of code) (count - 2) body

-- the base, then the base and the delta, and then with each magnitude one more
abbrev pub varied : ℤ → ℤ → ℕ → List ℕ → List ℤ
varied base delta count magnitudes =
    if count == 1 then base ∷ [] else base ∷ sums (wrapped_sum base delta) (map (with_sign delta) magnitudes)

abbrev pub delta_values : ℤ → ℤ → ℕ → ℕ → List ℕ → List ℤ
delta_values base delta code count magnitudes = if code == 0 then ramp base delta count else varied base delta count magnitudes

-- what the third and the fourth byte of a patched run say
abbrev pub base_len : ℕ → ℕ
base_len third = third / 32 + 1

abbrev pub shape_of : ℕ → ℕ → ℕ → Shape
shape_of width third fourth = record { values = width; gaps = fourth / 32 + 1; patches = width_of (third % 32) }

abbrev pub patch_count : ℕ → ℕ
patch_count fourth = fourth % 32

abbrev pub entry_width : Shape → ℕ
entry_width shape = least_width (shape.gaps + shape.patches)

abbrev pub patched_numbers : Shape → ℕ → ℕ → List ℕ → List ℕ → Option (List ℕ)
patched_numbers shape patches count body entries =
    patched shape 0 (unpacked (entry_width shape) patches entries) (unpacked shape.values count body)

-- ---- the four forms

pub data IntRun2 (signed : Bool) : List ℕ → List ℤ → Type 0 where
  short_repeat : (first : ℕ) (body : List ℕ) → first < 64 → length body ≡ first / 8 + 1
      → IntRun2 signed (first ∷ body) (repeat_values signed first body)
  direct : (first second : ℕ) (body : List ℕ) → 64 ≤ first → first < 128
      → length body ≡ packed_len (width_of (code_of first)) (run_len first second)
      → IntRun2 signed (first ∷ second ∷ body) (map (integer signed) (unpacked (width_of (code_of first)) (run_len first second) body))
  patched_base : (first second third fourth : ℕ) (base body entries numbers : List ℕ) → 128 ≤ first → first < 192 →
      (0 < patch_count fourth → fourth / 32 + 1 + width_of (third % 32) ≤ 64) →
      length base ≡ base_len third → length body ≡ packed_len (width_of (code_of first)) (run_len first second)
      → length entries ≡ packed_len (entry_width (shape_of (width_of (code_of first)) third fourth)) (patch_count fourth) →
      patched_numbers (shape_of (width_of (code_of first)) third fourth) (patch_count fourth)
      (run_len first second) body entries ≡ Some numbers →
      IntRun2 signed (first ∷ second ∷ third ∷ fourth ∷ (base ++ (body ++ entries)))
      (above_base (sign_magnitude (8 * base_len third) (number_of base)) numbers)
  delta : (first second start step : ℕ) (start_bytes step_bytes body : List ℕ) → 192 ≤ first → first < 256 → IsVarint start_bytes start
      → IsVarint step_bytes step → length body ≡ magnitude_len (code_of first) (run_len first second) →
      IntRun2 signed (first ∷ second ∷ (start_bytes ++ (step_bytes ++ body)))
      (delta_values (integer signed start) (zigzag step) (code_of first) (run_len first second)
      (magnitudes_in (code_of first) (run_len first second) body))

-- ---- reading a run, with its first fault

abbrev pub repeat_run : Bool → ℕ → Reader (List ℤ)
repeat_run signed first = mapped (repeat_values signed first) (exactly (first / 8 + 1))

-- so many values of this width, packed
abbrev pub packed : ℕ → ℕ → Reader (List ℕ)
packed width count = mapped (unpacked width count) (exactly (packed_len width count))

abbrev pub direct_body : Bool → ℕ → ℕ → Reader (List ℤ)
direct_body signed width count = mapped (map (integer signed)) (packed width count)

abbrev pub magnitudes : ℕ → ℕ → Reader (List ℕ)
magnitudes code count = if code == 0 then value [] else packed (width_of code) (count - 2)

abbrev pub delta_body : Bool → ℕ → ℕ → Reader (List ℤ)
delta_body signed code count =
    bind varint (λ start. bind varint (λ step.
    mapped (delta_values (integer signed start) (zigzag step) code count) (magnitudes code count)))

-- the values after their patches, above their base
abbrev pub or_out_of_run : ℤ → Option (List ℕ) → Reader (List ℤ)
or_out_of_run base None = refusal PatchOutOfRun
or_out_of_run base (Some numbers) = value (above_base base numbers)

abbrev pub patched_values : Shape → ℤ → ℕ → ℕ → Reader (List ℤ)
patched_values shape base patches count =
    bind (packed shape.values count) (λ numbers. bind (packed (entry_width shape) patches) (λ entries.
    or_out_of_run base (patched shape 0 entries numbers)))

-- a base of so many bytes
abbrev pub base_bytes : ℕ → Reader ℤ
base_bytes len = mapped (λ bytes. sign_magnitude (8 * len) (number_of bytes)) (exactly len)

abbrev pub patched_rest : Shape → ℕ → ℕ → ℕ → Reader (List ℤ)
patched_rest shape base patches count = bind (base_bytes base) (λ base. patched_values shape base patches count)

-- there is a patch, and it is too wide
abbrev pub too_wide : Shape → ℕ → Bool
too_wide shape patches = nat_lt 0 patches && nat_lt 64 (shape.gaps + shape.patches)

abbrev pub patched_after : Shape → ℕ → ℕ → ℕ → Reader (List ℤ)
patched_after shape base patches count = if too_wide shape patches then refusal PatchTooWide else patched_rest shape base patches count

abbrev pub patched_body : ℕ → ℕ → Reader (List ℤ)
patched_body width count =
    bind byte (λ third. bind byte (λ fourth.
    patched_after (shape_of width third fourth) (base_len third) (patch_count fourth) count))

-- what follows the second byte of a form but short repeat
abbrev pub long_body : Bool → ℕ → ℕ → ℕ → Reader (List ℤ)
long_body signed first code count =
    if nat_lt first 128 then direct_body signed (width_of code) count
    else (if nat_lt first 192 then patched_body (width_of code) count else delta_body signed code count)

abbrev pub long_run : Bool → ℕ → Reader (List ℤ)
long_run signed first = bind byte (λ second. long_body signed first (code_of first) (run_len first second))

-- what follows the first byte; a number that is no byte doesn't stand in a stream
abbrev pub run_after : Bool → ℕ → Reader (List ℤ)
run_after signed first =
    if nat_lt first 64 then repeat_run signed first
    else (if nat_lt first 256 then long_run signed first else refusal StreamEnds)

abbrev pub int_run2 : Bool → Reader (List ℤ)
int_run2 signed = bind byte (run_after signed)

-- Runs of integers, version 1.
--
-- Source: Apache ORC specification v1, "Integer Run Length Encoding, version 1" and "Base 128 Varint".
use Rattle.std.specs.Prelude.{◌≡◌, ℕ, ◌+◌, ◌-◌, ◌<◌, ◌≤◌, Bool, List, ◌∷◌, length, map, ℤ, nat_lt, if◌then◌else◌}
use Rattle.std.specs.Int.{w8, cast_signed}
use Rattle.outside.specs.declared.run_fault.RunFault.TheVariants.{StreamEnds}
use Rattle.outside.specs.Reading.{Reader, bind, mapped, refusal, byte}
use Rattle.outside.specs.Varint.{IsVarint, AreVarints, varint, varints}
use Rattle.orc_integers.specs.Integers.{integer, ramp}

-- how many values a run has, by its control
abbrev pub run_len : ℕ → ℕ
run_len control = if nat_lt control 128 then control + 3 else 256 - control

-- The two forms of a run: a control below 128, a signed byte and a base; or a control from 128 on, and as many literals
-- as it is below 256.
pub data IntRun1 (signed : Bool) : List ℕ → List ℤ → Type 0 where
  repeated : {control delta base : ℕ} {bytes : List ℕ} → control < 128 → IsVarint bytes base
      → IntRun1 signed (control ∷ delta ∷ bytes) (ramp (integer signed base) (cast_signed w8 delta) (control + 3))
  literals : {control : ℕ} {bytes numbers : List ℕ} → 128 ≤ control → control < 256 → AreVarints bytes numbers
      → length numbers ≡ 256 - control → IntRun1 signed (control ∷ bytes) (map (integer signed) numbers)

-- ---- reading a run, with its first fault

abbrev pub repeated_run : Bool → ℕ → Reader (List ℤ)
repeated_run signed count = bind byte (λ delta. mapped (λ base. ramp (integer signed base) (cast_signed w8 delta) count) varint)

abbrev pub literal_run : Bool → ℕ → Reader (List ℤ)
literal_run signed count = mapped (map (integer signed)) (varints count)

-- what follows the control; a number that is no byte doesn't stand in a stream
abbrev pub run_after : Bool → ℕ → Reader (List ℤ)
run_after signed control =
    if nat_lt control 128 then repeated_run signed (control + 3)
    else (if nat_lt control 256 then literal_run signed (256 - control) else refusal StreamEnds)

abbrev pub int_run1 : Bool → Reader (List ℤ)
int_run1 signed = bind byte (run_after signed)

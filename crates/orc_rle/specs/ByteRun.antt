-- Runs of bytes.
--
-- Source: Apache ORC specification v1, "Byte Run Length Encoding".
use Rattle.std.specs.Prelude.{◌≡◌, ℕ, ◌+◌, ◌-◌, ◌<◌, ◌≤◌, List, [], ◌∷◌, length, replicate, nat_lt, if◌then◌else◌}
use Rattle.outside.specs.declared.run_fault.RunFault.{RunFault}
use Rattle.outside.specs.declared.run_fault.RunFault.TheVariants.{StreamEnds}
use Rattle.outside.specs.Reading.{Reader, bind, mapped, refusal, byte, exactly}
use Rattle.outside.specs.Runs.{Breaks}

-- The two forms of a run: a control below 128 and the byte that is repeated; or a control from 128 on, and as many
-- literals as it is below 256.
pub data ByteRun : List ℕ → List ℕ → Type 0 where
  repeated : {control value : ℕ} → control < 128 → ByteRun (control ∷ value ∷ []) (replicate (control + 3) value)
  literals : {control : ℕ} {values : List ℕ} → 128 ≤ control → control < 256 → length values ≡ 256 - control
      → ByteRun (control ∷ values) values

-- ---- reading a run, with its first fault

-- what follows the control; a number that is no byte doesn't stand in a stream
abbrev pub bytes_after : ℕ → Reader (List ℕ)
bytes_after control =
    if nat_lt control 128 then mapped (replicate (control + 3)) byte
    else (if nat_lt control 256 then exactly (256 - control) else refusal StreamEnds)

abbrev pub byte_run : Reader (List ℕ)
byte_run = bind byte bytes_after

-- a stream of these runs breaks only where it ends
abbrev pub OnlyEnds : {V : Type 0} → (List ℕ → List V → Type 0) → Reader (List V) → Type 0
OnlyEnds Run read = (stream : List ℕ) (count : ℕ) (fault : RunFault) → Breaks Run read stream count fault → fault ≡ StreamEnds

-- Runs of bits.
--
-- Source: Apache ORC specification v1, "Boolean Run Length Encoding".
use Rattle.std.specs.Prelude.{◌≡◌, ℕ, ◌+◌, ◌/◌, ◌%◌, ◌==◌, ◌↔◌, Bool, List, [], ◌∷◌, ◌++◌, length, take}
use Rattle.outside.specs.declared.run_fault.RunFault.{RunFault}
use Rattle.outside.specs.Reading.{Reader, mapped}
use Rattle.outside.specs.Runs.{Spells, Breaks}
use Rattle.orc_rle.specs.ByteRun.{ByteRun, byte_run}

-- the eight bits of a byte, the highest first
abbrev pub byte_bits : ℕ → List Bool
byte_bits byte =
    (byte / 128 % 2 == 1) ∷ (byte / 64 % 2 == 1) ∷ (byte / 32 % 2 == 1) ∷ (byte / 16 % 2 == 1)
    ∷ (byte / 8 % 2 == 1) ∷ (byte / 4 % 2 == 1) ∷ (byte / 2 % 2 == 1) ∷ (byte % 2 == 1) ∷ []

-- the bits of bytes, one byte after the other
abbrev pub bits_of : List ℕ → List Bool
bits_of [] = []
bits_of (byte ∷ bytes) = byte_bits byte ++ bits_of bytes

-- a run of bits is a run of bytes, and each byte gives its eight bits
pub data BitRun : List ℕ → List Bool → Type 0 where
  bits : {bytes values : List ℕ} → ByteRun bytes values → BitRun bytes (bits_of values)

-- reading a run of bits, with its first fault
abbrev pub bit_run : Reader (List Bool)
bit_run = mapped bits_of byte_run

-- how many bytes so many bits need: eighths, rounded up
abbrev pub bytes_for : ℕ → ℕ
bytes_for count = (count + 7) / 8

-- A stream spells bits exactly where it spells as many bytes as they need, and they are the first bits of these.
abbrev pub BitsAreSpelled : Type 0
BitsAreSpelled = (stream rest : List ℕ) (values : List Bool)
    → Spells BitRun stream values rest ↔ ((bytes : List ℕ) × Spells ByteRun stream bytes rest
    × (length bytes ≡ bytes_for (length values)) × (values ≡ take (length values) (bits_of bytes)))

-- and it breaks before so many bits exactly where it breaks before these bytes, with the same fault
abbrev pub BitsBreak : Type 0
BitsBreak = (stream : List ℕ) (count : ℕ) (fault : RunFault)
    → Breaks BitRun bit_run stream count fault ↔ Breaks ByteRun byte_run stream (bytes_for count) fault

-- Varints: numbers in groups of seven bits, the lowest first.
--
-- Source: Apache ORC specification v1, "Base 128 Varint"; the bound of ten bytes, of which the low 64 bits
-- count, is this project's own.
use Rattle.std.specs.Prelude.{◌≡◌, ℕ, zero, suc, ◌+◌, ◌*◌, ◌%◌, ◌^◌, ◌-◌, ◌<◌, ◌≤◌, List, [], ◌∷◌, ◌++◌, length, Ok, Err, nat_lt, if◌then◌else◌}
use Rattle.std.specs.List.{AllByRecursion}
use Rattle.outside.specs.declared.run_fault.RunFault.TheVariants.{StreamEnds, LongVarint}
use Rattle.outside.specs.Reading.{Reader, bind, value, mapped}

-- the number in the groups of these bytes
abbrev pub groups_of : List ℕ → ℕ
groups_of [] = 0
groups_of (byte ∷ bytes) = byte % 128 + 128 * groups_of bytes

-- Each byte but the last has its top bit set, there are at most ten, and the low 64 bits are the number.
pub record IsVarint (bytes : List ℕ) (number : ℕ) : Type 0 where
  pub front : List ℕ
  pub last : ℕ
  pub parts : bytes ≡ front ++ last ∷ []
  pub goes_on : AllByRecursion (λ byte. 128 ≤ byte) front
  pub ends : last < 128
  pub short : length bytes ≤ 10
  pub is : number ≡ groups_of bytes % 2 ^ 64

-- varints, one after the other: their bytes and their numbers
pub data AreVarints : List ℕ → List ℕ → Type 0 where
  none : AreVarints [] []
  one : {bytes more : List ℕ} {number : ℕ} {others : List ℕ} → IsVarint bytes number → AreVarints more others
      → AreVarints (bytes ++ more) (number ∷ others)

-- ---- reading: ten bytes with their top bit set are too long, whatever follows, and before that the stream may end

-- the groups of a varint of which there may be so many bytes
unfoldable pub groups_within : ℕ → Reader ℕ
groups_within zero bytes = Err LongVarint
groups_within (suc room) [] = Err StreamEnds
groups_within (suc room) (byte ∷ bytes) =
    if nat_lt byte 128 then Ok (byte, bytes) else mapped (λ high. byte % 128 + 128 * high) (groups_within room) bytes

-- one number
abbrev pub varint : Reader ℕ
varint = mapped (λ groups. groups % 2 ^ 64) (groups_within 10)

-- just so many numbers
unfoldable pub varints : ℕ → Reader (List ℕ)
varints zero = value []
varints (suc count) = bind varint (λ number. mapped (λ others. number ∷ others) (varints count))

-- ---- reading in pieces

-- the rest of a number that has begun: so many bytes were read, and these are their groups
abbrev pub open_varint : ℕ → ℕ → Reader ℕ
open_varint groups count = mapped (λ high. (groups + 2 ^ (7 * count) * high) % 2 ^ 64) (groups_within (10 - count))

-- just so many numbers, of which the first has begun
unfoldable pub open_varints : ℕ → ℕ → ℕ → Reader (List ℕ)
open_varints groups count zero = value []
open_varints groups count (suc left) = bind (open_varint groups count) (λ number. mapped (λ others. number ∷ others) (varints left))

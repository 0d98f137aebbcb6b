-- Numbers of seven bits a byte. Source: the protobuf wire format, "Base 128 Varints".
use Rattle.std.specs.Prelude.{◌≡◌, ℕ, zero, suc, ◌+◌, ◌*◌, ◌/◌, ◌%◌, ◌^◌, ◌<◌, ◌≤◌, nat_lt, if◌then◌else◌, List, [], ◌∷◌, length}

-- each byte but the last has its top bit set, and the last has not
abbrev pub IsClosed : List ℕ → Type 0
IsClosed [] = ⊥
IsClosed (b ∷ []) = b < 128
IsClosed (b ∷ c ∷ bs) = (128 ≤ b) × IsClosed (c ∷ bs)

-- the number that the low seven bits of the bytes make, the lowest first
abbrev pub groups : List ℕ → ℕ
groups [] = 0
groups (b ∷ bs) = b % 128 + 128 * groups bs

-- `bytes` are a varint of `value`: at most ten bytes, of whose number the low 64 bits count
-- (ten bytes and 64 bits are this project's reading where the wire format leaves a choice)
pub record SpellsVarint (bytes : List ℕ) (value : ℕ) : Type 0 where
  pub closed : IsClosed bytes
  pub short : length bytes ≤ 10
  pub low_bits : value ≡ groups bytes % 2 ^ 64

-- seven bits a byte while at most `more` bytes follow
unfoldable pub shortest_within : ℕ → ℕ → List ℕ
shortest_within zero value = value ∷ []
shortest_within (suc more) value = if nat_lt value 128 then value ∷ [] else (value % 128 + 128) ∷ shortest_within more (value / 128)

-- the varint of a 64-bit number with the fewest bytes
unfoldable pub shortest : ℕ → List ℕ
shortest value = shortest_within 9 value

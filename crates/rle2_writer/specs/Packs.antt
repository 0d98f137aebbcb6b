-- Numbers that are packed, and what a writer of them holds. Source: this project's own, over the packed values of orc_rle2.
use Rattle.std.specs.Prelude.{◌≡◌, ℕ, ◌+◌, ◌*◌, ◌^◌, ◌<◌, List, [], ◌∷◌, ◌++◌, length}
use Rattle.orc_rle2.specs.Packed.{number_of}

-- a number, and then others of this width, as one number
abbrev pub packed_after : ℕ → ℕ → List ℕ → ℕ
packed_after width number [] = number
packed_after width number (next ∷ numbers) = packed_after width (number * 2 ^ width + next) numbers

-- The bytes are these numbers of this width as one number, and fewer than eight zeros behind it.
pub record Packs (width : ℕ) (body numbers : List ℕ) : Type 0 where
  pub pad : ℕ
  pub small : pad < 8
  pub is : number_of body ≡ packed_after width 0 numbers * 2 ^ pad
  pub count : 8 * length body ≡ width * length numbers + pad

-- Bytes, and then so many bits that are held, are a number of so many bits.
pub record IsSplit (bytes : List ℕ) (held bits number total : ℕ) : Type 0 where
  pub is : number_of bytes * 2 ^ bits + held ≡ number
  pub count : 8 * length bytes + bits ≡ total
  pub below : held < 2 ^ bits

-- whole bytes of a number were added, and fewer than eight bits of it are held
abbrev pub AddsBits : List ℕ → List ℕ → ℕ → ℕ → ℕ → ℕ → Type 0
AddsBits before after number total held bits =
    (bytes : List ℕ) × (after ≡ before ++ bytes) × IsSplit bytes held bits number total × (bits < 8)

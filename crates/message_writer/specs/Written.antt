-- How a field is written. Source: the protobuf wire format, "Message Structure", "Length-Delimited Records" and "Packed Repeated
-- Fields"; that varints are the shortest is this project's own choice.
use Rattle.std.specs.Prelude.{◌≡◌, ℕ, ◌+◌, ◌*◌, List, [], ◌∷◌, ◌++◌, length}
use Rattle.orc_proto.specs.Varint.{shortest}
use Rattle.orc_proto.specs.Message.{Content, LEN, SpellsField, PackedNumbers}

-- a number: its key, of wire type 0, and its varint
abbrev pub number_spelling : ℕ → ℕ → List ℕ
number_spelling field number = shortest (8 * field) ++ shortest number

-- bytes: their key, of wire type 2, how many they are, and they
abbrev pub bytes_spelling : ℕ → List ℕ → List ℕ
bytes_spelling field bytes = shortest (8 * field + 2) ++ (shortest (length bytes) ++ bytes)

-- numbers, packed
abbrev pub packed : List ℕ → List ℕ
packed [] = []
packed (number ∷ numbers) = shortest number ++ packed numbers

-- the bytes afterwards are those before and a spelling of the field behind them
pub record Adds (before after : List ℕ) (number : ℕ) (value : Content) : Type 0 where
  pub spelling : List ℕ
  pub spelled : SpellsField spelling (record { number = number; value = value })
  pub joined : after ≡ before ++ spelling

-- the same of numbers that bytes pack
pub record AddsPacked (before after : List ℕ) (number : ℕ) (numbers : List ℕ) : Type 0 where
  pub bytes : List ℕ
  pub packs : PackedNumbers bytes numbers
  pub added : Adds before after number (LEN bytes)

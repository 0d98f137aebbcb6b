-- What a message is: the spellings of its fields, joined. Source: the protobuf wire format, "Message Structure".
use Rattle.std.specs.Prelude.{◌≡◌, ℕ, ◌+◌, ◌*◌, ◌≤◌, List, [], ◌∷◌, ◌++◌, length}
use Rattle.orc_proto.specs.declared.field.FieldValue.{FieldValue}
use Rattle.orc_proto.specs.declared.field.FieldValue.TheVariants as code
use Rattle.orc_proto.specs.declared.field.Field.{Field}
use Rattle.orc_proto.specs.Varint.{SpellsVarint}

-- a field's value, without where its bytes lie in memory, by the wire type's name
pub data Content : Type 0 where
  VARINT : ℕ → Content
  I64 : List ℕ → Content
  LEN : List ℕ → Content
  I32 : List ℕ → Content

-- a field: its number and its value
pub record Entry : Type 0 where
  pub number : ℕ
  pub value : Content

-- what a field of the program's is
abbrev pub content_of : FieldValue → Content
content_of (code.Varint n) = VARINT n
content_of (code.Eight xs) = I64 xs
content_of (code.Bytes xs) = LEN xs.now
content_of (code.Four xs) = I32 xs

abbrev pub entry_of : Field → Entry
entry_of field = record { number = field.number; value = content_of field.value }

-- the wire type: 0 a varint, 1 eight bytes, 2 a length and that many bytes, 5 four bytes
abbrev pub wire_type : Content → ℕ
wire_type (VARINT n) = 0
wire_type (I64 xs) = 1
wire_type (LEN xs) = 2
wire_type (I32 xs) = 5

-- the bytes of a value after its key
abbrev pub SpellsContent : List ℕ → Content → Type 0
SpellsContent spelling (VARINT n) = SpellsVarint spelling n
SpellsContent spelling (I64 xs) = (spelling ≡ xs) × (length xs ≡ 8)
SpellsContent spelling (LEN xs) = (len : List ℕ) × SpellsVarint len (length xs) × (spelling ≡ len ++ xs)
SpellsContent spelling (I32 xs) = (spelling ≡ xs) × (length xs ≡ 4)

-- a field's numbers are 1 to 2^29 - 1
abbrev pub greatest_number : ℕ
greatest_number = 536870911

-- a key, which is eight times the number and the wire type, and a value
pub record SpellsField (spelling : List ℕ) (field : Entry) : Type 0 where
  pub at_least_one : 1 ≤ field.number
  pub at_most : field.number ≤ greatest_number
  pub key : List ℕ
  pub value : List ℕ
  pub key_spelled : SpellsVarint key (8 * field.number + wire_type field.value)
  pub value_spelled : SpellsContent value field.value
  pub joined : spelling ≡ key ++ value

-- `bytes` are spellings of `items`, joined in order
abbrev pub Joins : {X : Type 0} → (List ℕ → X → Type 0) → List ℕ → List X → Type 0
Joins Spells bytes [] = bytes ≡ []
Joins Spells bytes (x ∷ xs) = (first : List ℕ) × (rest : List ℕ) × Spells first x × Joins Spells rest xs × (bytes ≡ first ++ rest)

-- the spellings of the fields, joined in order, are the bytes
abbrev pub Message : List ℕ → List Entry → Type 0
Message bytes fields = Joins SpellsField bytes fields

-- the numbers of a packed field
abbrev pub PackedNumbers : List ℕ → List ℕ → Type 0
PackedNumbers bytes numbers = Joins SpellsVarint bytes numbers

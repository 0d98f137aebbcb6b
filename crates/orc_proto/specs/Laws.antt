-- The laws that tie reading to spelling. Source: this project's own, over the protobuf wire format.
use Rattle.std.specs.Prelude.{◌≡◌, ℕ, ◌^◌, ◌<◌, ◌≤◌, List, [], ◌∷◌, ◌++◌, length, map, Result, Ok, Err}
use Rattle.std.specs.List.{AllByRecursion}
use Rattle.orc_proto.specs.declared.fault.WireFault.{WireFault}
use Rattle.orc_proto.specs.declared.fault.WireFault.TheVariants.{Truncated, LongVarint}
use Rattle.orc_proto.specs.Varint.{SpellsVarint, shortest}
use Rattle.orc_proto.specs.Message.{Entry, Message, PackedNumbers, Joins, SpellsField}
use Rattle.orc_proto.specs.Reading.{varint_at, field_at, fields_of, numbers_of}

-- items that are all there
abbrev pub all_read : {X : Type 0} → List X → List (Result X WireFault)
all_read xs = map (λ x. Ok x) xs

-- a message is read as exactly its fields
abbrev pub MessagesAreRead : Type 0
MessagesAreRead = (bytes : List ℕ) (fields : List Entry) → Message bytes fields → fields_of bytes ≡ all_read fields

-- what is read without a fault is a message with these fields
abbrev pub ReadIsMessage : Type 0
ReadIsMessage = (bytes : List ℕ) (fields : List Entry) → fields_of bytes ≡ all_read fields → Message bytes fields

abbrev pub PackedAreRead : Type 0
PackedAreRead = (bytes : List ℕ) (numbers : List ℕ) → PackedNumbers bytes numbers → numbers_of bytes ≡ all_read numbers

abbrev pub ReadIsPacked : Type 0
ReadIsPacked = (bytes : List ℕ) (numbers : List ℕ) → numbers_of bytes ≡ all_read numbers → PackedNumbers bytes numbers

-- bytes that break have whole items in front, and the fault of the item after them, whose offset is their length
pub record BreaksAfter {X : Type 0} (Spells : List ℕ → X → Type 0)
    (item_at : ℕ → List ℕ → Result (X × List ℕ) WireFault) (bytes : List ℕ) (items : List X)
    (fault : WireFault) : Type 0 where
  pub front : List ℕ
  pub rest : List ℕ
  pub joined : bytes ≡ front ++ rest
  pub whole : Joins Spells front items
  pub breaks : item_at (length front) rest ≡ Err fault
  pub goes_on : 1 ≤ length rest

-- the answers are all items, or items and then one fault
pub data Outcome {X : Type 0} (Spells : List ℕ → X → Type 0) (item_at : ℕ → List ℕ → Result (X × List ℕ) WireFault)
    (bytes : List ℕ) (answers : List (Result X WireFault)) : Type 0 where
  whole : (items : List X) → Joins Spells bytes items → answers ≡ all_read items → Outcome Spells item_at bytes answers
  broken : (items : List X) (fault : WireFault) → BreaksAfter Spells item_at bytes items fault
      → answers ≡ all_read items ++ Err fault ∷ [] → Outcome Spells item_at bytes answers

abbrev pub EachMessageEndsOrBreaks : Type 0
EachMessageEndsOrBreaks = (bytes : List ℕ) → Outcome SpellsField field_at bytes (fields_of bytes)

abbrev pub EachPackedEndsOrBreaks : Type 0
EachPackedEndsOrBreaks = (bytes : List ℕ) → Outcome SpellsVarint varint_at bytes (numbers_of bytes)

-- a varint is read as its number, whatever follows it
abbrev pub VarintsAreRead : Type 0
VarintsAreRead = (offset : ℕ) (bytes rest : List ℕ) (value : ℕ) → SpellsVarint bytes value
    → varint_at offset (bytes ++ rest) ≡ Ok (value, rest)

-- bytes that all have their top bit set are a varint that is cut, while they are fewer than ten ..
abbrev pub OpenBytesAreTruncated : Type 0
OpenBytesAreTruncated = (offset : ℕ) (bytes : List ℕ) → AllByRecursion (λ b. 128 ≤ b) bytes → length bytes < 10
    → varint_at offset bytes ≡ Err (Truncated offset)

-- .. and ten of them are a long varint, whatever follows
abbrev pub TenOpenBytesAreLong : Type 0
TenOpenBytesAreLong = (offset : ℕ) (bytes rest : List ℕ) → AllByRecursion (λ b. 128 ≤ b) bytes → length bytes ≡ 10
    → varint_at offset (bytes ++ rest) ≡ Err (LongVarint offset)

-- the shortest varint of a number is a varint of it, and none is shorter
abbrev pub ShortestSpells : Type 0
ShortestSpells = (value : ℕ) → value < 2 ^ 64 → SpellsVarint (shortest value) value

abbrev pub ShortestIsShortest : Type 0
ShortestIsShortest = (bytes : List ℕ) (value : ℕ) → SpellsVarint bytes value → length (shortest value) ≤ length bytes

-- Reading from left to right, up to the first fault. A fault carries the offset of the item at which the
-- spelling breaks: of a message's field the offset of its key, of a packed field that of the number.
-- Within an item the faults are judged in the order key, number, wire type, value. Source: the protobuf wire
-- format; the order of the faults, their offsets, ten bytes of a varint and the refusal of groups are this
-- project's own.
use Rattle.std.specs.Prelude.{◌≡◌, ℕ, zero, suc, ◌+◌, ◌-◌, ◌*◌, ◌/◌, ◌%◌, ◌^◌, Option, Some, None, Result, Ok, Err, List, [], ◌∷◌, length, take, drop, nat_lt, ◌==◌, if◌then◌else◌}
use Rattle.orc_proto.specs.declared.fault.WireFault.{WireFault}
use Rattle.orc_proto.specs.declared.fault.WireFault.TheVariants.{Truncated, LongVarint, BadWireType, BadKey}
use Rattle.orc_proto.specs.Message.{Content, VARINT, I64, LEN, I32, Entry, greatest_number}

infixl 10 ◌>>=◌
abbrev pub ◌>>=◌ : {A B : Type 0} → Result A WireFault → (A → Result B WireFault) → Result B WireFault
(Ok x) >>= f = f x
(Err e) >>= f = Err e

-- the bits of a varint that has at most `room` bytes more, and what follows it
-- (bytes that all have their top bit set are a long varint, also where the bytes end after them)
unfoldable pub groups_at : ℕ → ℕ → List ℕ → Result (ℕ × List ℕ) WireFault
groups_at zero offset left = Err (LongVarint offset)
groups_at (suc room) offset [] = Err (Truncated offset)
groups_at (suc room) offset (b ∷ left) =
    if nat_lt b 128 then Ok (b, left) else (groups_at room offset left >>= λ high. Ok (b % 128 + 128 * high.0, high.1))

-- a varint, and what follows it
unfoldable pub varint_at : ℕ → List ℕ → Result (ℕ × List ℕ) WireFault
varint_at offset left = do
  number ← groups_at 10 offset left
  Ok (number.0 % 2 ^ 64, number.1)

-- `count` bytes, and what follows them
unfoldable pub bytes_at : ℕ → ℕ → List ℕ → Result (List ℕ × List ℕ) WireFault
bytes_at count offset left = if nat_lt (length left) count then Err (Truncated offset) else Ok (take count left, drop count left)

-- a field's number
unfoldable pub number_at : ℕ → ℕ → Result ℕ WireFault
number_at offset number =
    if number == 0 then Err (BadKey offset) else if nat_lt greatest_number number then Err (BadKey offset) else Ok number

-- a value of a wire type, and what follows it; types 3 and 4, of groups, are refused (this project's reading)
unfoldable pub content_at : ℕ → ℕ → List ℕ → Result (Content × List ℕ) WireFault
content_at offset wire left =
    if wire == 0 then (varint_at offset left >>= λ x. Ok (VARINT x.0, x.1))
    else if wire == 1 then (bytes_at 8 offset left >>= λ x. Ok (I64 x.0, x.1))
    else if wire == 2 then (varint_at offset left >>= λ len. bytes_at len.0 offset len.1 >>= λ x. Ok (LEN x.0, x.1))
    else if wire == 5 then (bytes_at 4 offset left >>= λ x. Ok (I32 x.0, x.1))
    else Err (BadWireType offset)

-- a field, and what follows it
unfoldable pub field_at : ℕ → List ℕ → Result (Entry × List ℕ) WireFault
field_at offset left = do
  key ← varint_at offset left
  number ← number_at offset (key.0 / 8)
  content ← content_at offset (key.0 % 8) key.1
  Ok (record { number = number; value = content.0 }, content.1)

-- an item and what the others give, or the fault
abbrev pub item_then : {X : Type 0} → Result (X × List ℕ) WireFault → (List ℕ → List (Result X WireFault)) → List (Result X WireFault)
item_then (Ok x) others = Ok x.0 ∷ others x.1
item_then (Err e) others = Err e ∷ []

-- items one after the other until the bytes end, or up to the first fault, of `total` bytes of which
-- `left` are left; each item has a byte, so as many steps as there are bytes are enough
unfoldable pub items_within : {X : Type 0} → ℕ → (ℕ → List ℕ → Result (X × List ℕ) WireFault) → ℕ → List ℕ → List (Result X WireFault)
items_within zero item_at total left = []
items_within (suc steps) item_at total [] = []
items_within (suc steps) item_at total (b ∷ left) =
    item_then (item_at (total - length (b ∷ left)) (b ∷ left)) (λ others. items_within steps item_at total others)

-- what is still to come of a message
abbrev pub fields_left : ℕ → List ℕ → List (Result Entry WireFault)
fields_left total left = items_within (length left) field_at total left

-- a message, read: its fields, and after them the first fault where the bytes are no message
abbrev pub fields_of : List ℕ → List (Result Entry WireFault)
fields_of whole = fields_left (length whole) whole

-- what is still to come of a packed field
abbrev pub numbers_left : ℕ → List ℕ → List (Result ℕ WireFault)
numbers_left total left = items_within (length left) varint_at total left

-- a packed field, read: its numbers, and after them the first fault
abbrev pub numbers_of : List ℕ → List (Result ℕ WireFault)
numbers_of whole = numbers_left (length whole) whole

-- what a step of the program returned, seen by `view`, is what reading gives
abbrev pub Gives : {X Y : Type 0} → (X → Y) → Result X WireFault → Result Y WireFault → Type 0
Gives view (Ok x) read = read ≡ Ok (view x)
Gives view (Err e) read = read ≡ Err e

-- an iterator gave the first of its answers and keeps the others; None where there is none, and after a fault none is left
abbrev pub Pops : {X Y : Type 0} → (X → Y) → Option (Result X WireFault) → List (Result Y WireFault) → List (Result Y WireFault) → Type 0
Pops view None before after = (before ≡ []) × (after ≡ [])
Pops view (Some (Ok x)) before after = before ≡ Ok (view x) ∷ after
Pops view (Some (Err e)) before after = (before ≡ Err e ∷ []) × (after ≡ [])

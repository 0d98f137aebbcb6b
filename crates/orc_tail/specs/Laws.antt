-- The messages of tails and stripe footers in the words of the wire format: which of a field's values counts, and which fault.
-- Source: the protobuf wire format, "Last One Wins" and "Packed Repeated Fields".
use Rattle.std.specs.Prelude.{◌≡◌, ◌↔◌, ℕ, Bool, true, false, List, [], ◌∷◌, ◌++◌, Result, Ok, Err, ◌==◌, if◌then◌else◌, bytes_eq}
use Rattle.orc_proto.specs.declared.fault.WireFault.{WireFault}
use Rattle.orc_proto.specs.Message.{Content, VARINT, I64, LEN, I32, Entry, Message, PackedNumbers}
use Rattle.orc_proto.specs.Reading.{fields_of}
use Rattle.orc_proto.specs.Laws.{all_read}
use Rattle.orc_tail.specs.declared.fault.TailFault.{TailFault}
use Rattle.orc_tail.specs.declared.fault.TailFault.TheVariants.{Wire}
use Rattle.orc_tail.specs.declared.stripe.Stripe.{Stripe}
use Rattle.orc_tail.specs.declared.stream.Stream.{Stream}
use Rattle.orc_tail.specs.declared.encoding.Encoding.{Encoding}
use Rattle.orc_tail.specs.Reading.{fields_from}
use Rattle.orc_tail.specs.Messages.{TypeMessage, magic, postscript_of, stripe_of, stream_of, encoding_of, type_of, type_field, footer_of, footer_field, stripe_footer_of, stripe_footer_field}

-- the number of a field that is a varint and has this number
abbrev pub number_in : ℕ → ℕ → Content → List ℕ
number_in wanted number (VARINT n) = if number == wanted then n ∷ [] else []
number_in wanted number (I64 xs) = []
number_in wanted number (LEN xs) = []
number_in wanted number (I32 xs) = []

-- the varints of a field, in order
abbrev pub varints_of : ℕ → List Entry → List ℕ
varints_of wanted [] = []
varints_of wanted (field ∷ fields) = number_in wanted field.number field.value ++ varints_of wanted fields

-- the last of a list, or another where it is empty
abbrev pub last_or : {X : Type 0} → X → List X → X
last_or none [] = none
last_or none (x ∷ xs) = last_or x xs

-- a number that isn't repeated: the last varint of its field, or 0
abbrev pub singular : ℕ → List Entry → ℕ
singular wanted fields = last_or 0 (varints_of wanted fields)

-- the bytes of a field that is bytes and has this number
abbrev pub bytes_in : ℕ → ℕ → Content → List (List ℕ)
bytes_in wanted number (LEN xs) = if number == wanted then xs ∷ [] else []
bytes_in wanted number (VARINT n) = []
bytes_in wanted number (I64 xs) = []
bytes_in wanted number (I32 xs) = []

-- the bytes of a field each time that it stands there, in order
abbrev pub bytes_of : ℕ → List Entry → List (List ℕ)
bytes_of wanted [] = []
bytes_of wanted (field ∷ fields) = bytes_in wanted field.number field.value ++ bytes_of wanted fields

-- the numbers that bytes pack, where they are of the field
abbrev pub Packs : Bool → List ℕ → List ℕ → Type 0
Packs true xs numbers = PackedNumbers xs numbers
Packs false xs numbers = numbers ≡ []

-- what a field gives to a repeated number: its varint, or the numbers that it packs; another field gives none
abbrev pub GivesNumbers : ℕ → ℕ → Content → List ℕ → Type 0
GivesNumbers wanted number (VARINT n) numbers = numbers ≡ number_in wanted number (VARINT n)
GivesNumbers wanted number (LEN xs) numbers = Packs (number == wanted) xs numbers
GivesNumbers wanted number (I64 xs) numbers = numbers ≡ []
GivesNumbers wanted number (I32 xs) numbers = numbers ≡ []

-- a repeated number: what its fields give, packed or not, joined in order
abbrev pub Repeated : ℕ → List Entry → List ℕ → Type 0
Repeated wanted [] numbers = numbers ≡ []
Repeated wanted (field ∷ fields) numbers =
    (first : List ℕ) × (rest : List ℕ)
    × GivesNumbers wanted field.number field.value first × Repeated wanted fields rest × (numbers ≡ first ++ rest)

-- A PostScript's magic is the last bytes of its field, or none.
abbrev pub PostScriptsAreRead : Type 0
PostScriptsAreRead = (bytes : List ℕ) (fields : List Entry) → Message bytes fields
    → postscript_of bytes ≡ Ok (record {
      footer_length = singular 1 fields;
      compression = singular 2 fields;
      is_orc = bytes_eq (last_or [] (bytes_of 8000 fields)) magic;
    })

-- A type's kind isn't repeated; its subtypes and its names are.
abbrev pub TypesAreRead : Type 0
TypesAreRead = (bytes : List ℕ) (fields : List Entry) (numbers : List ℕ) → Message bytes fields → Repeated 2 fields numbers
    → type_of bytes ≡ Ok (record { kind = singular 1 fields; subtypes = numbers; names = bytes_of 3 fields })

-- a type, in full: bytes that are read as one have such fields
pub record IsType (bytes : List ℕ) (t : TypeMessage) : Type 0 where
  pub fields : List Entry
  pub message : Message bytes fields
  pub kind : t.kind ≡ singular 1 fields
  pub subtypes : Repeated 2 fields t.subtypes
  pub names : t.names ≡ bytes_of 3 fields

abbrev pub TypesAreMessages : Type 0
TypesAreMessages = (bytes : List ℕ) (t : TypeMessage) → type_of bytes ≡ Ok t → IsType bytes t

-- bytes that are read are a message
abbrev pub AreMessages : {X : Type 0} → (List ℕ → Result X TailFault) → Type 0
AreMessages {X} read = (bytes : List ℕ) (x : X) → read bytes ≡ Ok x → (fields : List Entry) × Message bytes fields

abbrev pub StripesAreRead : Type 0
StripesAreRead = (bytes : List ℕ) (fields : List Entry) → Message bytes fields
    → stripe_of bytes ≡ Ok (record {
      at = singular 1 fields;
      index_len = singular 2 fields;
      body_len = singular 3 fields;
      footer_len = singular 4 fields;
      rows = singular 5 fields;
    })

abbrev pub StreamsAreRead : Type 0
StreamsAreRead = (bytes : List ℕ) (fields : List Entry) → Message bytes fields
    → stream_of bytes ≡ Ok (record { kind = singular 1 fields; column = singular 2 fields; len = singular 3 fields })

abbrev pub EncodingsAreRead : Type 0
EncodingsAreRead = (bytes : List ℕ) (fields : List Entry) → Message bytes fields
    → encoding_of bytes ≡ Ok (record { kind = singular 1 fields; dictionary_size = singular 2 fields })

-- what a repeated field holds: the bytes of each time that it stands there, read on their own, in order
abbrev pub AreReadAs : {X : Type 0} → (List ℕ → Result X TailFault) → List (List ℕ) → List X → Type 0
AreReadAs read [] xs = xs ≡ []
AreReadAs {X} read (bytes ∷ others) xs = (x : X) × (rest : List X) × (read bytes ≡ Ok x) × AreReadAs read others rest × (xs ≡ x ∷ rest)

-- A footer: its stripes are what its field 3 holds, and its types what its field 4 does.
pub record IsFooter (bytes : List ℕ) (stripes : List Stripe) (types : List TypeMessage) : Type 0 where
  pub fields : List Entry
  pub message : Message bytes fields
  pub its_stripes : AreReadAs stripe_of (bytes_of 3 fields) stripes
  pub its_types : AreReadAs type_of (bytes_of 4 fields) types

-- A stripe's footer: its streams are what its field 1 holds, and its encodings what its field 2 does.
pub record IsStripeFooter (bytes : List ℕ) (streams : List Stream) (encodings : List Encoding) : Type 0 where
  pub fields : List Entry
  pub message : Message bytes fields
  pub its_streams : AreReadAs stream_of (bytes_of 1 fields) streams
  pub its_encodings : AreReadAs encoding_of (bytes_of 2 fields) encodings

abbrev pub FootersAreRead : Type 0
FootersAreRead = (bytes : List ℕ) (stripes : List Stripe) (types : List TypeMessage)
    → (footer_of bytes ≡ Ok (record { stripes = stripes; types = types })) ↔ IsFooter bytes stripes types

abbrev pub StripeFootersAreRead : Type 0
StripeFootersAreRead = (bytes : List ℕ) (streams : List Stream) (encodings : List Encoding)
    → (stripe_footer_of bytes ≡ Ok (record { streams = streams; encodings = encodings })) ↔ IsStripeFooter bytes streams encodings

-- The first broken message by its offset: the fields in front of it were read, and then the bytes are no message, or what a
-- field holds is refused.
pub data FirstBroken {S : Type 0} (step : S → Entry → Result S TailFault) (start : S)
    (items : List (Result Entry WireFault)) (fault : TailFault) : Type 0 where
  wire : (front : List Entry) (rest : List (Result Entry WireFault)) (state : S) (e : WireFault) → items ≡ all_read front ++ Err e ∷ rest
      → fields_from step start (all_read front) ≡ Ok state → fault ≡ Wire e → FirstBroken step start items fault
  inside : (front : List Entry) (field : Entry) (rest : List (Result Entry WireFault)) (state : S)
      → items ≡ all_read front ++ Ok field ∷ rest
      → fields_from step start (all_read front) ≡ Ok state → step state field ≡ Err fault → FirstBroken step start items fault

abbrev pub TypesBreakFirst : Type 0
TypesBreakFirst = (bytes : List ℕ) (fault : TailFault) → type_of bytes ≡ Err fault
    → FirstBroken type_field (record { kind = 0; subtypes = []; names = [] }) (fields_of bytes) fault

abbrev pub FootersBreakFirst : Type 0
FootersBreakFirst = (bytes : List ℕ) (fault : TailFault) → footer_of bytes ≡ Err fault
    → FirstBroken footer_field (record { stripes = []; types = [] }) (fields_of bytes) fault

abbrev pub StripeFootersBreakFirst : Type 0
StripeFootersBreakFirst = (bytes : List ℕ) (fault : TailFault) → stripe_footer_of bytes ≡ Err fault
    → FirstBroken stripe_footer_field (record { streams = []; encodings = [] }) (fields_of bytes) fault

-- The messages of a file's tail and of a stripe's footer. A known field with another wire type than its own is
-- skipped, as an unknown one is. The last value of a field that isn't repeated counts, and an absent number is 0.
-- Numbers aren't cut to 32 bits. Source: Apache ORC specification v1, "File Tail" and "Stripes", with this
-- project's reading of the wire format.
use Rattle.std.specs.Prelude.{ℕ, false, List, [], ◌∷◌, ◌++◌, Result, Ok, ◌==◌, if◌then◌else◌, bytes_eq}
use Rattle.orc_proto.specs.Message.{Content, VARINT, I64, LEN, I32, Entry}
use Rattle.orc_proto.specs.Reading.{fields_of, numbers_of}
use Rattle.orc_tail.specs.declared.fault.TailFault.{TailFault}
use Rattle.orc_tail.specs.declared.postscript.PostScript.{PostScript}
use Rattle.orc_tail.specs.declared.stripe.Stripe.{Stripe}
use Rattle.orc_tail.specs.declared.stream.Stream.{Stream}
use Rattle.orc_tail.specs.declared.encoding.Encoding.{Encoding}
use Rattle.orc_tail.specs.Reading.{◌>>=◌, fields_from, numbers_from, behind}

-- "ORC", the bytes of the field magic
abbrev pub magic : List ℕ
magic = 79 ∷ 82 ∷ 67 ∷ []

-- PostScript: 1 footerLength, 2 compression, 8000 magic; 5 metadataLength isn't used
abbrev pub postscript_value : PostScript → ℕ → Content → PostScript
postscript_value s number (VARINT n) =
    if number == 1 then record s { footer_length = n } else (if number == 2 then record s { compression = n } else s)
postscript_value s number (LEN xs) = if number == 8000 then record s { is_orc = bytes_eq xs magic } else s
postscript_value s number (I64 xs) = s
postscript_value s number (I32 xs) = s

abbrev pub postscript_field : PostScript → Entry → Result PostScript TailFault
postscript_field s field = Ok (postscript_value s field.number field.value)

unfoldable pub postscript_of : List ℕ → Result PostScript TailFault
postscript_of xs = fields_from postscript_field (record { footer_length = 0; compression = 0; is_orc = false }) (fields_of xs)

-- StripeInformation: 1 offset, 2 indexLength, 3 dataLength, 4 footerLength, 5 numberOfRows
abbrev pub stripe_number : Stripe → ℕ → ℕ → Stripe
stripe_number s number n =
    if number == 1 then record s { at = n }
    else (if number == 2 then record s { index_len = n }
    else (if number == 3 then record s { body_len = n }
    else (if number == 4 then record s { footer_len = n }
    else (if number == 5 then record s { rows = n } else s))))

abbrev pub stripe_value : Stripe → ℕ → Content → Stripe
stripe_value s number (VARINT n) = stripe_number s number n
stripe_value s number (LEN xs) = s
stripe_value s number (I64 xs) = s
stripe_value s number (I32 xs) = s

abbrev pub stripe_field : Stripe → Entry → Result Stripe TailFault
stripe_field s field = Ok (stripe_value s field.number field.value)

unfoldable pub stripe_of : List ℕ → Result Stripe TailFault
stripe_of xs = fields_from stripe_field (record { at = 0; index_len = 0; body_len = 0; footer_len = 0; rows = 0 }) (fields_of xs)

-- Type: 1 kind, 2 subtypes (a repeated number, packed or not), 3 fieldNames (repeated)
pub record TypeMessage : Type 0 where
  pub kind : ℕ
  pub subtypes : List ℕ
  pub names : List (List ℕ)

abbrev pub type_value : TypeMessage → ℕ → Content → Result TypeMessage TailFault
type_value s number (VARINT n) =
    if number == 1 then Ok (record s { kind = n })
    else (if number == 2 then Ok (record s { subtypes = s.subtypes ++ n ∷ [] }) else Ok s)
type_value s number (LEN xs) =
    if number == 2 then (behind s.subtypes (numbers_from (numbers_of xs)) >>= λ ns. Ok (record s { subtypes = ns }))
    else (if number == 3 then Ok (record s { names = s.names ++ xs ∷ [] }) else Ok s)
type_value s number (I64 xs) = Ok s
type_value s number (I32 xs) = Ok s

abbrev pub type_field : TypeMessage → Entry → Result TypeMessage TailFault
type_field s field = type_value s field.number field.value

unfoldable pub type_of : List ℕ → Result TypeMessage TailFault
type_of xs = fields_from type_field (record { kind = 0; subtypes = []; names = [] }) (fields_of xs)

-- Footer: 3 stripes (repeated), 4 types (repeated); 6 numberOfRows isn't used
pub record FooterMessage : Type 0 where
  pub stripes : List Stripe
  pub types : List TypeMessage

abbrev pub footer_value : FooterMessage → ℕ → Content → Result FooterMessage TailFault
footer_value s number (LEN xs) =
    if number == 3 then (stripe_of xs >>= λ x. Ok (record s { stripes = s.stripes ++ x ∷ [] }))
    else (if number == 4 then (type_of xs >>= λ x. Ok (record s { types = s.types ++ x ∷ [] })) else Ok s)
footer_value s number (VARINT n) = Ok s
footer_value s number (I64 xs) = Ok s
footer_value s number (I32 xs) = Ok s

abbrev pub footer_field : FooterMessage → Entry → Result FooterMessage TailFault
footer_field s field = footer_value s field.number field.value

unfoldable pub footer_of : List ℕ → Result FooterMessage TailFault
footer_of xs = fields_from footer_field (record { stripes = []; types = [] }) (fields_of xs)

-- Stream: 1 kind, 2 column, 3 length. One without fields is the PRESENT stream of column 0.
abbrev pub stream_number : Stream → ℕ → ℕ → Stream
stream_number s number n =
    if number == 1 then record s { kind = n }
    else (if number == 2 then record s { column = n } else (if number == 3 then record s { len = n } else s))

abbrev pub stream_value : Stream → ℕ → Content → Stream
stream_value s number (VARINT n) = stream_number s number n
stream_value s number (LEN xs) = s
stream_value s number (I64 xs) = s
stream_value s number (I32 xs) = s

abbrev pub stream_field : Stream → Entry → Result Stream TailFault
stream_field s field = Ok (stream_value s field.number field.value)

unfoldable pub stream_of : List ℕ → Result Stream TailFault
stream_of xs = fields_from stream_field (record { kind = 0; column = 0; len = 0 }) (fields_of xs)

-- ColumnEncoding: 1 kind, 2 dictionarySize
abbrev pub encoding_value : Encoding → ℕ → Content → Encoding
encoding_value s number (VARINT n) =
    if number == 1 then record s { kind = n } else (if number == 2 then record s { dictionary_size = n } else s)
encoding_value s number (LEN xs) = s
encoding_value s number (I64 xs) = s
encoding_value s number (I32 xs) = s

abbrev pub encoding_field : Encoding → Entry → Result Encoding TailFault
encoding_field s field = Ok (encoding_value s field.number field.value)

unfoldable pub encoding_of : List ℕ → Result Encoding TailFault
encoding_of xs = fields_from encoding_field (record { kind = 0; dictionary_size = 0 }) (fields_of xs)

-- StripeFooter: 1 streams (repeated), 2 columns (repeated)
pub record StripeFooterMessage : Type 0 where
  pub streams : List Stream
  pub encodings : List Encoding

abbrev pub stripe_footer_value : StripeFooterMessage → ℕ → Content → Result StripeFooterMessage TailFault
stripe_footer_value s number (LEN xs) =
    if number == 1 then (stream_of xs >>= λ x. Ok (record s { streams = s.streams ++ x ∷ [] }))
    else (if number == 2 then (encoding_of xs >>= λ x. Ok (record s { encodings = s.encodings ++ x ∷ [] })) else Ok s)
stripe_footer_value s number (VARINT n) = Ok s
stripe_footer_value s number (I64 xs) = Ok s
stripe_footer_value s number (I32 xs) = Ok s

abbrev pub stripe_footer_field : StripeFooterMessage → Entry → Result StripeFooterMessage TailFault
stripe_footer_field s field = stripe_footer_value s field.number field.value

unfoldable pub stripe_footer_of : List ℕ → Result StripeFooterMessage TailFault
stripe_footer_of xs = fields_from stripe_footer_field (record { streams = []; encodings = [] }) (fields_of xs)

-- Messages of numbers, and whole stripe footers.
use Rattle.std.proofs.Common.{◌≡◌, ℕ, ◌≤◌, ◌+◌, List, [], ◌∷◌, ◌++◌, map, length, take, Bor, Result, Ok, refl, ap, sym, subst, take_all, ◌∙◌}
use Rattle.std.proofs.lemmas.Bool.{le-ltb}
use Rattle.std.specs.Prelude.{sum_by}
use Rattle.orc_proto.specs.Message.{Content, VARINT, Entry, Message}
use Rattle.orc_tail.specs.declared.fault.TailFault.{TailFault}
use Rattle.orc_tail.specs.declared.stripe.Stripe.{Stripe}
use Rattle.orc_tail.specs.declared.encoding.Encoding.{Encoding}
use Rattle.orc_tail.specs.Messages.{stream_of, encoding_of, stripe_of, TypeMessage, type_of, FooterMessage, footer_of, footer_field, StripeFooterMessage, stripe_footer_field, stripe_footer_of}
use Rattle.orc_proto.specs.Laws.{MessagesAreRead}
use Rattle.orc_tail.specs.Laws.{StreamsAreRead, EncodingsAreRead, StripesAreRead}
use Rattle.orc_tail.specs.StripeFooter.{streams_within, stripe_footer_in, stripe_footer, placed}
use Rattle.message_writer.specs.Written.{Adds}
use Rattle.footer_writer.specs.declared.stream_part.StreamPart.{StreamPart}
use Rattle.footer_writer.specs.declared.file_type.FileType.{FileType}
use Rattle.footer_writer.specs.Views.{Stream, part_view, file_type_view, footer_message, stripe_footer_message}
use Rattle.footer_writer.specs.Made.{Makes, IsTypeSoFar, LieIn, IsStripeFooter}
use Rattle.footer_writer.proofs.Folding.{longer, read_whole}

all_taken : {X : Type 0} (xs : List X) (i : ℕ) → length xs ≤ i → take i xs ≡ xs
all_taken xs i all = take_all i xs all

abbrev stripe_footer_as : StripeFooterMessage → Result StripeFooterMessage TailFault
stripe_footer_as message = Ok message

abbrev footer_as : FooterMessage → Result FooterMessage TailFault
footer_as message = Ok message

abbrev type_as : TypeMessage → Result TypeMessage TailFault
type_as message = Ok message

abbrev encoding_as : ℕ → ℕ → Result Encoding TailFault
encoding_as kind size = Ok (record { kind = kind; dictionary_size = size })

-- a field more
pub field_more : {before after : List ℕ} {number : ℕ} {value : Content} (fields : List Entry) → Message before fields → Adds before after number value
    → Message after (fields ++ (record { number = number; value = value }) ∷ [])
field_more {before} {after} {number} {value} fields spelled adds =
    subst (λ (xs : List ℕ). Message xs (fields ++ (record { number = number; value = value }) ∷ [])) (sym adds.joined)
    (longer before adds.spelling fields (record { number = number; value = value }) spelled adds.spelled)

abbrev pub field : ℕ → ℕ → Entry
field number n = record { number = number; value = VARINT n }

three_numbers : {a b c d : List ℕ} {one two three : ℕ} → a ≡ [] → Adds a b 1 (VARINT one) → Adds b c 2 (VARINT two) → Adds c d 3 (VARINT three)
    → Message d (field 1 one ∷ field 2 two ∷ field 3 three ∷ [])
three_numbers {a} {b} {c} {d} {one} {two} {three} none x y z = field_more (field 1 one ∷ field 2 two ∷ []) (field_more (field 1 one ∷ []) (field_more [] none x) y) z

one_number : {a b : List ℕ} {one : ℕ} → a ≡ [] → Adds a b 1 (VARINT one) → Message b (field 1 one ∷ [])
one_number none x = field_more [] none x

two_numbers : {a b c : List ℕ} {one two : ℕ} → a ≡ [] → Adds a b 1 (VARINT one) → Adds b c 2 (VARINT two) → Message c (field 1 one ∷ field 2 two ∷ [])
two_numbers {a} {b} {c} {one} {two} none x y = field_more (field 1 one ∷ []) (one_number none x) y

five_numbers : {c d e f g : List ℕ} {one two three four five : ℕ} → c ≡ [] → Adds c d 1 (VARINT one) → Adds d e 2 (VARINT two) → Adds e f 3 (VARINT three) → Adds f g 4 (VARINT four)
    → (h : List ℕ) → Adds g h 5 (VARINT five) → Message h (field 1 one ∷ field 2 two ∷ field 3 three ∷ field 4 four ∷ field 5 five ∷ [])
five_numbers {one = one} {two = two} {three = three} {four = four} none x y z u h v =
    field_more (field 1 one ∷ field 2 two ∷ field 3 three ∷ field 4 four ∷ []) (field_more (field 1 one ∷ field 2 two ∷ field 3 three ∷ []) (three_numbers none x y z) u) v

pub stream_read : {a b c d : List ℕ} (part : StreamPart) → StreamsAreRead → a ≡ [] → Adds a b 1 (VARINT part.kind) → Adds b c 2 (VARINT part.column)
    → Adds c d 3 (VARINT part.len) → stream_of d ≡ Ok (part_view part)
stream_read {d = d} part read none x y z = read d (field 1 part.kind ∷ field 2 part.column ∷ field 3 part.len ∷ []) (three_numbers none x y z)

pub stripe_read : {c d e f g h : List ℕ} (stripe : Stripe) → StripesAreRead → c ≡ [] → Adds c d 1 (VARINT stripe.at) → Adds d e 2 (VARINT stripe.index_len)
    → Adds e f 3 (VARINT stripe.body_len) → Adds f g 4 (VARINT stripe.footer_len) → Adds g h 5 (VARINT stripe.rows) → stripe_of h ≡ Ok stripe
stripe_read {h = h} stripe read none x y z u v =
    read h (field 1 stripe.at ∷ field 2 stripe.index_len ∷ field 3 stripe.body_len ∷ field 4 stripe.footer_len ∷ field 5 stripe.rows ∷ []) (five_numbers none x y z u h v)

pub encoding_read : {a b c : List ℕ} (encoding : Encoding) → EncodingsAreRead → a ≡ [] → Adds a b 1 (VARINT encoding.kind) → Adds b c 2 (VARINT encoding.dictionary_size)
    → encoding_of c ≡ Ok encoding
encoding_read {c = c} encoding read none x y = read c (field 1 encoding.kind ∷ field 2 encoding.dictionary_size ∷ []) (two_numbers none x y)

-- an encoding without a dictionary's size has an empty one
pub no_dictionary : {a b : List ℕ} (encoding : Encoding) → EncodingsAreRead → a ≡ [] → Adds a b 1 (VARINT encoding.kind) → encoding.dictionary_size ≡ 0 → encoding_of b ≡ Ok encoding
no_dictionary {b = b} encoding read begins x none =
    read b (field 1 encoding.kind ∷ []) (one_number begins x) ∙ ap (λ (size : ℕ). encoding_as encoding.kind size) (sym none)

pub streams_in_stripe : (stripe : Stripe) (streams : List Stream) → LieIn stripe streams → streams_within stripe streams ≡ Ok (placed stripe.at streams)
unfolding streams_within
streams_in_stripe stripe streams lie = rw (le-ltb (stripe.index_len + stripe.body_len) (sum_by (λ s. s.len) streams) lie.in_stripe, lie.no_root) refl

pub stripe_footer_read : (bytes : List ℕ) (streams : List StreamPart) (encodings : List Encoding)
    → stripe_footer_of bytes ≡ Ok (stripe_footer_message streams encodings) → IsStripeFooter bytes streams encodings
unfolding stripe_footer stripe_footer_in
stripe_footer_read bytes streams encodings read file stripe there lie =
    rw (there, read, streams_in_stripe stripe (map part_view streams) lie) refl

pub stripe_footer_made : {bytes : List ℕ} (streams : List StreamPart) (encodings : List Encoding) (i : ℕ) → length encodings ≤ i → MessagesAreRead
    → Makes stripe_footer_field (record { streams = []; encodings = [] }) bytes (record { streams = map part_view streams; encodings = take i encodings })
    → stripe_footer_of bytes ≡ Ok (stripe_footer_message streams encodings)
unfolding stripe_footer_of
stripe_footer_made streams encodings i all read makes =
    read_whole read makes ∙ ap (λ (es : List Encoding). stripe_footer_as (record { streams = map part_view streams; encodings = es })) (all_taken encodings i all)

pub footer_made : {bytes : List ℕ} (stripes : List Stripe) (types : List FileType) (i : ℕ) → length types ≤ i → MessagesAreRead
    → Makes footer_field (record { stripes = []; types = [] }) bytes (record { stripes = stripes; types = map file_type_view (take i types) })
    → footer_of bytes ≡ Ok (footer_message stripes types)
unfolding footer_of
footer_made stripes types i all read makes =
    read_whole read makes ∙ ap (λ (ts : List FileType). footer_as (record { stripes = stripes; types = map file_type_view ts })) (all_taken types i all)

pub type_made : {bytes : List ℕ} (t : FileType) (i : ℕ) → length t.names.items ≤ i → MessagesAreRead
    → IsTypeSoFar bytes t.kind t.subtypes.items (map (λ name. name.now) (take i t.names.items)) → type_of bytes ≡ Ok (file_type_view t)
unfolding type_of
type_made t i all read makes =
    read_whole read makes ∙ ap (λ (names : List (Bor (List ℕ))). type_as (record { kind = t.kind; subtypes = t.subtypes.items; names = map (λ name. name.now) names })) (all_taken t.names.items i all)

-- Footers that grow by a stream, an encoding, a stripe or a type, and a type that grows by its children.
use Rattle.std.proofs.Common.{◌≡◌, ℕ, ◌+◌, ◌<◌, List, [], ◌∷◌, ◌++◌, length, take, get_or, map, Result, Ok, Bor, refl, ap, sym, subst, ◌∙◌}
use Rattle.std.proofs.lemmas.List.{take_more, map-append}
use Rattle.orc_proto.specs.declared.fault.WireFault.{WireFault}
use Rattle.orc_proto.specs.Message.{VARINT, LEN}
use Rattle.orc_proto.specs.Reading.{numbers_of}
use Rattle.orc_proto.specs.Laws.{all_read, PackedAreRead}
use Rattle.orc_tail.specs.declared.fault.TailFault.{TailFault}
use Rattle.orc_tail.specs.declared.stripe.Stripe.{Stripe}
use Rattle.orc_tail.specs.declared.encoding.Encoding.{Encoding}
use Rattle.orc_tail.specs.Reading.{◌>>=◌, behind, numbers_from}
use Rattle.orc_tail.specs.Messages.{stream_of, encoding_of, stripe_of, TypeMessage, type_of, FooterMessage, footer_field, stripe_footer_field}
use Rattle.message_writer.specs.Written.{Adds, AddsPacked}
use Rattle.footer_writer.specs.declared.stream_part.StreamPart.{StreamPart}
use Rattle.footer_writer.specs.declared.file_type.FileType.{FileType}
use Rattle.footer_writer.specs.Views.{Stream, part_view, file_type_view}
use Rattle.footer_writer.specs.Made.{AddsMessage, Makes, IsTypeSoFar}
use Rattle.footer_writer.proofs.Folding.{grown}

-- one element more was taken
taken_more : {X Y : Type 0} (f : X → Y) (xs : List X) (i : ℕ) (d : X) → i < length xs → map f (take i xs) ++ f (get_or xs i d) ∷ [] ≡ map f (take (i + 1) xs)
taken_more {X = X} f xs i d below = sym (ap (λ (ys : List X). map f ys) (take_more xs i d below) ∙ map-append f (take i xs) (get_or xs i d ∷ []))

pub stream_added : {before after : List ℕ} (streams : List StreamPart) (i : ℕ) (d : StreamPart) (encodings : List Encoding) → i < length streams
    → Makes stripe_footer_field (record { streams = []; encodings = [] }) before (record { streams = map part_view (take i streams); encodings = encodings })
    → AddsMessage before after 1 stream_of (part_view (get_or streams i d))
    → Makes stripe_footer_field (record { streams = []; encodings = [] }) after (record { streams = map part_view (take (i + 1) streams); encodings = encodings })
stream_added {before} {after} streams i d encodings below makes adds =
    subst (λ (all : List Stream). Makes stripe_footer_field (record { streams = []; encodings = [] }) after (record { streams = all; encodings = encodings })) (taken_more part_view streams i d below)
    (grown makes adds.added (ap (λ (r : Result Stream TailFault). r >>= λ x. Ok (record { streams = map part_view (take i streams) ++ x ∷ []; encodings = encodings })) adds.is_read))

pub encoding_added : {before after : List ℕ} (streams : List Stream) (encodings : List Encoding) (i : ℕ) (d : Encoding) → i < length encodings
    → Makes stripe_footer_field (record { streams = []; encodings = [] }) before (record { streams = streams; encodings = take i encodings })
    → AddsMessage before after 2 encoding_of (get_or encodings i d)
    → Makes stripe_footer_field (record { streams = []; encodings = [] }) after (record { streams = streams; encodings = take (i + 1) encodings })
encoding_added {before} {after} streams encodings i d below makes adds =
    subst (λ (all : List Encoding). Makes stripe_footer_field (record { streams = []; encodings = [] }) after (record { streams = streams; encodings = all })) (sym (take_more encodings i d below))
    (grown makes adds.added (ap (λ (r : Result Encoding TailFault). r >>= λ x. Ok (record { streams = streams; encodings = take i encodings ++ x ∷ [] })) adds.is_read))

pub stripe_added : {before after : List ℕ} (stripes : List Stripe) (i : ℕ) (d : Stripe) (types : List TypeMessage) → i < length stripes
    → Makes footer_field (record { stripes = []; types = [] }) before (record { stripes = take i stripes; types = types })
    → AddsMessage before after 3 stripe_of (get_or stripes i d)
    → Makes footer_field (record { stripes = []; types = [] }) after (record { stripes = take (i + 1) stripes; types = types })
stripe_added {before} {after} stripes i d types below makes adds =
    subst (λ (all : List Stripe). Makes footer_field (record { stripes = []; types = [] }) after (record { stripes = all; types = types })) (sym (take_more stripes i d below))
    (grown makes adds.added (ap (λ (r : Result Stripe TailFault). r >>= λ x. Ok (record { stripes = take i stripes ++ x ∷ []; types = types })) adds.is_read))

pub type_added : {before after : List ℕ} (stripes : List Stripe) (types : List FileType) (i : ℕ) (item : FileType) → item ≡ get_or types i item → i < length types
    → Makes footer_field (record { stripes = []; types = [] }) before (record { stripes = stripes; types = map file_type_view (take i types) })
    → AddsMessage before after 4 type_of (file_type_view item)
    → Makes footer_field (record { stripes = []; types = [] }) after (record { stripes = stripes; types = map file_type_view (take (i + 1) types) })
type_added {before} {after} stripes types i item is below makes adds =
    let all : map file_type_view (take i types) ++ file_type_view item ∷ [] ≡ map file_type_view (take (i + 1) types) =
    ap (λ (x : FileType). map file_type_view (take i types) ++ file_type_view x ∷ []) is ∙ taken_more file_type_view types i item below in
    subst (λ (ts : List TypeMessage). Makes footer_field (record { stripes = []; types = [] }) after (record { stripes = stripes; types = ts })) all
    (grown makes adds.added (ap (λ (r : Result TypeMessage TailFault). r >>= λ x. Ok (record { stripes = stripes; types = map file_type_view (take i types) ++ x ∷ [] })) adds.is_read))

-- ---- types

numbers_back : (numbers : List ℕ) → numbers_from (all_read numbers) ≡ Ok numbers
numbers_back [] = refl
numbers_back (n ∷ numbers) = ap (λ (r : Result (List ℕ) TailFault). r >>= λ ns. Ok (n ∷ ns)) (numbers_back numbers)

pub kind_begun : {before after : List ℕ} (kind : ℕ) → before ≡ [] → Adds before after 1 (VARINT kind) → IsTypeSoFar after kind [] []
kind_begun kind none adds = grown (record { fields = []; spelled = none; made = refl }) adds refl

pub subtypes_added : {before after : List ℕ} (numbers : List ℕ) → PackedAreRead → AddsPacked before after 2 numbers → (kind : ℕ) → IsTypeSoFar before kind [] [] → IsTypeSoFar after kind numbers []
subtypes_added {before} {after} numbers read adds kind so_far =
    let back : numbers_from (numbers_of adds.bytes) ≡ Ok numbers = ap (λ (items : List (Result ℕ WireFault)). numbers_from items) (read adds.bytes numbers adds.packs) ∙ numbers_back numbers in
    grown so_far adds.added (ap (λ (r : Result (List ℕ) TailFault). behind [] r >>= λ ns. Ok (record { kind = kind; subtypes = ns; names = [] })) back)

name_more : {before after : List ℕ} (kind : ℕ) (subtypes : List ℕ) (names : List (Bor (List ℕ))) (i : ℕ) (d : Bor (List ℕ)) → i < length names
    → Adds before after 3 (LEN (get_or names i d).now) → IsTypeSoFar before kind subtypes (map (λ name. name.now) (take i names))
    → IsTypeSoFar after kind subtypes (map (λ name. name.now) (take (i + 1) names))
name_more {before} {after} kind subtypes names i d below adds so_far =
    subst (λ (all : List (List ℕ)). IsTypeSoFar after kind subtypes all) (taken_more (λ name. name.now) names i d below) (grown so_far adds refl)

-- the names, lent as `items`
pub name_added : {before after : List ℕ} (kind : ℕ) (subtypes : List ℕ) (items names : List (Bor (List ℕ))) (i : ℕ) (d : Bor (List ℕ)) → items ≡ names → i < length items
    → Adds before after 3 (LEN (get_or items i d).now) → IsTypeSoFar before kind subtypes (map (λ name. name.now) (take i names))
    → IsTypeSoFar after kind subtypes (map (λ name. name.now) (take (i + 1) names))
name_added {before} {after} kind subtypes items names i d same below adds =
    subst (λ (ns : List (Bor (List ℕ))). IsTypeSoFar before kind subtypes (map (λ name. name.now) (take i ns)) → IsTypeSoFar after kind subtypes (map (λ name. name.now) (take (i + 1) ns))) same
    (name_more kind subtypes items i d below adds)

-- ---- the number of rows is skipped

pub rows_added : {before after : List ℕ} {message : FooterMessage} (rows : ℕ) → Makes footer_field (record { stripes = []; types = [] }) before message
    → Adds before after 6 (VARINT rows) → Makes footer_field (record { stripes = []; types = [] }) after message
rows_added rows makes adds = grown makes adds refl

-- What folds over the fields of a message give, and where they break.
use Rattle.std.proofs.Common.{◌≡◌, ℕ, Bool, true, false, List, [], ◌∷◌, ◌++◌, Result, Ok, Err, refl, ap, ◌∙◌, arith}
use Rattle.std.specs.Prelude.{◌==◌, if◌then◌else◌}
use Rattle.orc_proto.specs.declared.fault.WireFault.{WireFault}
use Rattle.orc_proto.specs.Message.{Content, VARINT, I64, LEN, I32, Entry, Message}
use Rattle.orc_proto.specs.Laws.{all_read}
use Rattle.orc_tail.specs.declared.fault.TailFault.{TailFault}
use Rattle.orc_tail.specs.declared.fault.TailFault.TheVariants.{Wire}
use Rattle.orc_tail.specs.declared.stripe.Stripe.{Stripe}
use Rattle.orc_tail.specs.declared.stream.Stream.{Stream}
use Rattle.orc_tail.specs.declared.encoding.Encoding.{Encoding}
use Rattle.orc_tail.specs.Reading.{◌>>=◌, fields_from}
use Rattle.orc_tail.specs.Messages.{stripe_number, stripe_value, stripe_field, stripe_of, stream_number, stream_value, stream_field, stream_of, encoding_value, encoding_field, encoding_of, type_of, type_field, footer_of, footer_field, stripe_footer_of, stripe_footer_field, postscript_of, postscript_field}
use Rattle.orc_proto.specs.Laws.{MessagesAreRead, ReadIsMessage}
use Rattle.orc_proto.specs.Reading.{fields_of}
use Rattle.orc_tail.specs.Laws.{number_in, varints_of, last_or, FirstBroken, AreMessages, StripesAreRead, StreamsAreRead, EncodingsAreRead, TypesBreakFirst, FootersBreakFirst, StripeFootersBreakFirst}
use Rattle.orc_tail.specs.Laws.FirstBroken.{wire, inside}

abbrev pub read_as : (S : Type 0) → S → Result S TailFault
read_as S s = Ok s

abbrev pub refused_by : (S : Type 0) → TailFault → Result S TailFault
refused_by S fault = Err fault

-- a value that a varint of its field replaces
kept_or_last : (is : Bool) (n old : ℕ) (rest : List ℕ) → last_or (if is then n else old) rest ≡ last_or old ((if is then n ∷ [] else []) ++ rest)
kept_or_last true n old rest = refl
kept_or_last false n old rest = refl

at_step : (s : Stripe) (number n : ℕ) → (stripe_number s number n).at ≡ (if number == 1 then n else s.at)
at_step s number n = grind arith

index_step : (s : Stripe) (number n : ℕ) → (stripe_number s number n).index_len ≡ (if number == 2 then n else s.index_len)
index_step s number n = grind arith

body_step : (s : Stripe) (number n : ℕ) → (stripe_number s number n).body_len ≡ (if number == 3 then n else s.body_len)
body_step s number n = grind arith

footer_step : (s : Stripe) (number n : ℕ) → (stripe_number s number n).footer_len ≡ (if number == 4 then n else s.footer_len)
footer_step s number n = grind arith

rows_step : (s : Stripe) (number n : ℕ) → (stripe_number s number n).rows ≡ (if number == 5 then n else s.rows)
rows_step s number n = grind arith

-- one number of a message after a field
pub field_step : {M : Type 0} (value : M → ℕ → Content → M) (get : M → ℕ) (wanted : ℕ)
    → ((s : M) (number n : ℕ) → get (value s number (VARINT n)) ≡ (if number == wanted then n else get s))
    → ((s : M) (number : ℕ) (xs : List ℕ) → get (value s number (LEN xs)) ≡ get s)
    → ((s : M) (number : ℕ) (xs : List ℕ) → get (value s number (I64 xs)) ≡ get s)
    → ((s : M) (number : ℕ) (xs : List ℕ) → get (value s number (I32 xs)) ≡ get s)
    → (s : M) (number : ℕ) (v : Content) (rest : List ℕ) → last_or (get (value s number v)) rest ≡ last_or (get s) (number_in wanted number v ++ rest)
field_step value get wanted varint len eight four s number (VARINT n) rest = ap (λ (k : ℕ). last_or k rest) (varint s number n) ∙ kept_or_last (number == wanted) n (get s) rest
field_step value get wanted varint len eight four s number (LEN xs) rest = ap (λ (k : ℕ). last_or k rest) (len s number xs)
field_step value get wanted varint len eight four s number (I64 xs) rest = ap (λ (k : ℕ). last_or k rest) (eight s number xs)
field_step value get wanted varint len eight four s number (I32 xs) rest = ap (λ (k : ℕ). last_or k rest) (four s number xs)

abbrev stripe_by : Stripe → List Entry → Stripe
stripe_by s fields = record {
  at = last_or s.at (varints_of 1 fields);
  index_len = last_or s.index_len (varints_of 2 fields);
  body_len = last_or s.body_len (varints_of 3 fields);
  footer_len = last_or s.footer_len (varints_of 4 fields);
  rows = last_or s.rows (varints_of 5 fields);
}

same_stripe : (at at' index index' body body' footer footer' rows rows' : ℕ) → at ≡ at' → index ≡ index' → body ≡ body' → footer ≡ footer' → rows ≡ rows'
    → read_as Stripe (record { at = at; index_len = index; body_len = body; footer_len = footer; rows = rows }) ≡ Ok (record { at = at'; index_len = index'; body_len = body'; footer_len = footer'; rows = rows' })
same_stripe at at' index index' body body' footer footer' rows rows' a b c d e = rw (a, b, c, d, e) refl

stripe_fold : (s : Stripe) (fields : List Entry) → fields_from stripe_field s (all_read fields) ≡ Ok (stripe_by s fields)
stripe_fold s [] = refl
stripe_fold s (field ∷ fields) =
    stripe_fold (stripe_value s field.number field.value) fields ∙ same_stripe _ _ _ _ _ _ _ _ _ _
    (field_step stripe_value (λ s. s.at) 1 at_step (λ _ _ _. refl) (λ _ _ _. refl) (λ _ _ _. refl) s field.number field.value (varints_of 1 fields))
    (field_step stripe_value (λ s. s.index_len) 2 index_step (λ _ _ _. refl) (λ _ _ _. refl) (λ _ _ _. refl) s field.number field.value (varints_of 2 fields))
    (field_step stripe_value (λ s. s.body_len) 3 body_step (λ _ _ _. refl) (λ _ _ _. refl) (λ _ _ _. refl) s field.number field.value (varints_of 3 fields))
    (field_step stripe_value (λ s. s.footer_len) 4 footer_step (λ _ _ _. refl) (λ _ _ _. refl) (λ _ _ _. refl) s field.number field.value (varints_of 4 fields))
    (field_step stripe_value (λ s. s.rows) 5 rows_step (λ _ _ _. refl) (λ _ _ _. refl) (λ _ _ _. refl) s field.number field.value (varints_of 5 fields))

pub stripes_are_read : MessagesAreRead → StripesAreRead
unfolding stripe_of
stripes_are_read read bytes fields message =
    ap (λ (items : List (Result Entry WireFault)). fields_from stripe_field (record { at = 0; index_len = 0; body_len = 0; footer_len = 0; rows = 0 }) items) (read bytes fields message)
    ∙ stripe_fold (record { at = 0; index_len = 0; body_len = 0; footer_len = 0; rows = 0 }) fields

stream_kind : (s : Stream) (number n : ℕ) → (stream_number s number n).kind ≡ (if number == 1 then n else s.kind)
stream_kind s number n = grind arith

stream_column : (s : Stream) (number n : ℕ) → (stream_number s number n).column ≡ (if number == 2 then n else s.column)
stream_column s number n = grind arith

stream_len : (s : Stream) (number n : ℕ) → (stream_number s number n).len ≡ (if number == 3 then n else s.len)
stream_len s number n = grind arith

abbrev stream_by : Stream → List Entry → Stream
stream_by s fields = record { kind = last_or s.kind (varints_of 1 fields); column = last_or s.column (varints_of 2 fields); len = last_or s.len (varints_of 3 fields) }

same_stream : (kind kind' column column' len len' : ℕ) → kind ≡ kind' → column ≡ column' → len ≡ len'
    → read_as Stream (record { kind = kind; column = column; len = len }) ≡ Ok (record { kind = kind'; column = column'; len = len' })
same_stream kind kind' column column' len len' a b c = rw (a, b, c) refl

stream_fold : (s : Stream) (fields : List Entry) → fields_from stream_field s (all_read fields) ≡ Ok (stream_by s fields)
stream_fold s [] = refl
stream_fold s (field ∷ fields) =
    stream_fold (stream_value s field.number field.value) fields ∙ same_stream _ _ _ _ _ _
    (field_step stream_value (λ s. s.kind) 1 stream_kind (λ _ _ _. refl) (λ _ _ _. refl) (λ _ _ _. refl) s field.number field.value (varints_of 1 fields))
    (field_step stream_value (λ s. s.column) 2 stream_column (λ _ _ _. refl) (λ _ _ _. refl) (λ _ _ _. refl) s field.number field.value (varints_of 2 fields))
    (field_step stream_value (λ s. s.len) 3 stream_len (λ _ _ _. refl) (λ _ _ _. refl) (λ _ _ _. refl) s field.number field.value (varints_of 3 fields))

pub streams_are_read : MessagesAreRead → StreamsAreRead
unfolding stream_of
streams_are_read read bytes fields message =
    ap (λ (items : List (Result Entry WireFault)). fields_from stream_field (record { kind = 0; column = 0; len = 0 }) items) (read bytes fields message)
    ∙ stream_fold (record { kind = 0; column = 0; len = 0 }) fields

encoding_kind : (s : Encoding) (number n : ℕ) → (encoding_value s number (VARINT n)).kind ≡ (if number == 1 then n else s.kind)
encoding_kind s number n = grind arith

encoding_size : (s : Encoding) (number n : ℕ) → (encoding_value s number (VARINT n)).dictionary_size ≡ (if number == 2 then n else s.dictionary_size)
encoding_size s number n = grind arith

abbrev encoding_by : Encoding → List Entry → Encoding
encoding_by s fields = record { kind = last_or s.kind (varints_of 1 fields); dictionary_size = last_or s.dictionary_size (varints_of 2 fields) }

same_encoding : (kind kind' size size' : ℕ) → kind ≡ kind' → size ≡ size'
    → read_as Encoding (record { kind = kind; dictionary_size = size }) ≡ Ok (record { kind = kind'; dictionary_size = size' })
same_encoding kind kind' size size' a b = rw (a, b) refl

encoding_fold : (s : Encoding) (fields : List Entry) → fields_from encoding_field s (all_read fields) ≡ Ok (encoding_by s fields)
encoding_fold s [] = refl
encoding_fold s (field ∷ fields) =
    encoding_fold (encoding_value s field.number field.value) fields ∙ same_encoding _ _ _ _
    (field_step encoding_value (λ s. s.kind) 1 encoding_kind (λ _ _ _. refl) (λ _ _ _. refl) (λ _ _ _. refl) s field.number field.value (varints_of 1 fields))
    (field_step encoding_value (λ s. s.dictionary_size) 2 encoding_size (λ _ _ _. refl) (λ _ _ _. refl) (λ _ _ _. refl) s field.number field.value (varints_of 2 fields))

pub encodings_are_read : MessagesAreRead → EncodingsAreRead
unfolding encoding_of
encodings_are_read read bytes fields message =
    ap (λ (items : List (Result Entry WireFault)). fields_from encoding_field (record { kind = 0; dictionary_size = 0 }) items) (read bytes fields message)
    ∙ encoding_fold (record { kind = 0; dictionary_size = 0 }) fields

behind_one : {S : Type 0} (step : S → Entry → Result S TailFault) (s t : S) (field : Entry) (rest : List (Result Entry WireFault)) (fault : TailFault)
    → step s field ≡ Ok t → FirstBroken step t rest fault → FirstBroken step s (Ok field ∷ rest) fault
behind_one {S} step s t field rest fault is (wire front others state e parts read same) =
    wire (field ∷ front) others state e (ap (λ (xs : List (Result Entry WireFault)). Ok field ∷ xs) parts)
    (ap (λ (r : Result S TailFault). r >>= λ u. fields_from step u (all_read front)) is ∙ read) same
behind_one {S} step s t field rest fault is (inside front broken others state parts read fails) =
    inside (field ∷ front) broken others state (ap (λ (xs : List (Result Entry WireFault)). Ok field ∷ xs) parts)
    (ap (λ (r : Result S TailFault). r >>= λ u. fields_from step u (all_read front)) is ∙ read) fails

pub first_broken : {S : Type 0} (step : S → Entry → Result S TailFault) (start : S) (items : List (Result Entry WireFault)) (fault : TailFault)
    → fields_from step start items ≡ Err fault → FirstBroken step start items fault
first_broken {S} step s [] fault same = absurd (let no : read_as S s ≡ refused_by S fault = same in cc)
first_broken {S} step s (Err e ∷ rest) fault same = wire [] rest s e refl refl (let known : refused_by S (Wire e) ≡ refused_by S fault = same in cc)
first_broken {S} step s (Ok field ∷ rest) fault same =
    elim (step s field) as (λ r. step s field ≡ r → (r >>= λ t. fields_from step t rest) ≡ Err fault → FirstBroken step s (Ok field ∷ rest) fault) [
      | Ok t ↦ λ is fails. behind_one step s t field rest fault is (first_broken step t rest fault fails)
      | Err e ↦ λ is fails. inside [] field rest s refl refl (is ∙ fails)
    ] refl same

pub types_break_first : TypesBreakFirst
unfolding type_of
types_break_first bytes fault same = first_broken type_field (record { kind = 0; subtypes = []; names = [] }) (fields_of bytes) fault same

pub footers_break_first : FootersBreakFirst
unfolding footer_of
footers_break_first bytes fault same = first_broken footer_field (record { stripes = []; types = [] }) (fields_of bytes) fault same

pub stripe_footers_break_first : StripeFootersBreakFirst
unfolding stripe_footer_of
stripe_footers_break_first bytes fault same = first_broken stripe_footer_field (record { streams = []; encodings = [] }) (fields_of bytes) fault same

-- ---- what is read is a message

pub whole_items : {S : Type 0} (step : S → Entry → Result S TailFault) (s t : S) (items : List (Result Entry WireFault)) → fields_from step s items ≡ Ok t
    → (fields : List Entry) × (items ≡ all_read fields)
whole_items step s t [] same = ([], refl)
whole_items {S} step s t (Err e ∷ items) same = absurd (let no : refused_by S (Wire e) ≡ read_as S t = same in cc)
whole_items {S} step s t (Ok field ∷ items) same =
    elim (step s field) as (λ r. (r >>= λ u. fields_from step u items) ≡ Ok t → (fields : List Entry) × (Ok field ∷ items ≡ all_read fields)) [
      | Ok u ↦ λ later. let w = whole_items step u t items later in
          (field ∷ w.0, ap (λ (l : List (Result Entry WireFault)). Ok field ∷ l) w.1)
      | Err e ↦ λ fails. absurd (let no : refused_by S e ≡ read_as S t = fails in cc)
    ] same

pub read_is_message : {S : Type 0} → ReadIsMessage → (step : S → Entry → Result S TailFault) (s t : S) (bytes : List ℕ)
    → fields_from step s (fields_of bytes) ≡ Ok t → (fields : List Entry) × Message bytes fields
read_is_message only step s t bytes same = let w = whole_items step s t (fields_of bytes) same in (w.0, only bytes w.0 w.1)

pub stripes_are_messages : ReadIsMessage → AreMessages stripe_of
unfolding stripe_of
stripes_are_messages only bytes t same = read_is_message only stripe_field _ t bytes same

pub streams_are_messages : ReadIsMessage → AreMessages stream_of
unfolding stream_of
streams_are_messages only bytes t same = read_is_message only stream_field _ t bytes same

pub encodings_are_messages : ReadIsMessage → AreMessages encoding_of
unfolding encoding_of
encodings_are_messages only bytes t same = read_is_message only encoding_field _ t bytes same

pub postscripts_are_messages : ReadIsMessage → AreMessages postscript_of
unfolding postscript_of
postscripts_are_messages only bytes t same = read_is_message only postscript_field _ t bytes same

-- What bytes make of a tail or a footer is never a failed read or want of memory.
use Rattle.std.proofs.Common.{◌≡◌, ℕ, Bool, true, false, cond, List, [], ◌∷◌, ◌++◌, Result, Ok, Err, refl, subst}
use Rattle.orc_proto.specs.declared.fault.WireFault.{WireFault}
use Rattle.orc_proto.specs.Message.{Content, VARINT, I64, LEN, I32, Entry}
use Rattle.orc_proto.specs.Reading.{fields_of}
use Rattle.outside.specs.Followed.{decided}
use Rattle.orc_tail.specs.declared.fault.TailFault.{TailFault}
use Rattle.orc_tail.specs.declared.fault.TailFault.TheVariants.{Wire, NotOrc, BadTypes}
use Rattle.orc_tail.specs.declared.columns.TopColumn.{TopColumn}
use Rattle.orc_tail.specs.declared.postscript.PostScript.{PostScript}
use Rattle.orc_tail.specs.declared.stripe.Stripe.{Stripe}
use Rattle.orc_tail.specs.declared.stream.Stream.{Stream}
use Rattle.orc_tail.specs.Reading.{◌>>=◌, fields_from, numbers_from, behind}
use Rattle.orc_tail.specs.Messages.{stripe_of, TypeMessage, type_value, type_field, type_of, FooterMessage, footer_value, footer_field, footer_of, stream_of, encoding_of, StripeFooterMessage, stripe_footer_value, stripe_footer_field, stripe_footer_of, stripe_value, stripe_field, stream_value, stream_field, encoding_value, encoding_field}
use Rattle.orc_tail.specs.Tail.{or_not_orc, span_before, footer_span, top_columns, stripes_within, tail_of_footer}
use Rattle.orc_tail.specs.StripeFooter.{streams_within, stripe_footer_in}
use Rattle.orc_tail.specs.Reads.{ending}

-- it is a value, or an error that the bytes decide
pub record IsDecided {Y : Type 0} (read : Result Y TailFault) : Type 0 where
  pub by : (e : TailFault) → read ≡ Err e → ending e ≡ decided

decided_ok : {A : Type 0} (x : A) → IsDecided {Y = A} (Ok x)
decided_ok x = record { by = λ e h. absurd cc }

pub decided_err : {A : Type 0} (e : TailFault) → ending e ≡ decided → IsDecided {Y = A} (Err e)
decided_err {A} e is = record { by = λ f h. let same : e ≡ f = cc in subst (λ (x : TailFault). ending x ≡ decided) same is }

decided_then : {A B : Type 0} (r : Result A TailFault) (f : A → Result B TailFault) → IsDecided r → ((x : A) → IsDecided (f x)) → IsDecided (r >>= f)
decided_then (Ok x) f p q = q x
decided_then {B = B} (Err e) f p q = decided_err {A = B} e (p.by e refl)

decided_either : {A : Type 0} (b : Bool) (x y : Result A TailFault) → IsDecided x → IsDecided y → IsDecided (cond b x y)
decided_either true x y p q = p
decided_either false x y p q = q

decided_fields : {S : Type 0} (step : S → Entry → Result S TailFault) → ((s : S) (field : Entry) → IsDecided (step s field)) → (s : S) (fields : List (Result Entry WireFault)) → IsDecided (fields_from step s fields)
decided_fields step each s [] = decided_ok s
decided_fields {S = S} step each s (Err e ∷ fields) = decided_err {A = S} (Wire e) refl
decided_fields step each s (Ok field ∷ fields) = decided_then (step s field) (λ t. fields_from step t fields) (each s field) (λ t. decided_fields step each t fields)

decided_numbers : (numbers : List (Result ℕ WireFault)) → IsDecided (numbers_from numbers)
decided_numbers [] = decided_ok []
decided_numbers (Err e ∷ numbers) = decided_err {A = List ℕ} (Wire e) refl
decided_numbers (Ok n ∷ numbers) = decided_then (numbers_from numbers) (λ ns. Ok (n ∷ ns)) (decided_numbers numbers) (λ ns. decided_ok (n ∷ ns))

decided_behind : (front : List ℕ) (read : Result (List ℕ) TailFault) → IsDecided read → IsDecided (behind front read)
decided_behind front (Ok ns) p = decided_ok (front ++ ns)
decided_behind front (Err e) p = decided_err {A = List ℕ} e (p.by e refl)

ruleset decided_steps = (decided_ok, decided_err, decided_either, decided_then, decided_numbers, decided_behind, refl)

decided_stripe : (xs : List ℕ) → IsDecided (stripe_of xs)
unfolding stripe_of
decided_stripe xs = decided_fields stripe_field (λ s field. decided_ok (stripe_value s field.number field.value)) (record { at = 0; index_len = 0; body_len = 0; footer_len = 0; rows = 0 }) (fields_of xs)

decided_stream : (xs : List ℕ) → IsDecided (stream_of xs)
unfolding stream_of
decided_stream xs = decided_fields stream_field (λ s field. decided_ok (stream_value s field.number field.value)) (record { kind = 0; column = 0; len = 0 }) (fields_of xs)

decided_encoding : (xs : List ℕ) → IsDecided (encoding_of xs)
unfolding encoding_of
decided_encoding xs = decided_fields encoding_field (λ s field. decided_ok (encoding_value s field.number field.value)) (record { kind = 0; dictionary_size = 0 }) (fields_of xs)

decided_type_value : (s : TypeMessage) (number : ℕ) (value : Content) → IsDecided (type_value s number value)
decided_type_value s number (VARINT n) = search decided_steps
decided_type_value s number (LEN xs) = search decided_steps
decided_type_value s number (I64 xs) = decided_ok s
decided_type_value s number (I32 xs) = decided_ok s

decided_type : (xs : List ℕ) → IsDecided (type_of xs)
unfolding type_of
decided_type xs = decided_fields type_field (λ s field. decided_type_value s field.number field.value) (record { kind = 0; subtypes = []; names = [] }) (fields_of xs)

decided_footer_value : (s : FooterMessage) (number : ℕ) (value : Content) → IsDecided (footer_value s number value)
decided_footer_value s number (LEN xs) = search (decided_steps, decided_stripe, decided_type)
decided_footer_value s number (VARINT n) = decided_ok s
decided_footer_value s number (I64 xs) = decided_ok s
decided_footer_value s number (I32 xs) = decided_ok s

decided_footer : (xs : List ℕ) → IsDecided (footer_of xs)
unfolding footer_of
decided_footer xs = decided_fields footer_field (λ s field. decided_footer_value s field.number field.value) (record { stripes = []; types = [] }) (fields_of xs)

decided_stripe_footer_value : (s : StripeFooterMessage) (number : ℕ) (value : Content) → IsDecided (stripe_footer_value s number value)
decided_stripe_footer_value s number (LEN xs) = search (decided_steps, decided_stream, decided_encoding)
decided_stripe_footer_value s number (VARINT n) = decided_ok s
decided_stripe_footer_value s number (I64 xs) = decided_ok s
decided_stripe_footer_value s number (I32 xs) = decided_ok s

decided_stripe_footer : (xs : List ℕ) → IsDecided (stripe_footer_of xs)
unfolding stripe_footer_of
decided_stripe_footer xs = decided_fields stripe_footer_field (λ s field. decided_stripe_footer_value s field.number field.value) (record { streams = []; encodings = [] }) (fields_of xs)

decided_span_before : (len p : ℕ) (s : PostScript) → IsDecided (span_before len p s)
unfolding span_before
decided_span_before len p s = search decided_steps

decided_or_not_orc : {S : Type 0} (r : Result S TailFault) → IsDecided (or_not_orc r)
decided_or_not_orc (Ok s) = decided_ok s
decided_or_not_orc {S} (Err e) = decided_err {A = S} NotOrc refl

decided_postscript : (len p : ℕ) (r : Result PostScript TailFault) → IsDecided (or_not_orc r >>= span_before len p)
decided_postscript len p r = decided_then (or_not_orc r) (span_before len p) (decided_or_not_orc r) (decided_span_before len p)

pub decided_span : (len : ℕ) (last : List ℕ) → IsDecided (footer_span len last)
unfolding footer_span
decided_span len last = search (decided_steps, decided_postscript)

decided_columns : (types : List TypeMessage) → IsDecided (top_columns types)
unfolding top_columns
decided_columns [] = decided_err {A = List TopColumn} BadTypes refl
decided_columns (root ∷ others) = search decided_steps

decided_stripes : (len : ℕ) (stripes : List Stripe) → IsDecided (stripes_within len stripes)
unfolding stripes_within
decided_stripes len stripes = search decided_steps

pub decided_tail : (len : ℕ) (footer : List ℕ) → IsDecided (tail_of_footer len footer)
unfolding tail_of_footer
decided_tail len footer = search (decided_steps, decided_footer, decided_columns, decided_stripes)

decided_streams : (stripe : Stripe) (streams : List Stream) → IsDecided (streams_within stripe streams)
unfolding streams_within
decided_streams stripe streams = search decided_steps

pub decided_footer_in : (stripe : Stripe) (footer : List ℕ) → IsDecided (stripe_footer_in stripe footer)
unfolding stripe_footer_in
decided_footer_in stripe footer = search (decided_steps, decided_stripe_footer, decided_streams)

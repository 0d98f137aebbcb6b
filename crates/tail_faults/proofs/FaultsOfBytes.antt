-- The faults of messages, of stripe footers and of tails.
use Rattle.std.proofs.Common.{ℕ, List, [], ◌∷◌, Result, Ok, Err}
use Rattle.orc_proto.specs.declared.fault.WireFault.{WireFault}
use Rattle.orc_proto.specs.Message.{Content, VARINT, I64, LEN, I32}
use Rattle.orc_proto.specs.Reading.{fields_of}
use Rattle.orc_tail.specs.declared.fault.TailFault.{TailFault}
use Rattle.orc_tail.specs.declared.fault.TailFault.TheVariants.{Wire, NotOrc, BadTypes}
use Rattle.orc_tail.specs.declared.columns.TopColumn.{TopColumn}
use Rattle.orc_tail.specs.declared.stripe.Stripe.{Stripe}
use Rattle.orc_tail.specs.Messages.{stripe_of, TypeMessage, type_value, type_field, type_of, FooterMessage, footer_value, footer_field, footer_of, stream_of, encoding_of, StripeFooterMessage, stripe_footer_value, stripe_footer_field, stripe_footer_of, stripe_value, stripe_field, stream_value, stream_field, encoding_value, encoding_field}
use Rattle.orc_tail.specs.Tail.{or_not_orc, span_before, footer_span, top_columns, stripes_within, tail_of_footer, tail}
use Rattle.orc_tail.specs.StripeFooter.{streams_within, stripe_footer_in, stripe_footer}
use Rattle.tail_faults.specs.Laws.{IsFooterFault, IsTailFault, StripeFootersHaveThreeFaults, TailsHaveSevenFaults}
use Rattle.tail_faults.proofs.Refusals.{Refuses, by_ok, by_err, by_then, by_either, by_fields, by_numbers, by_behind}

-- ---- messages: only what is no message, whatever else may be

module _ (P : TailFault → Type 0) (wire : (e : WireFault) → P (Wire e)) where
  of_stripe : (xs : List ℕ) → Refuses P (stripe_of xs)
  unfolding stripe_of
  of_stripe xs = by_fields P wire stripe_field (λ s field. by_ok P wire (stripe_value s field.number field.value)) (record { at = 0; index_len = 0; body_len = 0; footer_len = 0; rows = 0 }) (fields_of xs)

  of_stream : (xs : List ℕ) → Refuses P (stream_of xs)
  unfolding stream_of
  of_stream xs = by_fields P wire stream_field (λ s field. by_ok P wire (stream_value s field.number field.value)) (record { kind = 0; column = 0; len = 0 }) (fields_of xs)

  of_encoding : (xs : List ℕ) → Refuses P (encoding_of xs)
  unfolding encoding_of
  of_encoding xs = by_fields P wire encoding_field (λ s field. by_ok P wire (encoding_value s field.number field.value)) (record { kind = 0; dictionary_size = 0 }) (fields_of xs)

  of_type_value : (s : TypeMessage) (number : ℕ) (value : Content) → Refuses P (type_value s number value)
  of_type_value s number (VARINT n) = search (by_ok P wire, by_either P wire)
  of_type_value s number (LEN xs) = search (by_ok P wire, by_either P wire, by_then P wire, by_numbers P wire, by_behind P wire)
  of_type_value s number (I64 xs) = by_ok P wire s
  of_type_value s number (I32 xs) = by_ok P wire s

  of_type : (xs : List ℕ) → Refuses P (type_of xs)
  unfolding type_of
  of_type xs = by_fields P wire type_field (λ s field. of_type_value s field.number field.value) (record { kind = 0; subtypes = []; names = [] }) (fields_of xs)

  of_footer_value : (s : FooterMessage) (number : ℕ) (value : Content) → Refuses P (footer_value s number value)
  of_footer_value s number (LEN xs) = search (by_ok P wire, by_either P wire, by_then P wire, of_stripe, of_type)
  of_footer_value s number (VARINT n) = by_ok P wire s
  of_footer_value s number (I64 xs) = by_ok P wire s
  of_footer_value s number (I32 xs) = by_ok P wire s

  pub of_footer : (xs : List ℕ) → Refuses P (footer_of xs)
  unfolding footer_of
  of_footer xs = by_fields P wire footer_field (λ s field. of_footer_value s field.number field.value) (record { stripes = []; types = [] }) (fields_of xs)

  of_stripe_footer_value : (s : StripeFooterMessage) (number : ℕ) (value : Content) → Refuses P (stripe_footer_value s number value)
  of_stripe_footer_value s number (LEN xs) = search (by_ok P wire, by_either P wire, by_then P wire, of_stream, of_encoding)
  of_stripe_footer_value s number (VARINT n) = by_ok P wire s
  of_stripe_footer_value s number (I64 xs) = by_ok P wire s
  of_stripe_footer_value s number (I32 xs) = by_ok P wire s

  pub of_stripe_footer : (xs : List ℕ) → Refuses P (stripe_footer_of xs)
  unfolding stripe_footer_of
  of_stripe_footer xs = by_fields P wire stripe_footer_field (λ s field. of_stripe_footer_value s field.number field.value) (record { streams = []; encodings = [] }) (fields_of xs)

-- ---- a stripe's footer

footer_wire : (e : WireFault) → IsFooterFault (Wire e)
footer_wire e = tt

of_streams : (stripe : Stripe) (streams : _) → Refuses IsFooterFault (streams_within stripe streams)
unfolding streams_within
of_streams stripe streams =
    search (by_ok IsFooterFault footer_wire, by_err IsFooterFault footer_wire, by_either IsFooterFault footer_wire)

of_footer_in : (stripe : Stripe) (footer : List ℕ) → Refuses IsFooterFault (stripe_footer_in stripe footer)
unfolding stripe_footer_in
of_footer_in stripe footer =
    search (by_ok IsFooterFault footer_wire, by_then IsFooterFault footer_wire, of_stripe_footer IsFooterFault footer_wire, of_streams)

pub stripe_footers_have_three_faults : StripeFootersHaveThreeFaults
unfolding stripe_footer
stripe_footers_have_three_faults file stripe why e = (of_footer_in stripe _).by why e

-- ---- a tail

tail_wire : (e : WireFault) → IsTailFault (Wire e)
tail_wire e = tt

of_span_before : (len p : ℕ) (s : _) → Refuses IsTailFault (span_before len p s)
unfolding span_before
of_span_before len p s =
    search (by_ok IsTailFault tail_wire, by_err IsTailFault tail_wire, by_either IsTailFault tail_wire)

of_postscript : {S : Type 0} (r : Result S TailFault) → Refuses IsTailFault (or_not_orc r)
of_postscript (Ok s) = by_ok IsTailFault tail_wire s
of_postscript {S} (Err e) = by_err IsTailFault tail_wire {A = S} NotOrc tt

of_span : (len : ℕ) (last : List ℕ) → Refuses IsTailFault (footer_span len last)
unfolding footer_span
of_span len last =
    search (by_err IsTailFault tail_wire, by_either IsTailFault tail_wire, by_then IsTailFault tail_wire, of_postscript, of_span_before)

of_columns : (types : List TypeMessage) → Refuses IsTailFault (top_columns types)
unfolding top_columns
of_columns [] = by_err IsTailFault tail_wire {A = List TopColumn} BadTypes tt
of_columns (root ∷ others) = search (by_ok IsTailFault tail_wire, by_err IsTailFault tail_wire, by_either IsTailFault tail_wire)

of_stripes : (len : ℕ) (stripes : List Stripe) → Refuses IsTailFault (stripes_within len stripes)
unfolding stripes_within
of_stripes len stripes =
    search (by_ok IsTailFault tail_wire, by_err IsTailFault tail_wire, by_either IsTailFault tail_wire)

of_tail : (len : ℕ) (footer : List ℕ) → Refuses IsTailFault (tail_of_footer len footer)
unfolding tail_of_footer
of_tail len footer =
    search (by_ok IsTailFault tail_wire, by_then IsTailFault tail_wire, of_footer IsTailFault tail_wire, of_columns, of_stripes)

of_whole : (file : List ℕ) → Refuses IsTailFault (tail file)
unfolding tail
of_whole file =
    search (by_err IsTailFault tail_wire, by_either IsTailFault tail_wire, by_then IsTailFault tail_wire, of_span, of_tail)

pub tails_have_seven_faults : TailsHaveSevenFaults
tails_have_seven_faults file why e = (of_whole file).by why e

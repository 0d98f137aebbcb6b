-- What written bytes are read as. Source: this project's own, over the Apache ORC specification v1, "Stripe Footer" and "Footer".
use Rattle.std.specs.Prelude.{◌≡◌, ℕ, ◌+◌, ◌≤◌, false, List, [], Result, Ok, map, slice_range, sum_by}
use Rattle.orc_proto.specs.Message.{VARINT, LEN, Entry, Message}
use Rattle.orc_proto.specs.Laws.{all_read}
use Rattle.orc_tail.specs.declared.fault.TailFault.{TailFault}
use Rattle.orc_tail.specs.declared.stripe.Stripe.{Stripe}
use Rattle.orc_tail.specs.declared.encoding.Encoding.{Encoding}
use Rattle.orc_tail.specs.Reading.{fields_from}
use Rattle.orc_tail.specs.Messages.{type_field}
use Rattle.orc_tail.specs.StripeFooter.{footer_at, placed, first_stream, has_bytes, stripe_footer}
use Rattle.message_writer.specs.Written.{Adds}
use Rattle.footer_writer.specs.declared.stream_part.StreamPart.{StreamPart}
use Rattle.footer_writer.specs.Views.{Stream, part_view}

-- reading the bytes gives that message
abbrev pub IsRead : {M : Type 0} → (List ℕ → Result M TailFault) → List ℕ → M → Type 0
IsRead read bytes message = read bytes ≡ Ok message

-- one field more, whose bytes are read as a message
pub record AddsMessage {M : Type 0} (before after : List ℕ) (number : ℕ) (read : List ℕ → Result M TailFault) (message : M) : Type 0 where
  pub bytes : List ℕ
  pub is_read : IsRead read bytes message
  pub added : Adds before after number (LEN bytes)

-- the bytes so far are a message whose fields make that of a state
pub record Makes {S : Type 0} (step : S → Entry → Result S TailFault) (start : S) (bytes : List ℕ) (state : S) : Type 0 where
  pub fields : List Entry
  pub spelled : Message bytes fields
  pub made : fields_from step start (all_read fields) ≡ Ok state

-- the bytes so far are a type's message with this kind, these subtypes and these names
abbrev pub IsTypeSoFar : List ℕ → ℕ → List ℕ → List (List ℕ) → Type 0
IsTypeSoFar bytes kind subtypes names =
    Makes type_field (record { kind = 0; subtypes = []; names = [] }) bytes (record { kind = kind; subtypes = subtypes; names = names })

-- the last field of the bytes is a number
pub record EndsWithNumber (bytes : List ℕ) (number : ℕ) (value : ℕ) : Type 0 where
  pub front : List ℕ
  pub added : Adds front bytes number (VARINT value)

-- the streams lie in the stripe before its footer, and the root has no PRESENT stream with bytes
pub record LieIn (stripe : Stripe) (streams : List Stream) : Type 0 where
  pub in_stripe : sum_by (λ s. s.len) streams ≤ stripe.index_len + stripe.body_len
  pub no_root : has_bytes (first_stream 0 0 (placed stripe.at streams)) ≡ false

-- A file that has the bytes at the place of a stripe's footer has there these streams, one behind the other from the stripe's first
-- byte on, and these encodings.
abbrev pub IsStripeFooter : List ℕ → List StreamPart → List Encoding → Type 0
IsStripeFooter bytes streams encodings = (file : List ℕ) (stripe : Stripe)
    → slice_range file (footer_at stripe) (footer_at stripe + stripe.footer_len) ≡ bytes → LieIn stripe (map part_view streams)
    → stripe_footer file stripe ≡ Ok (record { streams = placed stripe.at (map part_view streams); encodings = encodings })

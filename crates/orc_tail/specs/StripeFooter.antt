-- A stripe's footer, by the file's bytes: where its streams lie, and its encodings, or the first of three
-- conditions that refuses it. Source: Apache ORC specification v1, "Stripe Footer"; the conditions and
-- their order are this project's own: 1 a message is broken, 2 the streams pass the stripe's end, 3 the root has a
-- PRESENT stream with bytes.
use Rattle.std.specs.Prelude.{◌≡◌, ℕ, ◌+◌, ◌≤◌, Bool, false, ◌&&◌, List, [], ◌∷◌, Option, Some, None, Result, Ok, Err, ◌==◌, nat_lt, if◌then◌else◌, slice_range, sum_by, find}
use Rattle.orc_tail.specs.declared.fault.TailFault.{TailFault}
use Rattle.orc_tail.specs.declared.fault.TailFault.TheVariants.{RootPresent, StreamOutOfStripe}
use Rattle.orc_tail.specs.declared.stripe.Stripe.{Stripe}
use Rattle.orc_tail.specs.declared.stream.Stream.{Stream}
use Rattle.orc_tail.specs.declared.stream.StreamRange.{StreamRange}
use Rattle.orc_tail.specs.declared.stripe_footer.StripeFooter.{StripeFooter}
use Rattle.orc_tail.specs.Reading.{◌>>=◌}
use Rattle.orc_tail.specs.Messages.{stripe_footer_of}

-- each stream begins where the one before it ends
abbrev pub placed : ℕ → List Stream → List StreamRange
placed at [] = []
placed at (s ∷ streams) = record { kind = s.kind; column = s.column; at = at; len = s.len } ∷ placed (at + s.len) streams

-- The first stream of a kind and a column; of two the first counts, and an absent stream is empty
-- (this project's reading).
abbrev pub first_stream : ℕ → ℕ → List StreamRange → Option StreamRange
first_stream kind column streams = find (λ s. s.kind == kind && s.column == column) streams

abbrev pub has_bytes : Option StreamRange → Bool
has_bytes None = false
has_bytes (Some s) = nat_lt 0 s.len

-- conditions 2 and 3: the streams end within the stripe, and the root has no PRESENT stream (kind 0 of column 0)
unfoldable pub streams_within : Stripe → List Stream → Result (List StreamRange) TailFault
streams_within stripe streams =
    if nat_lt (stripe.index_len + stripe.body_len) (sum_by (λ s. s.len) streams) then Err StreamOutOfStripe
    else (if has_bytes (first_stream 0 0 (placed stripe.at streams)) then Err RootPresent else Ok (placed stripe.at streams))

-- the stripe footer by its own bytes
unfoldable pub stripe_footer_in : Stripe → List ℕ → Result StripeFooter TailFault
stripe_footer_in stripe footer = do
  parts ← stripe_footer_of footer
  streams ← streams_within stripe parts.streams
  Ok (record { streams = streams; encodings = parts.encodings })

abbrev pub footer_at : Stripe → ℕ
footer_at stripe = stripe.at + stripe.index_len + stripe.body_len

-- the stripe footer of a stripe of a file's bytes
unfoldable pub stripe_footer : List ℕ → Stripe → Result StripeFooter TailFault
stripe_footer file stripe =
    stripe_footer_in stripe (slice_range file (footer_at stripe) (footer_at stripe + stripe.footer_len))

-- The streams follow each other from `at` on, each beginning where the one before it ends, and each ends at
-- most at `limit`.
abbrev pub FollowEachOther : ℕ → ℕ → List StreamRange → Type 0
FollowEachOther at limit [] = Unit {0}
FollowEachOther at limit (s ∷ streams) = (s.at ≡ at) × (s.at + s.len ≤ limit) × FollowEachOther (s.at + s.len) limit streams

-- A stripe behind the bytes of a file. Source: Apache ORC specification v1, "Stripes".
use Rattle.std.specs.Prelude.{◌≡◌, ℕ, ◌+◌, ◌≤◌, List, [], ◌∷◌, ◌++◌, length, map, slice_range, sum_by, Ok}
use Rattle.orc_tail.specs.declared.stripe.Stripe.{Stripe}
use Rattle.orc_tail.specs.declared.encoding.Encoding.{Encoding}
use Rattle.orc_tail.specs.declared.stream.StreamRange.{StreamRange}
use Rattle.orc_tail.specs.StripeFooter.{footer_at, placed, stripe_footer}
use Rattle.orc_tail.specs.Tail.{stripe_end}
use Rattle.footer_writer.specs.declared.stream_part.StreamPart.{StreamPart}
use Rattle.footer_writer.specs.Views.{part_view}
use Rattle.footer_writer.specs.Made.{LieIn}

-- the bytes of streams, joined in order
abbrev pub joined_texts : List (List ℕ) → List ℕ
joined_texts [] = []
joined_texts (text ∷ texts) = text ++ joined_texts texts

-- each of the streams has the bytes of one of the texts, in order, and the body is the texts, joined
pub record AreStreams (body : List ℕ) (streams : List StreamPart) (texts : List (List ℕ)) : Type 0 where
  pub body_is : body ≡ joined_texts texts
  pub lengths : map (λ s. s.len) streams ≡ map length texts

-- the bytes of a file where streams lie
abbrev pub bytes_at : List ℕ → List StreamRange → List (List ℕ)
bytes_at file ranges = map (λ range. slice_range file range.at (range.at + range.len)) ranges

-- Behind the bytes before stands a stripe of that many rows, of the bytes `body` and a footer, and nothing else; and in a file that
-- begins with the bytes after, whatever follows, `body` lies between the stripe's first byte and its footer, and the footer is one
-- of these streams, one behind the other, and these encodings, where the streams lie in the stripe; and where `body` is the bytes of
-- the streams, joined, these have room in the stripe, and each is found there.
pub record HasStripe (before after : List ℕ) (stripe : Stripe) (body : List ℕ) (streams : List StreamPart) (encodings : List Encoding)
    (rows : ℕ) : Type 0 where
  pub footer : List ℕ
  pub joined : after ≡ before ++ (body ++ footer)
  pub begins : stripe.at ≡ length before
  pub ends : stripe_end stripe ≡ length after
  pub counted : stripe.rows ≡ rows
  pub body_len : stripe.body_len ≡ length body
  pub body_lies : (rest : List ℕ) → slice_range (after ++ rest) stripe.at (footer_at stripe) ≡ body
  pub footer_lies : (rest : List ℕ) → LieIn stripe (map part_view streams)
      → stripe_footer (after ++ rest) stripe ≡ Ok (record { streams = placed stripe.at (map part_view streams); encodings = encodings })
  pub streams_fit : (texts : List (List ℕ)) → AreStreams body streams texts
      → sum_by (λ s. s.len) (map part_view streams) ≤ stripe.index_len + stripe.body_len
  pub streams_lie : (rest : List ℕ) (texts : List (List ℕ)) → AreStreams body streams texts
      → bytes_at (after ++ rest) (placed stripe.at (map part_view streams)) ≡ texts

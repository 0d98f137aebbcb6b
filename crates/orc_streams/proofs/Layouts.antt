-- Where a column's streams end, and which numbers they have.
use Rattle.std.proofs.Common.{◌≡◌, ℕ, ◌+◌, ◌*◌, ◌<◌, ◌≤◌, Bool, true, false, cond, List, [], ◌∷◌, Option, Some, None, refl, sym, ◌∙◌, subst, arith, inl, inr}
use Rattle.std.specs.Prelude.{◌==◌, ◌&&◌, nat_lt, if◌then◌else◌, slice_get}
use Rattle.orc_columns.specs.declared.spelling.Spelling.{Spelling}
use Rattle.orc_columns.specs.Draws.{IsOfPlan, Differ, StreamsDiffer}
use Rattle.orc_columns.specs.Spelling.{spelling_of}
use Rattle.orc_tail.specs.declared.encoding.Encoding.{Encoding}
use Rattle.orc_tail.specs.declared.stream.StreamRange.{StreamRange}
use Rattle.orc_tail.specs.declared.stripe_footer.StripeFooter.{StripeFooter}
use Rattle.orc_tail.specs.StripeFooter.{first_stream, FollowEachOther}
use Rattle.orc_streams.specs.declared.layout.ColumnLayout.{ColumnLayout}
use Rattle.orc_streams.specs.declared.layout.ReadColumn.{ReadColumn}
use Rattle.orc_streams.specs.declared.layout.Span.{Span}
use Rattle.orc_streams.specs.Layout.{kinds_used, span_of, stored, encoding_kind, layout_in, number_at, plan_at, SpanEndsBy}
use Rattle.orc_streams.specs.Laws.{PlansAreApart, LayoutsEndBy, EndLater}

-- ---- where they end

some_stream : (x y : StreamRange) → Some x ≡ Some y → x ≡ y
some_stream x y e = cc

found_ends : (test : Bool) (x s : StreamRange) (others : Option StreamRange) (limit : ℕ) → x.at + x.len ≤ limit
    → (others ≡ Some s → s.at + s.len ≤ limit) → cond test (Some x) others ≡ Some s → s.at + s.len ≤ limit
found_ends true x s others limit here later e = subst (λ (r : StreamRange). r.at + r.len ≤ limit) (some_stream x s e) here
found_ends false x s others limit here later e = later e

-- of streams that follow each other up to a place, the first of a kind and a column ends there at most
pub first_ends : (kind column at limit : ℕ) (streams : List StreamRange) (s : StreamRange) → FollowEachOther at limit streams
    → first_stream kind column streams ≡ Some s → s.at + s.len ≤ limit
first_ends kind column at limit [] s follow e = absurd (let never : None ≡ Some s = e in cc)
first_ends kind column at limit (x ∷ streams) s follow e =
    found_ends (x.kind == kind && x.column == column) x s (first_stream kind column streams) limit follow.1
    (first_ends kind column (x.at + x.len) limit streams s follow.2) e

span_ends : (found : Option StreamRange) (limit : ℕ) → ((s : StreamRange) → found ≡ Some s → s.at + s.len ≤ limit) → SpanEndsBy limit (span_of found)
span_ends None limit ends = tt
span_ends (Some s) limit ends = if_bytes (s.len == 0)
  where
    if_bytes : (test : Bool) → SpanEndsBy limit (if test then None else Some (record { at = s.at; len = s.len }))
    if_bytes true = tt
    if_bytes false = ends s refl

stored_ends : (footer : StripeFooter) (column kinds kind at limit : ℕ) → FollowEachOther at limit footer.streams → SpanEndsBy limit (stored footer column kinds kind)
stored_ends footer column kinds kind at limit follow = if_used (nat_lt kind kinds)
  where
    if_used : (test : Bool) → SpanEndsBy limit (if test then span_of (first_stream kind column footer.streams) else None)
    if_used true = span_ends (first_stream kind column footer.streams) limit (λ s e. first_ends kind column at limit footer.streams s follow e)
    if_used false = tt

pub layouts_end : LayoutsEndBy
layouts_end footer column at limit follow =
    let kinds = kinds_used (spelling_of column.kind (encoding_kind (slice_get footer.encodings column.number))) in
    record {
      present = stored_ends footer column.number kinds 0 at limit follow;
      body = stored_ends footer column.number kinds 1 at limit follow;
      length = stored_ends footer column.number kinds 2 at limit follow;
      dictionary = stored_ends footer column.number kinds 3 at limit follow;
    }

span_later : (span : Option Span) (limit more : ℕ) → limit ≤ more → SpanEndsBy limit span → SpanEndsBy more span
span_later None limit more le ends = tt
span_later (Some span) limit more le ends = omega arith

pub end_later : EndLater
end_later layout limit more le ends = record {
  present = span_later layout.present limit more le ends.present;
  body = span_later layout.body limit more le ends.body;
  length = span_later layout.length limit more le ends.length;
  dictionary = span_later layout.dictionary limit more le ends.dictionary;
}

-- ---- a layout

pub laid_out_is : (footer : StripeFooter) (column : ReadColumn) (encoding : Option Encoding) (spelled : Option ℕ) (spelling : Option Spelling) (kinds : ℕ)
    (present body lengths dictionary : Option Span) → encoding ≡ slice_get footer.encodings column.number → spelled ≡ encoding_kind encoding
    → spelling ≡ spelling_of column.kind spelled → kinds ≡ kinds_used spelling → present ≡ stored footer column.number kinds 0
    → body ≡ stored footer column.number kinds 1 → lengths ≡ stored footer column.number kinds 2 → dictionary ≡ stored footer column.number kinds 3
    → record { kind = column.kind; encoding = encoding; present = present; body = body; length = lengths; dictionary = dictionary } ≡ layout_in footer column
laid_out_is footer column encoding spelled spelling kinds present body lengths dictionary e s w k p b l d = rw (p, b, l, d, k, w, s, e) refl

-- ---- which numbers they have

numbered : (number stream : ℕ) (span : Option Span) → number_at number span ≡ Some stream → number ≡ stream
numbered number stream None e = absurd cc
numbered number stream (Some span) e = cc

number_differs : (m n : ℕ) (p q : Option Span) → (m ≡ n → ⊥) → Differ (number_at m p) (number_at n q)
number_differs m n p q apart = λ stream is of. apart (numbered m stream p is ∙ sym (numbered n stream q of))

pub plan_differs : (index : ℕ) (layout : ColumnLayout) → StreamsDiffer (plan_at index layout)
plan_differs index l = record {
  present_body = number_differs (4 * index) (4 * index + 1) l.present l.body (λ e. omega arith);
  present_length = number_differs (4 * index) (4 * index + 2) l.present l.length (λ e. omega arith);
  present_dictionary = number_differs (4 * index) (4 * index + 3) l.present l.dictionary (λ e. omega arith);
  body_length = number_differs (4 * index + 1) (4 * index + 2) l.body l.length (λ e. omega arith);
  body_dictionary = number_differs (4 * index + 1) (4 * index + 3) l.body l.dictionary (λ e. omega arith);
  length_dictionary = number_differs (4 * index + 2) (4 * index + 3) l.length l.dictionary (λ e. omega arith);
}

-- a column's streams are the four of its place
of_place : (index stream : ℕ) (l : ColumnLayout) → IsOfPlan (plan_at index l) stream → (4 * index ≤ stream) × (stream < 4 * index + 4)
of_place index stream l (inl e) = let is = numbered (4 * index) stream l.present e in (omega arith, omega arith)
of_place index stream l (inr (inl e)) = let is = numbered (4 * index + 1) stream l.body e in (omega arith, omega arith)
of_place index stream l (inr (inr (inl e))) = let is = numbered (4 * index + 2) stream l.length e in (omega arith, omega arith)
of_place index stream l (inr (inr (inr e))) = let is = numbered (4 * index + 3) stream l.dictionary e in (omega arith, omega arith)

pub plans_apart : PlansAreApart
plans_apart i j l m apart = λ stream is of.
    let one = of_place i stream l is in
    let other = of_place j stream m of in
    apart (omega arith)

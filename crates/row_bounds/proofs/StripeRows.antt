-- A stripe's rows, by the bytes of its file.
use Rattle.std.proofs.Common.{ℕ, ◌+◌, ◌-◌, ◌*◌, ◌<◌, ◌≤◌, List, [], ◌∷◌, length, drop, Some, None, arith, length-drop}
use Rattle.std.specs.Prelude.{Option}
use Rattle.std.proofs.lemmas.List.{length-take}
use Rattle.std.proofs.lemmas.List.Elements.{All-nil, All-take, All-drop}
use Rattle.orc_values.specs.Column.{RowValues}
use Rattle.orc_columns.specs.declared.spelling.Spelling.{Spelling}
use Rattle.orc_columns.specs.declared.spelling.Spelling.TheVariants.{Bits, Integers, Texts, Dictionary}
use Rattle.orc_columns.specs.Column.{Streams}
use Rattle.orc_tail.specs.declared.stripe.Stripe.{Stripe}
use Rattle.orc_tail.specs.declared.stripe_footer.StripeFooter.{StripeFooter}
use Rattle.orc_streams.specs.declared.layout.ColumnLayout.{ColumnLayout}
use Rattle.orc_streams.specs.declared.layout.ReadColumn.{ReadColumn}
use Rattle.orc_streams.specs.declared.layout.Span.{Span}
use Rattle.orc_streams.specs.Layout.{layout_in, plan_at, span_bytes, streams_in}
use Rattle.orc_batches.specs.Batch.{Batch}
use Rattle.orc_rows.specs.Rows.{HasValues, HaveValues, StripeHas, HaveRows}
use Rattle.row_bounds.specs.Bounds.{AreBytes, most_rows_a_byte, values_stream, bytes_or}
use Rattle.row_bounds.specs.Laws.{ColumnsAreBounded, StripesAreBounded, StripesTogether}

-- ---- a stream of a file

span_within : (file : List ℕ) (span : Option Span) → length (span_bytes file span) ≤ length file
span_within file None = omega arith
span_within file (Some span) =
    omega (arith, length-take (span.at + span.len - span.at) (drop span.at file), length-drop span.at file)

span_is_bytes : (file : List ℕ) (span : Option Span) → AreBytes file → AreBytes (span_bytes file span)
span_is_bytes file None are = All-nil (λ (b : ℕ). b < 256)
span_is_bytes file (Some span) are =
    All-take (λ (b : ℕ). b < 256) (span.at + span.len - span.at) (drop span.at file) (All-drop (λ (b : ℕ). b < 256) span.at file are)

or_within : (bytes others : List ℕ) (limit : ℕ) → length bytes ≤ limit → length others ≤ limit → length (bytes_or bytes others) ≤ limit
or_within [] others limit h k = k
or_within (byte ∷ bytes) others limit h k = h

values_within : (spelling : Spelling) (s : Streams) (limit : ℕ) → length s.body ≤ limit → length s.lengths ≤ limit → length (values_stream spelling s) ≤ limit
values_within Bits s limit h k = h
values_within (Integers version) s limit h k = h
values_within (Texts version) s limit h k = k
values_within (Dictionary version) s limit h k = h

-- ---- a stripe

module _ (columns_are : ColumnsAreBounded) where
  column_within : (file : List ℕ) (layout : ColumnLayout) (rows : ℕ) (values : RowValues) → AreBytes file → HasValues file layout rows values
      → rows ≤ most_rows_a_byte * length file
  column_within file layout rows values are has =
      let s = streams_in file layout in
      let spelling = has.column.spelling in
      let few = columns_are (plan_at 0 layout) s values spelling (span_is_bytes file layout.present are) (span_is_bytes file layout.body are)
      (span_is_bytes file layout.length are) has.column.spelled has.column in
      let stream = or_within s.present (values_stream spelling s) (length file) (span_within file layout.present)
      (values_within spelling s (length file) (span_within file layout.body) (span_within file layout.length)) in
      omega (arith, few, stream, has.count)

  first_within : (file : List ℕ) (footer : StripeFooter) (rows : ℕ) (column : ReadColumn) (columns : List ReadColumn) (values : Batch) → AreBytes file
      → HaveValues file footer rows (column ∷ columns) values → rows ≤ most_rows_a_byte * length file
  first_within file footer rows column columns [] are have = absurd have
  first_within file footer rows column columns (values ∷ others) are have = column_within file (layout_in footer column) rows values are have.0

  stripe_within : (file : List ℕ) (stripe : Stripe) (columns : List ReadColumn) (values : Batch) → AreBytes file → 0 < length columns
      → StripeHas file stripe columns values → stripe.rows ≤ most_rows_a_byte * length file
  stripe_within file stripe [] values are some has = absurd (omega (arith, some))
  stripe_within file stripe (column ∷ columns) values are some (StripeHas.by_footer footer is have) =
      first_within file footer stripe.rows column columns values are have

  pub stripes_are_bounded : StripesAreBounded
  stripes_are_bounded file stripe columns values are some len has = omega (arith, stripe_within file stripe columns values are some has, len)

  pub stripes_together : StripesTogether
  stripes_together file columns [] _ are some len HaveRows.none = omega arith
  stripes_together file columns (stripe ∷ stripes) _ are some len (HaveRows.next values more has rest) =
      let first = stripes_are_bounded file stripe columns values are some len has in
      let others = stripes_together file columns stripes more are some len rest in
      omega (arith, first, others)

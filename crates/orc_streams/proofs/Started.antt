-- Streams that were opened are those of their columns.
use Rattle.std.proofs.Common.{◌≡◌, ℕ, ◌+◌, ◌*◌, List, [], ◌∷◌, ◌++◌, length, Option, Some, None, Ok, Err, OnOk, IfOk, refl, sym, ◌∙◌, ap, arith}
use Rattle.std.specs.Prelude.{Result}
use Rattle.orc_columns.specs.Draws.{Tells}
use Rattle.orc_columns.specs.Optional.{rest_in}
use Rattle.orc_columns.specs.Reader.{HasLengths}
use Rattle.orc_streams.specs.declared.layout.ColumnLayout.{ColumnLayout}
use Rattle.orc_streams.specs.declared.layout.Span.{Span}
use Rattle.orc_streams.specs.declared.stream_reader.OpenFault.{OpenFault}
use Rattle.outside.specs.declared.file_ref.FileRef.{FileRef}
use Rattle.outside.specs.Files.{Files, HasBytes}
use Rattle.orc_streams.specs.Layout.{span_bytes, span_len, number_at, plan_at, streams_in}
use Rattle.orc_streams.specs.Openings.{StreamSpan, the_stream, spans_of, openings_at, spans_from, HaveRanges, IsNone, HaveSizes, EachTells, EachSized, OthersStay}
use Rattle.orc_streams.proofs.Opening.{IsNone-elsewhere}

some_is : (x y : List ℕ) → Some x ≡ Some y → x ≡ y
some_is x y e = cc

module _ {S : Type 0} (rest : S → ℕ → Option (List ℕ)) (r : S) where
  ranges-front : (bytes : List ℕ) (xs ys : List StreamSpan) → HaveRanges rest r bytes (xs ++ ys) → HaveRanges rest r bytes xs
  ranges-front bytes [] ys have = tt
  ranges-front bytes (x ∷ xs) ys have = (have.0, ranges-front bytes xs ys have.1)

  ranges-back : (bytes : List ℕ) (xs ys : List StreamSpan) → HaveRanges rest r bytes (xs ++ ys) → HaveRanges rest r bytes ys
  ranges-back bytes [] ys have = have
  ranges-back bytes (x ∷ xs) ys have = ranges-back bytes xs ys have.1

  sizes-front : (xs ys : List StreamSpan) → HaveSizes rest r (xs ++ ys) → HaveSizes rest r xs
  sizes-front [] ys have = tt
  sizes-front (x ∷ xs) ys have = (have.0, sizes-front xs ys have.1)

  sizes-back : (xs ys : List StreamSpan) → HaveSizes rest r (xs ++ ys) → HaveSizes rest r ys
  sizes-back [] ys have = have
  sizes-back (x ∷ xs) ys have = sizes-back xs ys have.1

  has_range : (bytes : List ℕ) (stream : ℕ) (span : Option Span) → HaveRanges rest r bytes (the_stream stream span)
      → rest_in rest r (number_at stream span) ≡ Some (span_bytes bytes span)
  has_range bytes stream None have = refl
  has_range bytes stream (Some span) have = have.0

  has_size : (stream : ℕ) (span : Option Span) (bytes : List ℕ) → HaveSizes rest r (the_stream stream span)
      → rest_in rest r (number_at stream span) ≡ Some bytes → span_len span ≡ length bytes
  has_size stream None bytes have told = ap length (some_is [] bytes told)
  has_size stream (Some span) bytes have told = sym (have.0 bytes told)

  -- a column's streams have its bytes
  pub tells : (bytes : List ℕ) (index : ℕ) (layout : ColumnLayout) → HaveRanges rest r bytes (spans_of (openings_at index layout))
      → Tells rest r (plan_at index layout) (streams_in bytes layout)
  tells bytes index layout have =
      let present = the_stream (4 * index) layout.present in
      let bodies = the_stream (4 * index + 1) layout.body in
      let lengths = the_stream (4 * index + 2) layout.length in
      let entries = the_stream (4 * index + 3) layout.dictionary in
      let behind = ranges-back bytes present (bodies ++ (lengths ++ (entries ++ []))) have in
      let last = ranges-back bytes bodies (lengths ++ (entries ++ [])) behind in
      let end = ranges-back bytes lengths (entries ++ []) last in
      record {
        present = has_range bytes (4 * index) layout.present (ranges-front bytes present (bodies ++ (lengths ++ (entries ++ []))) have);
        body = has_range bytes (4 * index + 1) layout.body (ranges-front bytes bodies (lengths ++ (entries ++ [])) behind);
        lengths = has_range bytes (4 * index + 2) layout.length (ranges-front bytes lengths (entries ++ []) last);
        dictionary = has_range bytes (4 * index + 3) layout.dictionary (ranges-front bytes entries [] end);
      }

  -- its plan has the lengths of its streams
  pub sized : (index : ℕ) (layout : ColumnLayout) → HaveSizes rest r (spans_of (openings_at index layout)) → HasLengths rest r (plan_at index layout)
  sized index layout have s told =
      let present = the_stream (4 * index) layout.present in
      let bodies = the_stream (4 * index + 1) layout.body in
      let lengths = the_stream (4 * index + 2) layout.length in
      let entries = the_stream (4 * index + 3) layout.dictionary in
      let behind = sizes-back present (bodies ++ (lengths ++ (entries ++ []))) have in
      let last = sizes-back bodies (lengths ++ (entries ++ [])) behind in
      let end = sizes-back lengths (entries ++ []) last in (
        has_size (4 * index + 1) layout.body s.body (sizes-front bodies (lengths ++ (entries ++ [])) behind) told.body,
        has_size (4 * index + 3) layout.dictionary s.dictionary (sizes-front entries [] end) told.dictionary,
      )

  pub each_tells : (bytes : List ℕ) (index : ℕ) (layouts : List ColumnLayout) → HaveRanges rest r bytes (spans_from index layouts) → EachTells rest r bytes index layouts
  each_tells bytes index [] have = tt
  each_tells bytes index (layout ∷ layouts) have = (
    tells bytes index layout (ranges-front bytes (spans_of (openings_at index layout)) (spans_from (index + 1) layouts) have),
    each_tells bytes (index + 1) layouts (ranges-back bytes (spans_of (openings_at index layout)) (spans_from (index + 1) layouts) have),
  )

  pub each_sized : (index : ℕ) (layouts : List ColumnLayout) → HaveSizes rest r (spans_from index layouts) → EachSized rest r index layouts
  each_sized index [] have = tt
  each_sized index (layout ∷ layouts) have = (
    sized index layout (sizes-front (spans_of (openings_at index layout)) (spans_from (index + 1) layouts) have),
    each_sized (index + 1) layouts (sizes-back (spans_of (openings_at index layout)) (spans_from (index + 1) layouts) have),
  )

  -- the same, where all were opened
  pub tells_if : {Y : Type 0} (told : Option Files) (file : FileRef) (answer : Result Y OpenFault) (index : ℕ) (layout : ColumnLayout)
      → ((bytes : List ℕ) → HasBytes told file bytes → IfOk answer (λ _. HaveRanges rest r bytes (spans_of (openings_at index layout))))
      → OnOk answer ((bytes : List ℕ) → HasBytes told file bytes → Tells rest r (plan_at index layout) (streams_in bytes layout))
  tells_if told file (Ok y) index layout have = λ bytes has. tells bytes index layout (have bytes has)
  tells_if told file (Err fault) index layout have = tt

  pub sized_if : {Y : Type 0} (answer : Result Y OpenFault) (index : ℕ) (layout : ColumnLayout)
      → IfOk answer (λ _. HaveSizes rest r (spans_of (openings_at index layout))) → OnOk answer (HasLengths rest r (plan_at index layout))
  sized_if (Ok y) index layout have = sized index layout have
  sized_if (Err fault) index layout have = tt

  pub each_tells_if : {Y : Type 0} (told : Option Files) (file : FileRef) (answer : Result Y OpenFault) (index : ℕ) (layouts : List ColumnLayout)
      → ((bytes : List ℕ) → HasBytes told file bytes → IfOk answer (λ _. HaveRanges rest r bytes (spans_from index layouts)))
      → OnOk answer ((bytes : List ℕ) → HasBytes told file bytes → EachTells rest r bytes index layouts)
  each_tells_if told file (Ok y) index layouts have = λ bytes has. each_tells bytes index layouts (have bytes has)
  each_tells_if told file (Err fault) index layouts have = tt

  pub each_sized_if : {Y : Type 0} (answer : Result Y OpenFault) (index : ℕ) (layouts : List ColumnLayout)
      → IfOk answer (λ _. HaveSizes rest r (spans_from index layouts)) → OnOk answer (EachSized rest r index layouts)
  each_sized_if (Ok y) index layouts have = each_sized index layouts have
  each_sized_if (Err fault) index layouts have = tt

-- the columns of other places are as they were
module _ {S : Type 0} (rest : S → ℕ → Option (List ℕ)) (before after : S) (index : ℕ) (layout : ColumnLayout)
    (keeps : (other : ℕ) → IsNone other (spans_of (openings_at index layout)) → rest after other ≡ rest before other) where
  stays : (number : ℕ) (span : Option Span) (bytes : List ℕ) → IsNone number (spans_of (openings_at index layout))
      → rest_in rest before (number_at number span) ≡ Some bytes → rest_in rest after (number_at number span) ≡ Some bytes
  stays number None bytes none told = told
  stays number (Some span) bytes none told = keeps number none ∙ told

  pub others_stay : OthersStay rest index before after
  others_stay i l s apart told = record {
    present = stays (4 * i) l.present s.present (IsNone-elsewhere (4 * i) i index layout (omega arith) (omega arith) apart) told.present;
    body = stays (4 * i + 1) l.body s.body (IsNone-elsewhere (4 * i + 1) i index layout (omega arith) (omega arith) apart) told.body;
    lengths = stays (4 * i + 2) l.length s.lengths (IsNone-elsewhere (4 * i + 2) i index layout (omega arith) (omega arith) apart) told.lengths;
    dictionary = stays (4 * i + 3) l.dictionary s.dictionary (IsNone-elsewhere (4 * i + 3) i index layout (omega arith) (omega arith) apart) told.dictionary;
  }

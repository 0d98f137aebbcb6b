-- Streams that are opened one after the other: which acts that makes, and what it leaves. Source: this project's own.
use Rattle.std.specs.Prelude.{◌≡◌, ℕ, ◌+◌, ◌*◌, ◌<◌, List, [], ◌∷◌, ◌++◌, length, Option, Some, None, Result, Ok, Err, IfOk, slice_range}
use Rattle.outside.specs.declared.file_ref.FileRef.{FileRef}
use Rattle.outside.specs.Cause.{Cause}
use Rattle.outside.specs.Files.{Files, HasBytes, range_of}
use Rattle.outside.specs.Followed.{failed_read}
use Rattle.orc_columns.specs.Column.{Streams}
use Rattle.orc_columns.specs.Draws.{Tells}
use Rattle.orc_columns.specs.Reader.{HasLengths}
use Rattle.orc_streams.specs.declared.layout.ColumnLayout.{ColumnLayout}
use Rattle.orc_streams.specs.declared.layout.Span.{Span}
use Rattle.orc_streams.specs.declared.openings.Opening.{Opening}
use Rattle.orc_streams.specs.declared.stream_reader.OpenFault.{OpenFault}
use Rattle.orc_streams.specs.declared.stream_reader.OpenFault.TheVariants.{Read, NoMemory}
use Rattle.orc_streams.specs.Acts.{Act, reads, opens, FailedToOpen}
use Rattle.orc_streams.specs.Layout.{SpanEndsBy, plan_at, streams_in}

-- a stream, and where it lies
pub record StreamSpan : Type 0 where
  pub stream : ℕ
  pub span : Span

-- the stream of that number, where it is there
abbrev pub the_stream : ℕ → Option Span → List StreamSpan
the_stream stream None = []
the_stream stream (Some span) = (record { stream = stream; span = span }) ∷ []

-- those of some openings that are there
abbrev pub spans_of : List Opening → List StreamSpan
spans_of [] = []
spans_of (o ∷ os) = the_stream o.stream o.span ++ spans_of os

-- the openings of the column of that index: PRESENT, DATA, LENGTH, DICTIONARY_DATA
abbrev pub openings_at : ℕ → ColumnLayout → List Opening
openings_at index layout =
    (record { stream = 4 * index; span = layout.present }) ∷ (record { stream = 4 * index + 1; span = layout.body })
    ∷ (record { stream = 4 * index + 2; span = layout.length }) ∷ (record { stream = 4 * index + 3; span = layout.dictionary }) ∷ []

-- the streams of columns, column by column, of which the first has that index
abbrev pub spans_from : ℕ → List ColumnLayout → List StreamSpan
spans_from index [] = []
spans_from index (layout ∷ layouts) = spans_of (openings_at index layout) ++ spans_from (index + 1) layouts

-- that number is of none of these streams
abbrev pub IsNone : ℕ → List StreamSpan → Type 0
IsNone stream [] = Unit {0}
IsNone stream (s ∷ ss) = (stream ≡ s.stream → ⊥) × IsNone stream ss

-- each of these has a greater number
abbrev pub AllAbove : ℕ → List Opening → Type 0
AllAbove number [] = Unit {0}
AllAbove number (o ∷ os) = (number < o.stream) × AllAbove number os

-- their numbers are below 64, and rise
abbrev pub Rise : List Opening → Type 0
Rise [] = Unit {0}
Rise (o ∷ os) = (o.stream < 64) × AllAbove o.stream os × Rise os

-- those that are there end at most there
abbrev pub AllEndBy : ℕ → List Opening → Type 0
AllEndBy limit [] = Unit {0}
AllEndBy limit (o ∷ os) = SpanEndsBy limit o.span × AllEndBy limit os

-- ---- acts

abbrev pub opened : FileRef → StreamSpan → Act
opened file s = opens s.stream (range_of file s.span.at s.span.len)

abbrev pub not_opened : FileRef → StreamSpan → Act
not_opened file s = reads (failed_read (range_of file s.span.at s.span.len))

abbrev pub all_opened : FileRef → List StreamSpan → List Act
all_opened file [] = []
all_opened file (s ∷ ss) = opened file s ∷ all_opened file ss

-- The streams up to one were opened, and the read of that one's range failed.
pub record StopsAt (file : FileRef) (spans : List StreamSpan) (acts : List Act) : Type 0 where
  pub front : List StreamSpan
  pub last : StreamSpan
  pub rest : List StreamSpan
  pub spans_are : spans ≡ front ++ last ∷ rest
  pub acts_are : acts ≡ all_opened file front ++ not_opened file last ∷ []

-- The streams up to one were opened.
pub record Fronts (file : FileRef) (spans : List StreamSpan) (acts : List Act) : Type 0 where
  pub front : List StreamSpan
  pub rest : List StreamSpan
  pub spans_are : spans ≡ front ++ rest
  pub acts_are : acts ≡ all_opened file front

-- all were opened; or those before a read that failed; or those before memory was refused
abbrev pub FitOpenings : {Y : Type 0} → FileRef → List StreamSpan → List Act → Result Y OpenFault → Type 0
FitOpenings file spans acts (Ok y) = acts ≡ all_opened file spans
FitOpenings file spans acts (Err (Read failed)) = StopsAt file spans acts
FitOpenings file spans acts (Err NoMemory) = Fronts file spans acts

-- ---- what is left of the streams

module _ {S : Type 0} (rest : S → ℕ → Option (List ℕ)) (reader : S) where
  -- each has the bytes of its range
  abbrev pub HaveRanges : List ℕ → List StreamSpan → Type 0
  HaveRanges bytes [] = Unit {0}
  HaveRanges bytes (s ∷ ss) = (rest reader s.stream ≡ Some (slice_range bytes s.span.at (s.span.at + s.span.len))) × HaveRanges bytes ss

  -- each has as many bytes as its range, where they are told
  abbrev pub HaveSizes : List StreamSpan → Type 0
  HaveSizes [] = Unit {0}
  HaveSizes (s ∷ ss) = ((bytes : List ℕ) → rest reader s.stream ≡ Some bytes → length bytes ≡ s.span.len) × HaveSizes ss

  -- the streams of each column have its bytes
  abbrev pub EachTells : List ℕ → ℕ → List ColumnLayout → Type 0
  EachTells bytes index [] = Unit {0}
  EachTells bytes index (layout ∷ layouts) =
      Tells rest reader (plan_at index layout) (streams_in bytes layout) × EachTells bytes (index + 1) layouts

  -- each column's plan has the lengths of its streams
  abbrev pub EachSized : ℕ → List ColumnLayout → Type 0
  EachSized index [] = Unit {0}
  EachSized index (layout ∷ layouts) = HasLengths rest reader (plan_at index layout) × EachSized (index + 1) layouts

-- the streams of the columns of all other indices, where they were told, are as they were
abbrev pub OthersStay : {S : Type 0} → (S → ℕ → Option (List ℕ)) → ℕ → S → S → Type 0
OthersStay rest index before after =
    (i : ℕ) (layout : ColumnLayout) (s : Streams) → (i ≡ index → ⊥) → Tells rest before (plan_at i layout) s
    → Tells rest after (plan_at i layout) s

-- These streams were opened in order, told or not, with just these acts, and no other stream changed; a failed read has its
-- cause. After Ok each has as many bytes as its range, and where files are told it has these bytes.
pub record OpensAll {S Y : Type 0} (did : S → List Act → S → Type 0) (rest : S → ℕ → Option (List ℕ)) (count : S → ℕ) (told : Option Files)
    (file : FileRef) (spans : List StreamSpan) (before after : S) (answer : Result Y OpenFault) : Type 0 where
  pub acts : List Act
  pub by : did before acts after
  pub fits : FitOpenings file spans acts answer
  pub others : (other : ℕ) → IsNone other spans → rest after other ≡ rest before other
  pub have : (bytes : List ℕ) → HasBytes told file bytes → IfOk answer (λ _. HaveRanges rest after bytes spans)
  pub sizes : IfOk answer (λ _. HaveSizes rest after spans)
  pub cause : Cause (count before) (count after) (FailedToOpen answer)

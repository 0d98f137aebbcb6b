-- Where the streams of a column lie in a stripe, and under which numbers a feed gives them.
--
-- Source: Apache ORC specification v1, "Stripe Footer" and "Column Encodings": the streams that a spelling uses. That an absent
-- stream is empty, that of two streams of one kind and column the first counts, and the numbers in a feed are this project's own.
use Rattle.std.specs.Prelude.{ℕ, ◌+◌, ◌*◌, ◌≤◌, ◌==◌, nat_lt, if◌then◌else◌, List, [], ◌∷◌, Option, Some, None, slice_get, slice_range}
use Rattle.orc_columns.specs.declared.plan.ColumnPlan.{ColumnPlan}
use Rattle.orc_columns.specs.declared.spelling.Spelling.{Spelling}
use Rattle.orc_columns.specs.declared.spelling.Spelling.TheVariants.{Bits, Integers, Texts, Dictionary}
use Rattle.orc_columns.specs.Column.{Streams}
use Rattle.orc_columns.specs.Spelling.{spelling_of}
use Rattle.orc_tail.specs.declared.encoding.Encoding.{Encoding}
use Rattle.orc_tail.specs.declared.stream.StreamRange.{StreamRange}
use Rattle.orc_tail.specs.declared.stripe_footer.StripeFooter.{StripeFooter}
use Rattle.orc_tail.specs.StripeFooter.{first_stream}
use Rattle.orc_streams.specs.declared.layout.ColumnLayout.{ColumnLayout}
use Rattle.orc_streams.specs.declared.layout.ReadColumn.{ReadColumn}
use Rattle.orc_streams.specs.declared.layout.Span.{Span}

-- How many kinds of streams a spelling uses, of these in their order: 0 PRESENT, 1 DATA, 2 LENGTH, 3 DICTIONARY_DATA.
abbrev pub kinds_used : Option Spelling → ℕ
kinds_used None = 0
kinds_used (Some Bits) = 2
kinds_used (Some (Integers version)) = 2
kinds_used (Some (Texts version)) = 3
kinds_used (Some (Dictionary version)) = 4

-- where a stream lies, if it has bytes
abbrev pub span_of : Option StreamRange → Option Span
span_of None = None
span_of (Some stream) = if stream.len == 0 then None else Some (record { at = stream.at; len = stream.len })

-- where the first stream of that kind and column lies, if it has bytes and the kind is one of so many
abbrev pub stored : StripeFooter → ℕ → ℕ → ℕ → Option Span
stored footer column kinds kind = if nat_lt kind kinds then span_of (first_stream kind column footer.streams) else None

-- the number of an encoding, where there is one
abbrev pub encoding_kind : Option Encoding → Option ℕ
encoding_kind None = None
encoding_kind (Some encoding) = Some encoding.kind

-- the entries of a dictionary
abbrev pub dictionary_size_of : Option Encoding → ℕ
dictionary_size_of None = 0
dictionary_size_of (Some encoding) = encoding.dictionary_size

-- the layout by the encoding and the number of kinds that are used
abbrev pub laid_out : StripeFooter → ReadColumn → Option Encoding → ℕ → ColumnLayout
laid_out footer column encoding kinds = record {
  kind = column.kind;
  encoding = encoding;
  present = stored footer column.number kinds 0;
  body = stored footer column.number kinds 1;
  length = stored footer column.number kinds 2;
  dictionary = stored footer column.number kinds 3;
}

abbrev pub laid_out_by : StripeFooter → ReadColumn → Option Encoding → ColumnLayout
laid_out_by footer column encoding = laid_out footer column encoding (kinds_used (spelling_of column.kind (encoding_kind encoding)))

-- the layout of a column by a stripe's footer: encoding i is that of type i
abbrev pub layout_in : StripeFooter → ReadColumn → ColumnLayout
layout_in footer column = laid_out_by footer column (slice_get footer.encodings column.number)

-- the bytes of a stream of a file; one that isn't there has none
abbrev pub span_bytes : List ℕ → Option Span → List ℕ
span_bytes file None = []
span_bytes file (Some span) = slice_range file span.at (span.at + span.len)

-- the bytes of a column's streams
abbrev pub streams_in : List ℕ → ColumnLayout → Streams
streams_in file layout = record {
  present = span_bytes file layout.present;
  body = span_bytes file layout.body;
  lengths = span_bytes file layout.length;
  dictionary = span_bytes file layout.dictionary;
}

-- how many bytes they are
abbrev pub span_len : Option Span → ℕ
span_len None = 0
span_len (Some span) = span.len

-- that number, where the stream is there
abbrev pub number_at : ℕ → Option Span → Option ℕ
number_at number None = None
number_at number (Some span) = Some number

-- How the column of that index among the read ones is read, counted from 0: it has four numbers of streams of its own.
abbrev pub plan_at : ℕ → ColumnLayout → ColumnPlan
plan_at index layout = record {
  kind = layout.kind;
  encoding = encoding_kind layout.encoding;
  dictionary_size = dictionary_size_of layout.encoding;
  present = number_at (4 * index) layout.present;
  body = number_at (4 * index + 1) layout.body;
  length = number_at (4 * index + 2) layout.length;
  dictionary = number_at (4 * index + 3) layout.dictionary;
  body_len = span_len layout.body;
  dictionary_len = span_len layout.dictionary;
}

-- the plans of the columns that are read, of which the first has that index
abbrev pub plans_from : ℕ → List ColumnLayout → List ColumnPlan
plans_from index [] = []
plans_from index (layout ∷ layouts) = plan_at index layout ∷ plans_from (index + 1) layouts

-- a stream that is there ends at most there
abbrev pub SpanEndsBy : ℕ → Option Span → Type 0
SpanEndsBy limit None = Unit {0}
SpanEndsBy limit (Some span) = span.at + span.len ≤ limit

-- each stream of the column does
pub record EndsBy (limit : ℕ) (layout : ColumnLayout) : Type 0 where
  pub present : SpanEndsBy limit layout.present
  pub body : SpanEndsBy limit layout.body
  pub length : SpanEndsBy limit layout.length
  pub dictionary : SpanEndsBy limit layout.dictionary

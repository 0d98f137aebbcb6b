-- The streams of a stripe, one behind the other, and which of them are a column's.
--
-- Source: Apache ORC specification v1, "Stripes": the data of a stripe are its streams in the order of its footer. That an empty
-- stream isn't written is this project's own, and means the same.
use Rattle.std.specs.Prelude.{◌≡◌, ◌≢◌, ℕ, ◌==◌, ◌&&◌, List, [], ◌∷◌, ◌++◌, length, All, Some, slice_get, if◌then◌else◌}
use Rattle.orc_tail.specs.Messages.{StripeFooterMessage}
use Rattle.orc_tail.specs.declared.encoding.Encoding.{Encoding}
use Rattle.orc_tail.specs.declared.stripe_footer.StripeFooter.{StripeFooter}
use Rattle.orc_values.specs.Column.{RowValues}
use Rattle.orc_columns.specs.Column.{Streams}
use Rattle.orc_columns.specs.Spelling.{spelling_of}
use Rattle.orc_streams.specs.declared.layout.ReadColumn.{ReadColumn}
use Rattle.column_writer.specs.Buffered.{Buffered, HasRows}
use Rattle.column_writer.specs.Encoded.{streams_of}
use Rattle.column_writer.specs.declared.encoded.Encoded.{Encoded}
use Rattle.stripe_writer.specs.declared.stream_bytes.StreamBytes.{StreamBytes}

-- the bytes of streams, joined in order
abbrev pub body_of : List StreamBytes → List ℕ
body_of [] = []
body_of (p ∷ parts) = p.bytes ++ body_of parts

-- a stream as the message of a stripe's footer tells it: what the list of its streams holds
abbrev pub item_of : {X : Type 0} → List X → Type 0
item_of {X} items = X

abbrev nothing : StripeFooterMessage
nothing = record { streams = []; encodings = [] }

abbrev pub Stream : Type 0
Stream = item_of nothing.streams

-- the streams as a stripe's footer lists them
abbrev pub listed : List StreamBytes → List Stream
listed [] = []
listed (p ∷ parts) = record { kind = p.kind; column = p.column; len = length p.bytes } ∷ listed parts

-- the bytes of the first stream of that kind and column; one that isn't there has none
abbrev pub first_bytes : ℕ → ℕ → List StreamBytes → List ℕ
first_bytes kind column [] = []
first_bytes kind column (p ∷ parts) = if (p.kind == kind && p.column == column) then p.bytes else first_bytes kind column parts

-- these, and a stream more, unless it is empty
abbrev pub and_stream : List StreamBytes → ℕ → ℕ → List ℕ → List StreamBytes
and_stream parts kind column bytes =
    if length bytes == 0 then parts else parts ++ record { kind = kind; column = column; bytes = bytes } ∷ []

-- these, and those of a column: 0 PRESENT, 1 DATA, 2 LENGTH, 3 DICTIONARY_DATA
abbrev pub and_column : List StreamBytes → ℕ → Encoded → List StreamBytes
and_column parts column e =
    and_stream (and_stream (and_stream (and_stream parts 0 column e.present) 1 column e.body) 2 column e.lengths) 3 column e.dictionary

-- none of the streams is of that column
abbrev pub HasNone : ℕ → List StreamBytes → Type 0
HasNone column parts = All (λ p. p.column ≢ column) parts

-- the column's streams have these bytes
pub record HasStreams (column : ℕ) (parts : List StreamBytes) (s : Streams) : Type 0 where
  pub present : first_bytes 0 column parts ≡ s.present
  pub body : first_bytes 1 column parts ≡ s.body
  pub lengths : first_bytes 2 column parts ≡ s.lengths
  pub dictionary : first_bytes 3 column parts ≡ s.dictionary

-- ---- the columns of a stripe

-- a column that is read, its encoding, the rows that it was written from, and its streams
pub record WrittenColumn : Type 0 where
  pub column : ReadColumn
  pub encoding : Encoding
  pub buffered : Buffered
  pub encoded : Encoded

-- It stands among the streams, and the footer has its encoding.
pub record IsWritten (parts : List StreamBytes) (footer : StripeFooter) (rows : ℕ) (c : WrittenColumn) : Type 0 where
  pub listed : slice_get footer.encodings c.column.number ≡ Some c.encoding
  pub spelled : spelling_of c.column.kind (Some c.encoding.kind) ≡ Some c.buffered.spelling
  pub size : c.encoding.dictionary_size ≡ c.encoded.dictionary_size
  pub has_rows : HasRows c.buffered c.encoded
  pub has_streams : HasStreams c.column.number parts (streams_of c.encoded)
  pub as_many : length c.buffered.rows ≡ rows

abbrev pub AreWritten : List StreamBytes → StripeFooter → ℕ → List WrittenColumn → Type 0
AreWritten parts footer rows [] = Unit {0}
AreWritten parts footer rows (c ∷ columns) = IsWritten parts footer rows c × AreWritten parts footer rows columns

abbrev pub columns_in : List WrittenColumn → List ReadColumn
columns_in [] = []
columns_in (c ∷ columns) = c.column ∷ columns_in columns

abbrev pub rows_in : List WrittenColumn → List RowValues
rows_in [] = []
rows_in (c ∷ columns) = c.buffered.rows ∷ rows_in columns

-- a buffer's streams were added for the column of that number, whose dictionary has so many entries
abbrev pub AddsBuffer : List StreamBytes → List StreamBytes → ℕ → Buffered → ℕ → Type 0
AddsBuffer before after column buffered size =
    (e : Encoded) × HasRows buffered e × (e.dictionary_size ≡ size) × (after ≡ and_column before column e)

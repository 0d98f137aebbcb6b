-- The columns of a table among the streams of a stripe and its encodings. Source: this project's own.
use Rattle.std.specs.Prelude.{◌≡◌, ℕ, zero, suc, ◌+◌, ◌<◌, ◌≤◌, ◌&&◌, nat_lt, if◌then◌else◌, List, [], ◌∷◌, ◌++◌, length, All, Some, slice_get}
use Rattle.orc_tail.specs.declared.encoding.Encoding.{Encoding}
use Rattle.column_writer.specs.declared.encoded.Encoded.{Encoded}
use Rattle.column_writer.specs.Buffered.{Buffered, HasRows}
use Rattle.column_writer.specs.Encoded.{streams_of}
use Rattle.footer_writer.specs.declared.stream_part.StreamPart.{StreamPart}
use Rattle.tail_writer.specs.declared.file_column.FileColumn.{FileColumn}
use Rattle.tail_writer.specs.Columns.{next_number}
use Rattle.stripe_writer.specs.declared.stream_bytes.StreamBytes.{StreamBytes}
use Rattle.stripe_writer.specs.Parts.{and_column, HasStreams, AddsBuffer}
use Rattle.table_columns.specs.declared.table_column.Content.{Content}
use Rattle.table_columns.specs.declared.table_column.Content.TheVariants.{Written, Opaque}
use Rattle.table_columns.specs.declared.table_column.OpaqueStream.{OpaqueStream}
use Rattle.table_columns.specs.declared.table_column.TableColumn.{TableColumn}
use Rattle.table_columns.specs.Shapes.{encoding_number}
use Rattle.table_columns.specs.Files.{as_streams}

-- ---- what is added

-- a stream more on the list
abbrev pub AddsPart : List StreamPart → List StreamPart → StreamBytes → Type 0
AddsPart before after part = after ≡ before ++ record { kind = part.kind; column = part.column; len = length part.bytes } ∷ []

-- DIRECT, so many times
abbrev pub directs : ℕ → List Encoding
directs zero = []
directs (suc count) = record { kind = 0; dictionary_size = 0 } ∷ directs count

-- The streams and the encodings so far, of which there is one for each type.
pub record SoFar : Type 0 where
  pub parts : List StreamBytes
  pub encodings : List Encoding

-- a column more that is written: the streams of its rows, and its encoding
abbrev pub AddsWritten : SoFar → SoFar → Buffered → Type 0
AddsWritten before after buffered =
    (size : ℕ) × AddsBuffer before.parts after.parts (length before.encodings) buffered size
    × (after.encodings ≡ before.encodings ++ record { kind = encoding_number buffered.spelling; dictionary_size = size } ∷ [])

-- a column more, with so many children, that isn't read: its streams, and DIRECT for it and each of its children
abbrev pub AddsOpaque : SoFar → SoFar → ℕ → List OpaqueStream → Type 0
AddsOpaque before after children streams = (after.parts ≡ before.parts ++ as_streams (length before.encodings) streams)
    × (after.encodings ≡ before.encodings ++ directs (children + 1))

-- a column more
abbrev pub AddsColumn : SoFar → SoFar → FileColumn → Content → Type 0
AddsColumn before after column (Written buffer) = AddsWritten before after buffer
AddsColumn before after column (Opaque streams) = AddsOpaque before after (length column.children.items) streams.items

-- ---- what stands there

-- the streams of the types from one number on and below another, in their order
abbrev pub parts_of : ℕ → ℕ → List StreamBytes → List StreamBytes
parts_of from to [] = []
parts_of from to (p ∷ parts) =
    if (nat_lt p.column to && nat_lt from (p.column + 1)) then p ∷ parts_of from to parts else parts_of from to parts

-- each is of a type from one number on and below another
abbrev pub Within : ℕ → ℕ → List StreamBytes → Type 0
Within from to parts = All (λ p. (from ≤ p.column) × (p.column < to)) parts

-- the column of that number has its streams, no others, and its encoding
pub record Stands (parts : List StreamBytes) (encodings : List Encoding) (number next : ℕ) (buffered : Buffered) : Type 0 where
  pub encoding : Encoding
  pub encoded : Encoded
  pub listed : slice_get encodings number ≡ Some encoding
  pub spelled : encoding.kind ≡ encoding_number buffered.spelling
  pub size : encoding.dictionary_size ≡ encoded.dictionary_size
  pub has_rows : HasRows buffered encoded
  pub has_streams : HasStreams number parts (streams_of encoded)
  pub found : parts_of number next parts ≡ and_column [] number encoded

-- so has one that isn't read
pub record StandsOpaque (parts : List StreamBytes) (encodings : List Encoding) (number next : ℕ) (streams : List OpaqueStream)
    : Type 0 where
  pub found : parts_of number next parts ≡ as_streams number streams
  pub direct : (n : ℕ) → number ≤ n → n < next
      → slice_get encodings n ≡ Some (record { kind = 0; dictionary_size = 0 })

abbrev pub StandsBy : SoFar → ℕ → FileColumn → Content → Type 0
StandsBy so_far number column (Written buffer) = Stands so_far.parts so_far.encodings number (next_number number column) buffer
StandsBy so_far number column (Opaque streams) =
    StandsOpaque so_far.parts so_far.encodings number (next_number number column) streams.items

-- so has each, of which the first has that number
abbrev pub StandAll : SoFar → ℕ → List TableColumn → Type 0
StandAll so_far number [] = Unit {0}
StandAll so_far number (c ∷ columns) = StandsBy so_far number c.column c.content × StandAll so_far (next_number number c.column) columns

-- the number behind those of columns, of which the first has that number
abbrev pub next_in : ℕ → List TableColumn → ℕ
next_in number [] = number
next_in number (c ∷ columns) = next_in (next_number number c.column) columns

-- So has each of a table, in order, from 1 on. The root, 0, has an encoding and no stream, and there is nothing of a further type.
pub record Stand (columns : List TableColumn) (so_far : SoFar) : Type 0 where
  pub counted : length so_far.encodings ≡ next_in 1 columns
  pub root : slice_get so_far.encodings 0 ≡ Some (record { kind = 0; dictionary_size = 0 })
  pub within : Within 1 (length so_far.encodings) so_far.parts
  pub each : StandAll so_far 1 columns

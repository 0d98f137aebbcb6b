-- What follows of the streams of a stripe. Source: this project's own.
use Rattle.std.specs.Prelude.{◌≡◌, ◌≢◌, ℕ, List, ◌++◌, length, Some, slice_get}
use Rattle.orc_tail.specs.declared.encoding.Encoding.{Encoding}
use Rattle.orc_tail.specs.declared.stripe_footer.StripeFooter.{StripeFooter}
use Rattle.orc_tail.specs.StripeFooter.{placed}
use Rattle.orc_columns.specs.Spelling.{spelling_of}
use Rattle.orc_streams.specs.declared.layout.ReadColumn.{ReadColumn}
use Rattle.orc_streams.specs.Layout.{layout_in}
use Rattle.orc_rows.specs.Rows.{HasValues, HaveValues}
use Rattle.column_writer.specs.declared.encoded.Encoded.{Encoded}
use Rattle.column_writer.specs.Buffered.{Buffered, HasRows}
use Rattle.column_writer.specs.Encoded.{streams_of}
use Rattle.stripe_writer.specs.declared.stream_bytes.StreamBytes.{StreamBytes}
use Rattle.stripe_writer.specs.Parts.{WrittenColumn, AreWritten, columns_in, rows_in, body_of, listed, first_bytes, and_stream, and_column, HasNone, HasStreams}

-- a column that had no stream has just those that were added
abbrev pub ColumnIsAdded : Type 0
ColumnIsAdded = (parts : List StreamBytes) (column : ℕ) (e : Encoded) → HasNone column parts
    → HasStreams column (and_column parts column e) (streams_of e)

-- a stream of another column leaves the streams of this one, of whatever kind, as they were, and none where there was none
abbrev pub OthersStay : Type 0
OthersStay = (parts : List StreamBytes) (kind column other : ℕ) (bytes : List ℕ) → other ≢ column
    → ((wanted : ℕ) → first_bytes wanted other (and_stream parts kind column bytes) ≡ first_bytes wanted other parts)
    × (HasNone other parts → HasNone other (and_stream parts kind column bytes))

-- In a file where the streams lie one behind the other from the stripe's place on, as its footer lists them, a column whose
-- streams these are has the rows that they were written from.
abbrev pub ColumnIsThere : Type 0
ColumnIsThere = (front back : List ℕ) (parts : List StreamBytes) (footer : StripeFooter) (column : ReadColumn) (encoding : Encoding)
    (buffered : Buffered) (e : Encoded) → footer.streams ≡ placed (length front) (listed parts)
    → slice_get footer.encodings column.number ≡ Some encoding → spelling_of column.kind (Some encoding.kind) ≡ Some buffered.spelling
    → encoding.dictionary_size ≡ e.dictionary_size → HasRows buffered e → HasStreams column.number parts (streams_of e)
    → HasValues (front ++ (body_of parts ++ back)) (layout_in footer column) (length buffered.rows) buffered.rows

-- the same of all columns that are read: a stripe of so many rows has the rows of each
abbrev pub ColumnsAreThere : Type 0
ColumnsAreThere = (front back : List ℕ) (parts : List StreamBytes) (footer : StripeFooter) (rows : ℕ) (columns : List WrittenColumn)
    → footer.streams ≡ placed (length front) (listed parts) → AreWritten parts footer rows columns
    → HaveValues (front ++ (body_of parts ++ back)) footer rows (columns_in columns) (rows_in columns)

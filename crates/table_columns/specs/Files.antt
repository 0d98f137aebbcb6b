-- A file of a table, as its readers find it. Source: Apache ORC specification v1, "File Structure", "Stripe Footer" and "Column
-- Encodings".
use Rattle.std.specs.Prelude.{◌≡◌, ℕ, ◌+◌, ◌<◌, ◌≤◌, ◌&&◌, nat_lt, if◌then◌else◌, List, [], ◌∷◌, ◌++◌, length, map, All, Ok, Some, slice_get, slice_range}
use Rattle.orc_tail.specs.declared.encoding.Encoding.{Encoding}
use Rattle.orc_tail.specs.declared.stream.StreamRange.{StreamRange}
use Rattle.orc_tail.specs.declared.stripe.Stripe.{Stripe}
use Rattle.orc_tail.specs.declared.stripe_footer.StripeFooter.{StripeFooter}
use Rattle.orc_tail.specs.StripeFooter.{stripe_footer}
use Rattle.orc_tail.specs.Tail.{greatest_len, most_stripes, tail}
use Rattle.orc_values.specs.Column.{RowValues}
use Rattle.orc_columns.specs.declared.spelling.Spelling.{Spelling}
use Rattle.orc_streams.specs.declared.layout.ReadColumn.{ReadColumn}
use Rattle.orc_rows.specs.Rows.{Rows, HaveRows}
use Rattle.tail_writer.specs.declared.file_column.FileColumn.{FileColumn}
use Rattle.tail_writer.specs.Columns.{next_number, top_columns_from}
use Rattle.tail_writer.specs.Tails.{Tells}
use Rattle.column_writer.specs.declared.encoded.Encoded.{Encoded}
use Rattle.stripe_writer.specs.declared.stream_bytes.StreamBytes.{StreamBytes}
use Rattle.stripe_writer.specs.Parts.{and_column}
use Rattle.table_columns.specs.declared.table_column.OpaqueStream.{OpaqueStream}
use Rattle.table_columns.specs.Shapes.{Shape, written, opaque, file_column, next_of, encoding_number, AreRead}

-- ---- what nobody reads

-- the streams of the types from one number on and below another, in their order
abbrev pub of_types : ℕ → ℕ → List StreamRange → List StreamRange
of_types from to [] = []
of_types from to (s ∷ streams) =
    if (nat_lt s.column to && nat_lt from (s.column + 1)) then s ∷ of_types from to streams else of_types from to streams

-- what stands in the file where streams lie
abbrev pub found_in : List ℕ → List StreamRange → List StreamBytes
found_in file [] = []
found_in file (s ∷ streams) =
    record { kind = s.kind; column = s.column; bytes = slice_range file s.at (s.at + s.len) } ∷ found_in file streams

-- the streams of a column that has that number, and of its children, which follow it
abbrev pub as_streams : ℕ → List OpaqueStream → List StreamBytes
as_streams number [] = []
as_streams number (s ∷ streams) = record { kind = s.kind; column = number + s.child; bytes = s.bytes } ∷ as_streams number streams

-- The column and its children have just these streams in a stripe, in this order, and the encoding DIRECT.
pub record HasOpaque (file : List ℕ) (footer : StripeFooter) (number : ℕ) (column : FileColumn) (streams : List OpaqueStream) : Type 0 where
  pub found : found_in file (of_types number (next_number number column) footer.streams) ≡ as_streams number streams
  pub direct : (n : ℕ) → number ≤ n → n < next_number number column
      → slice_get footer.encodings n ≡ Some (record { kind = 0; dictionary_size = 0 })

-- ---- what is written

-- The column has the encoding that spells its values so, and its streams are PRESENT, DATA, LENGTH and DICTIONARY_DATA, in this order and
-- without those that are empty, and no others.
pub record HasWritten (file : List ℕ) (footer : StripeFooter) (number : ℕ) (column : FileColumn) (spelling : Spelling) : Type 0 where
  pub encoding : Encoding
  pub listed : slice_get footer.encodings number ≡ Some encoding
  pub kind_is : encoding.kind ≡ encoding_number spelling
  pub encoded : Encoded
  pub found : found_in file (of_types number (next_number number column) footer.streams) ≡ and_column [] number encoded

-- ---- each column, of which the first of all has that number

abbrev pub HaveColumns : List ℕ → StripeFooter → ℕ → List Shape → Type 0
HaveColumns file footer number [] = Unit {0}
HaveColumns file footer number (written column spelling ∷ shapes) =
    HasWritten file footer number column spelling × HaveColumns file footer (next_number number column) shapes
HaveColumns file footer number (opaque column streams ∷ shapes) =
    HasOpaque file footer number column streams × HaveColumns file footer (next_number number column) shapes

-- each stream is of a type from one number on and below another
abbrev pub AreOfTypes : ℕ → ℕ → List StreamRange → Type 0
AreOfTypes from to streams = All (λ s. (from ≤ s.column) × (s.column < to)) streams

-- The stripe's footer is read. It has an encoding for each type, the root's DIRECT, and of each column its encodings and its streams; and
-- there are no other streams.
pub record HasFooter (file : List ℕ) (stripe : Stripe) (shapes : List Shape) : Type 0 where
  pub footer : StripeFooter
  pub is : stripe_footer file stripe ≡ Ok footer
  pub counted : length footer.encodings ≡ next_of 1 shapes
  pub root : slice_get footer.encodings 0 ≡ Some (record { kind = 0; dictionary_size = 0 })
  pub have : HaveColumns file footer 1 shapes
  pub no_others : AreOfTypes 1 (next_of 1 shapes) footer.streams

-- ---- the whole

-- Each stripe but the last has that many rows, and the last has at least one and not more.
abbrev pub AreFilled : ℕ → List Stripe → Type 0
AreFilled rows [] = Unit {0}
AreFilled rows (s ∷ []) = (0 < s.rows) × (s.rows ≤ rows)
AreFilled rows (s ∷ t ∷ stripes) = (s.rows ≡ rows) × AreFilled rows (t ∷ stripes)

-- A file of a table with these columns and these rows, in stripes of so many: its tail has the columns, if it isn't too large and
-- hasn't too many stripes; its stripes have the rows, whichever columns are read, and each column its encodings and streams; and its
-- footer has the types of all columns and their children, and ends with the number of rows.
pub record IsFile (shapes : List Shape) (stripe_rows : ℕ) (rows : Rows) (file : List ℕ) : Type 0 where
  pub stripes : List Stripe
  pub tail_is : length file ≤ greatest_len → length stripes ≤ most_stripes
      → tail file ≡ Ok (record { stripes = stripes; columns = top_columns_from 1 (map file_column shapes) })
  pub has : (read : List ReadColumn) (values : List RowValues) → AreRead shapes rows.columns read values
      → HaveRows file read stripes (record { count = rows.count; columns = values })
  pub filled : AreFilled stripe_rows stripes
  pub footers : All (λ stripe. HasFooter file stripe shapes) stripes
  pub front : List ℕ
  pub end : List ℕ
  pub ends : file ≡ front ++ end
  pub told : Tells end stripes (map file_column shapes) rows.count
  pub rest : List ℕ
  pub begins : file ≡ 0x4F ∷ 0x52 ∷ 0x43 ∷ rest

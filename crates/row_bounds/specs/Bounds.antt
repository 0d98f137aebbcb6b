-- How many rows bytes can spell.
--
-- Source: Apache ORC specification v1, "Run Length Encoding" and "Column Encodings": two bytes of PRESENT are a run of at most 130
-- bytes, and so at most 1,040 flags; every run of integers has a byte at least, and at most 512 values. The bounds of a file are
-- this project's own.
use Rattle.std.specs.Prelude.{◌≡◌, ℕ, ◌*◌, ◌<◌, List, [], ◌∷◌, length, All}
use Rattle.orc_values.specs.Column.{RowValues}
use Rattle.orc_columns.specs.declared.spelling.Spelling.{Spelling}
use Rattle.orc_columns.specs.declared.spelling.Spelling.TheVariants.{Bits, Integers, Texts, Dictionary}
use Rattle.orc_columns.specs.Column.{Streams}
use Rattle.orc_tail.specs.Tail.{greatest_len}
use Rattle.orc_batches.specs.Batch.{Batch}

-- each number is one of a byte
abbrev pub AreBytes : List ℕ → Type 0
AreBytes bytes = All (λ b. b < 256) bytes

-- the most rows of a column for each byte of a stream that all of them have a part in
abbrev pub most_rows_a_byte : ℕ
most_rows_a_byte = 520

-- the most rows of a stripe, by the greatest length of a file
abbrev pub most_rows_a_stripe : ℕ
most_rows_a_stripe = most_rows_a_byte * greatest_len

-- ---- the stream that each row needs something of

-- the stream in which each value that isn't null has a part of a run: its length of a text, and else its bit, number or place
abbrev pub values_stream : Spelling → Streams → List ℕ
values_stream Bits s = s.body
values_stream (Integers version) s = s.body
values_stream (Texts version) s = s.lengths
values_stream (Dictionary version) s = s.body

-- bytes, or others where there are none
abbrev pub bytes_or : List ℕ → List ℕ → List ℕ
bytes_or [] others = others
bytes_or (byte ∷ bytes) others = byte ∷ bytes

-- the stream in which each row has a part of a run: PRESENT where it has a byte; without one no row is null, and so the values' stream
abbrev pub rows_stream : Spelling → Streams → List ℕ
rows_stream spelling s = bytes_or s.present (values_stream spelling s)

-- each column has so many values
abbrev pub AreRows : ℕ → Batch → Type 0
AreRows rows batch = All (λ (values : RowValues). length values ≡ rows) batch

-- A reader of a column between two batches. Source: this project's own.
use Rattle.std.specs.Prelude.{◌≡◌, ℕ, ◌+◌, ◌<◌, Bool, true, false, List, length, map, drop, sum, Option, Some, All, ℤ, pos}
use Rattle.outside.specs.Runs.{Between, Spells}
use Rattle.orc_rle.specs.BitRun.{BitRun}
use Rattle.orc_values.specs.declared.value.Value.{Value}
use Rattle.orc_values.specs.declared.value.Value.TheVariants as value
use Rattle.orc_values.specs.Texts.{slices}
use Rattle.orc_values.specs.Woven.{present_count}
use Rattle.orc_columns.specs.declared.fault.ColumnFault.{ColumnFault}
use Rattle.orc_columns.specs.declared.plan.ColumnPlan.{ColumnPlan}
use Rattle.orc_columns.specs.declared.value_reader.ValueReader.{ValueReader}
use Rattle.orc_columns.specs.declared.value_reader.ValueReader.TheVariants as reader
use Rattle.orc_columns.specs.Column.{Streams, AreLengths, entry_text, places_of, rows_of}
use Rattle.row_flags.specs.Decoders.{PresentOf}
use Rattle.row_flags.specs.Present.{PresentBetween}
use Rattle.orc_columns.specs.declared.spelling.Spelling.{Spelling}
use Rattle.orc_columns.specs.declared.spelling.Spelling.TheVariants.{Bits, Integers, Texts, Dictionary}
use Rattle.orc_columns.specs.Spelling.{IntRun, spelling_of}

-- nothing was taken of LENGTH and of DICTIONARY_DATA
abbrev pub LeavesTexts : Streams → Streams → Type 0
LeavesTexts start rest = (rest.lengths ≡ start.lengths) × (rest.dictionary ≡ start.dictionary)

-- Of a column's streams these values that aren't null were given, and these bytes are left: of a stream of runs those behind
-- the fewest runs that spell them; of a text's stream those behind the sum of the lengths; and all of a stream that the
-- spelling doesn't use. A dictionary was read whole, and nothing else was.
abbrev pub ValuesBetween : ℕ → Streams → List Value → ValueReader → Streams → Type 0
ValuesBetween size start given (reader.Bits b) rest =
    (bits : List Bool) × Between BitRun start.body bits b.held rest.body × (given ≡ map (λ b. value.Bool b) bits) × LeavesTexts start rest
ValuesBetween size start given (reader.Integers i) rest =
    (numbers : List ℤ) × Between (IntRun i.version true) start.body numbers i.held rest.body × (given ≡ map (λ n. value.Int n) numbers)
    × LeavesTexts start rest
ValuesBetween size start given (reader.Texts t) rest =
    (lengths : List ℕ) × Between (IntRun t.lengths.version false) start.lengths (map pos lengths) t.lengths.held rest.lengths
    × (t.left + sum lengths ≡ length start.body) × (rest.body ≡ drop (sum lengths) start.body)
    × (given ≡ map (λ t. value.Text t) (slices 0 lengths start.body)) × (rest.dictionary ≡ start.dictionary)
ValuesBetween size start given (reader.Dictionary d) rest =
    (lengths : List ℕ) × (numbers : List ℤ) × (length lengths ≡ size)
    × AreLengths d.places.version start.lengths (length start.dictionary) lengths
    × (d.entries ≡ slices 0 lengths start.dictionary) × Between (IntRun d.places.version false) start.body numbers d.places.held rest.body
    × All (λ place. place < size) (places_of numbers) × (given ≡ map (entry_text d.entries) (places_of numbers))
    × Spells (IntRun d.places.version false) start.lengths (map pos lengths) rest.lengths
    × (rest.dictionary ≡ drop (sum lengths) start.dictionary)

-- how a reader's values are spelled
abbrev pub spelling_in : ValueReader → Spelling
spelling_in (reader.Bits b) = Bits
spelling_in (reader.Integers i) = Integers i.version
spelling_in (reader.Texts t) = Texts t.lengths.version
spelling_in (reader.Dictionary d) = Dictionary d.places.version

-- what contracts see of a reader: its plan, its flags and values, and the fault that it has answered
pub record ReaderOf : Type 0 where
  pub plan : ColumnPlan
  pub present : PresentOf
  pub values : ValueReader
  pub fault : Option ColumnFault

-- Of a column's streams these rows were given, and so many bytes are left.
pub record Midway (r : ReaderOf) (start : Streams) (given : List Value) (rest : Streams) : Type 0 where
  pub flags : List Bool
  pub values : List Value
  pub spelled : spelling_of r.plan.kind r.plan.encoding ≡ Some (spelling_in r.values)
  pub present : PresentBetween r.present.state start.present flags r.present.held rest.present
  pub enough : length values ≡ present_count flags
  pub standing : ValuesBetween r.plan.dictionary_size start values r.values rest
  pub rows_are : given ≡ rows_of flags values

-- A column of a stripe: its values by the bytes of its streams, or the first of seven conditions that refuses it.
--
-- Source: Apache ORC specification v1, "Column Encodings". That a PRESENT stream without bytes means that nothing is
-- null, that bytes behind the last run that is needed are ignored, and the conditions and their order are this project's
-- own: 1 the encoding, 2 PRESENT, 3 LENGTH, 4 a negative length, 5 lengths past the data, 6 DATA, 7 the number of an entry.
-- Each is judged over all rows before the next.
use Rattle.std.specs.Prelude.{◌≡◌, ℕ, ◌<◌, ◌≤◌, Bool, true, false, List, [], length, map, sum, Option}
use Rattle.std.specs.Prelude.{Some, None, ℤ, pos, All, Contains, slice_index_or}
use Rattle.outside.specs.declared.run_fault.RunFault.{RunFault}
use Rattle.outside.specs.Runs.{Spells, Breaks}
use Rattle.orc_rle.specs.BitRun.{BitRun, bit_run}
use Rattle.orc_values.specs.declared.value.Value.{Value}
use Rattle.orc_values.specs.declared.value.Value.TheVariants as value
use Rattle.orc_values.specs.Column.{value_by}
use Rattle.orc_values.specs.Texts.{slices}
use Rattle.orc_values.specs.Woven.{present_count, woven}
pub use Rattle.row_flags.specs.Present.{ArePresent, PresentBreaks}
pub use Rattle.row_texts.specs.Lookup.{IsNegative, places_of}
use Rattle.orc_columns.specs.declared.fault.ColumnFault.{ColumnFault}
use Rattle.orc_columns.specs.declared.fault.ColumnFault.TheVariants.{BadEncoding, Run, NegativeLength, LengthsPastData}
use Rattle.orc_columns.specs.declared.fault.ColumnFault.TheVariants.{IndexOutOfDictionary}
use Rattle.orc_columns.specs.declared.fault.StreamName.TheVariants as name
use Rattle.orc_columns.specs.declared.plan.ColumnPlan.{ColumnPlan}
use Rattle.orc_columns.specs.declared.spelling.Spelling.{Spelling}
use Rattle.orc_columns.specs.declared.spelling.Spelling.TheVariants.{Bits, Integers, Texts, Dictionary}
use Rattle.orc_columns.specs.declared.spelling.Version.{Version}
use Rattle.orc_columns.specs.Spelling.{spelling_of, IntRun, int_run}

-- the bytes of a column's streams; a stream that isn't there has none
pub record Streams : Type 0 where
  pub present : List ℕ
  pub body : List ℕ
  pub lengths : List ℕ
  pub dictionary : List ℕ

-- ---- lengths of texts

-- the stream spells these numbers first
abbrev pub AreNumbers : Version → Bool → List ℕ → List ℤ → Type 0
AreNumbers version signed stream numbers = (rest : List ℕ) × Spells (IntRun version signed) stream numbers rest

-- The stream spells these lengths first, each below 2 ^ 63, and together they are no more than the texts' bytes.
pub record AreLengths (version : Version) (stream : List ℕ) (limit : ℕ) (lengths : List ℕ) : Type 0 where
  pub spelled : AreNumbers version false stream (map pos lengths)
  pub within : sum lengths ≤ limit

-- The first fault of so many lengths of texts with so many bytes: of LENGTH's runs; a length with its 64th bit set;
-- or that they are more bytes than there are.
pub data LengthsFail (version : Version) (stream : List ℕ) (limit count : ℕ) : ColumnFault → Type 0 where
  broken : {fault : RunFault} → Breaks (IntRun version false) (int_run version false) stream count fault
      → LengthsFail version stream limit count (Run name.Length fault)
  negative : (numbers : List ℤ) (number : ℤ) → length numbers ≡ count → AreNumbers version false stream numbers
      → Contains numbers number → IsNegative number → LengthsFail version stream limit count NegativeLength
  past : (lengths : List ℕ) → length lengths ≡ count → AreNumbers version false stream (map pos lengths) → limit < sum lengths
      → LengthsFail version stream limit count LengthsPastData

-- ---- values that aren't null

-- the text of an entry of a dictionary; a number past the last names none
abbrev pub entry_text : List (List ℕ) → ℕ → Value
entry_text entries place = value.Text (slice_index_or entries place [])

-- The values that aren't null, in order, by the spelling: a bit of DATA each; a signed number of DATA each; a slice of
-- DATA each, at the sum of the lengths before it; or an entry of the dictionary each, by its number in DATA, where
-- the entries are slices of DICTIONARY_DATA.
abbrev pub AreValues : Spelling → ℕ → Streams → List Value → Type 0
AreValues Bits size s values =
    (bits : List Bool) × (rest : List ℕ) × Spells BitRun s.body bits rest × (values ≡ map (λ b. value.Bool b) bits)
AreValues (Integers version) size s values =
    (numbers : List ℤ) × AreNumbers version true s.body numbers × (values ≡ map (λ n. value.Int n) numbers)
AreValues (Texts version) size s values =
    (lengths : List ℕ) × AreLengths version s.lengths (length s.body) lengths × (values ≡ map (λ t. value.Text t) (slices 0 lengths s.body))
AreValues (Dictionary version) size s values =
    (lengths : List ℕ) × (numbers : List ℤ) × (length lengths ≡ size) × AreLengths version s.lengths (length s.dictionary) lengths
    × AreNumbers version false s.body numbers × All (λ place. place < size) (places_of numbers)
    × (values ≡ map (entry_text (slices 0 lengths s.dictionary)) (places_of numbers))

-- The first fault of so many values that aren't null.
pub data ValuesFail (size : ℕ) (s : Streams) (count : ℕ) : Spelling → ColumnFault → Type 0 where
  bits : {fault : RunFault} → Breaks BitRun bit_run s.body count fault → ValuesFail size s count Bits (Run name.Body fault)
  integers : {version : Version} {fault : RunFault} → Breaks (IntRun version true) (int_run version true) s.body count fault
      → ValuesFail size s count (Integers version) (Run name.Body fault)
  texts : {version : Version} {fault : ColumnFault} → LengthsFail version s.lengths (length s.body) count fault
      → ValuesFail size s count (Texts version) fault
  entries : {version : Version} {fault : ColumnFault} → LengthsFail version s.lengths (length s.dictionary) size fault
      → ValuesFail size s count (Dictionary version) fault
  places : {version : Version} {fault : RunFault} (lengths : List ℕ) → length lengths ≡ size
      → AreLengths version s.lengths (length s.dictionary) lengths
      → Breaks (IntRun version false) (int_run version false) s.body count fault
      → ValuesFail size s count (Dictionary version) (Run name.Body fault)
  index : {version : Version} (lengths : List ℕ) (numbers : List ℤ) (place : ℕ) → length lengths ≡ size
      → AreLengths version s.lengths (length s.dictionary) lengths
      → length numbers ≡ count → AreNumbers version false s.body numbers → Contains (places_of numbers) place → size ≤ place
      → ValuesFail size s count (Dictionary version) IndexOutOfDictionary

-- ---- a column

-- a value that stands in a row, or null
abbrev pub row_value : Option Value → Value
row_value row = value_by (λ v. v) row

-- each row's value: null where its flag isn't set, and elsewhere the next of these
abbrev pub rows_of : List Bool → List Value → List Value
rows_of flags values = map row_value (woven flags values)

-- These are the column's values in the first rows, as many as there are of them.
pub record IsColumn (plan : ColumnPlan) (s : Streams) (rows : List Value) : Type 0 where
  pub spelling : Spelling
  pub flags : List Bool
  pub values : List Value
  pub spelled : spelling_of plan.kind plan.encoding ≡ Some spelling
  pub present : ArePresent s.present flags
  pub enough : length values ≡ present_count flags
  pub standing : AreValues spelling plan.dictionary_size s values
  pub rows_are : rows ≡ rows_of flags values

-- The column has no values in so many rows: this is the first condition that refuses it.
pub data Fails (plan : ColumnPlan) (s : Streams) (rows : ℕ) : ColumnFault → Type 0 where
  encoding : spelling_of plan.kind plan.encoding ≡ None → Fails plan s rows BadEncoding
  nulls : {fault : RunFault} (spelling : Spelling) → spelling_of plan.kind plan.encoding ≡ Some spelling
      → PresentBreaks s.present rows fault → Fails plan s rows (Run name.Present fault)
  values : {fault : ColumnFault} (spelling : Spelling) (flags : List Bool) → spelling_of plan.kind plan.encoding ≡ Some spelling
      → length flags ≡ rows → ArePresent s.present flags
      → ValuesFail plan.dictionary_size s (present_count flags) spelling fault → Fails plan s rows fault

-- A batch of a column: what filling it makes of the values that were given before. Source: this project's own.
use Rattle.std.specs.Prelude.{◌≡◌, ℕ, ◌+◌, ◌<◌, ◌≤◌, Bool, true, false, List, [], ◌++◌, length, map, drop, sum, pos}
use Rattle.std.specs.Prelude.{unsigned_abs, All, Contains, None, IsTrue, ℤ}
use Rattle.std.specs.Int.{IsNonNegative}
use Rattle.outside.specs.Runs.{Between, Spells}
use Rattle.outside.specs.declared.run_fault.RunFault.TheVariants as run
use Rattle.orc_rle.specs.BitRun.{BitRun, bit_run}
use Rattle.orc_values.specs.declared.column_values.ColumnValues.{ColumnValues}
use Rattle.orc_values.specs.declared.column_values.ColumnValues.TheVariants as list
use Rattle.orc_values.specs.declared.value.Value.{Value}
use Rattle.orc_values.specs.declared.value.Value.TheVariants as value
use Rattle.orc_values.specs.Column.{values_in}
use Rattle.orc_values.specs.Texts.{slices}
use Rattle.orc_columns.specs.declared.fault.ColumnFault.{ColumnFault}
use Rattle.orc_columns.specs.declared.fault.ColumnFault.TheVariants.{Run, NegativeLength, LengthsPastData}
use Rattle.orc_columns.specs.declared.fault.StreamName.TheVariants as name
use Rattle.orc_columns.specs.declared.plan.ColumnPlan.{ColumnPlan}
use Rattle.orc_columns.specs.declared.spelling.Spelling.{Spelling}
use Rattle.orc_columns.specs.declared.spelling.Spelling.TheVariants.{Bits, Integers, Texts, Dictionary}
use Rattle.orc_columns.specs.declared.spelling.Version.{Version}
use Rattle.orc_columns.specs.declared.value_reader.ValueReader.{ValueReader}
use Rattle.orc_columns.specs.declared.value_reader.ValueReader.TheVariants as reader
use Rattle.orc_columns.specs.Column.{Streams, IsNegative, AreLengths, LengthsFail, ValuesFail}
use Rattle.row_flags.specs.Decoders.{BitsOf, PresentOf}
use Rattle.orc_columns.specs.Decoders.{IntegersOf}
use Rattle.orc_columns.specs.Draws.{OnlyPresent, OnlyBody, OnlyLengths, GoesOn, BreaksOn}
use Rattle.orc_columns.specs.Midway.{ValuesBetween, spelling_in}
use Rattle.orc_columns.specs.Present.{PresentGoesOn, PresentBreaksOn}
use Rattle.orc_columns.specs.Spelling.{IntRun, int_run, is_integer_kind}

-- null, or a value of the kind of this number
abbrev pub IsOfKind : ℕ → Value → Type 0
IsOfKind kind value.Null = Unit {0}
IsOfKind kind (value.Bool b) = kind ≡ 0
IsOfKind kind (value.Int n) = IsTrue (is_integer_kind kind)
IsOfKind kind (value.Text text) = kind ≡ 7

-- a run's fault isn't that of the feed
abbrev pub HoldsNoRead : ColumnFault → Type 0
HoldsNoRead (Run name (run.Read failed)) = ⊥
HoldsNoRead fault = Unit {0}

-- ---- decoders

-- the flags of PRESENT go on with these
abbrev pub FlagsGoOn : PresentOf → PresentOf → Streams → Streams → List Bool → Type 0
FlagsGoOn old new before after flags = OnlyPresent before after × PresentGoesOn old new before.present after.present flags

-- the fault is that of a run of PRESENT, which breaks before so many more
abbrev pub FlagsBreak : PresentOf → ℕ → Streams → ColumnFault → Type 0
FlagsBreak old asked before fault = PresentBreaksOn old asked before.present fault

-- integers of DATA go on with these
abbrev pub NumbersGoOn : IntegersOf → IntegersOf → Streams → Streams → List ℤ → Type 0
NumbersGoOn old new before after numbers = OnlyBody before after
    × GoesOn (IntRun old.version old.signed) old.held new.held before.body after.body numbers

-- the fault is that of a run of them, which breaks before so many more
abbrev pub NumbersBreak : IntegersOf → ℕ → Streams → ColumnFault → Type 0
NumbersBreak old asked before fault = BreaksOn (IntRun old.version old.signed) (int_run old.version old.signed)
    name.Body old.held asked before.body fault

-- the same of LENGTH
abbrev pub LengthsGoOn : IntegersOf → IntegersOf → Streams → Streams → List ℤ → Type 0
LengthsGoOn old new before after numbers = OnlyLengths before after
    × GoesOn (IntRun old.version old.signed) old.held new.held before.lengths after.lengths numbers

abbrev pub LengthsBreak : IntegersOf → ℕ → Streams → ColumnFault → Type 0
LengthsBreak old asked before fault = BreaksOn (IntRun old.version old.signed) (int_run old.version old.signed)
    name.Length old.held asked before.lengths fault

-- the same of bits of DATA
abbrev pub BitsGoOn : BitsOf → BitsOf → Streams → Streams → List Bool → Type 0
BitsGoOn old new before after bits = OnlyBody before after × GoesOn BitRun old.held new.held before.body after.body bits

abbrev pub BitsBreak : BitsOf → ℕ → Streams → ColumnFault → Type 0
BitsBreak old asked before fault = BreaksOn BitRun bit_run name.Body old.held asked before.body fault

-- ---- lengths of texts, and their bytes

-- These are the numbers of texts' lengths: none is negative, and together they are so many bytes, for which there is room.
pub record TotalOf (numbers : List ℤ) (room total : ℕ) : Type 0 where
  pub positive : All IsNonNegative numbers
  pub total_is : total ≡ sum (map unsigned_abs numbers)
  pub within : total ≤ room

-- these numbers are no lengths: one is negative, or there is no room for so many bytes
abbrev pub AreRefused : List ℤ → ℕ → ColumnFault → Type 0
AreRefused numbers room NegativeLength = (number : ℤ) × Contains numbers number × IsNegative number
AreRefused numbers room LengthsPastData = All IsNonNegative numbers × (room < sum (map unsigned_abs numbers))
AreRefused numbers room fault = ⊥

-- with the lengths that were given before, which left so much room, the fault is the first of so many lengths more
abbrev pub LengthsRefuse : IntegersOf → ℕ → ℕ → Streams → ColumnFault → Type 0
LengthsRefuse old asked room before fault =
    (start : List ℕ) (given : List ℕ) → Between (IntRun old.version false) start (map pos given) old.held before.lengths
    → LengthsFail old.version start (room + sum given) (length given + asked) fault

-- ---- values

-- its decoders read the plan's streams, and none has answered a fault
abbrev pub ReadsPlan : ColumnPlan → ValueReader → Type 0
ReadsPlan plan (reader.Bits b) = (b.stream ≡ plan.body) × (b.fault ≡ None)
ReadsPlan plan (reader.Integers i) = (i.stream ≡ plan.body) × (i.signed ≡ true) × (i.fault ≡ None)
ReadsPlan plan (reader.Texts t) = (t.lengths.stream ≡ plan.length) × (t.lengths.signed ≡ false) × (t.lengths.fault ≡ None)
    × (t.data ≡ plan.body)
ReadsPlan plan (reader.Dictionary d) = (d.places.stream ≡ plan.body) × (d.places.signed ≡ false) × (d.places.fault ≡ None)

-- the typed list of a spelling's values
abbrev pub IsTyped : Spelling → ColumnValues → Type 0
IsTyped Bits (list.Bools entries) = Unit {0}
IsTyped (Integers version) (list.Ints entries) = Unit {0}
IsTyped (Texts version) (list.Texts entries) = Unit {0}
IsTyped (Dictionary version) (list.Chosen entries) = Unit {0}
IsTyped spelling entries = ⊥

-- A reader's values go on with those of a typed list, and it takes nothing of PRESENT.
pub record ValuesGoOn (size : ℕ) (old new : ValueReader) (before after : Streams) (typed : ColumnValues) : Type 0 where
  pub present : after.present ≡ before.present
  pub goes : (start : Streams) (given : List Value) → ValuesBetween size start given old before
      → ValuesBetween size start (given ++ values_in typed) new after

-- the fault is the first of so many values more
abbrev pub ValuesBreak : ℕ → ℕ → ValueReader → Streams → ColumnFault → Type 0
ValuesBreak size count old before fault = (start : Streams) (given : List Value) → ValuesBetween size start given old before
    → ValuesFail size start (length given + count) (spelling_in old) fault

-- nothing was given of these values yet, and PRESENT is as it was
abbrev pub ValuesBegin : ℕ → Streams → Streams → ValueReader → Type 0
ValuesBegin size before after values = (after.present ≡ before.present) × ValuesBetween size before [] values after

-- the fault is the first before any value
abbrev pub ValuesFailAtStart : ℕ → Spelling → Streams → ColumnFault → Type 0
ValuesFailAtStart size spelling before fault = ValuesFail size before 0 spelling fault

-- The entries of a dictionary were read whole: of LENGTH the fewest runs that spell so many lengths were taken, and of
-- DICTIONARY_DATA their sum.
pub record EntriesRead (version : Version) (size : ℕ) (before after : Streams) (entries : List (List ℕ)) : Type 0 where
  pub lengths : List ℕ
  pub present : after.present ≡ before.present
  pub body : after.body ≡ before.body
  pub all : length lengths ≡ size
  pub are : AreLengths version before.lengths (length before.dictionary) lengths
  pub entries_are : entries ≡ slices 0 lengths before.dictionary
  pub used : Spells (IntRun version false) before.lengths (map pos lengths) after.lengths
  pub left : after.dictionary ≡ drop (sum lengths) before.dictionary

-- the fault is the first of so many entries
abbrev pub EntriesFail : Version → ℕ → Streams → ColumnFault → Type 0
EntriesFail version size before fault = LengthsFail version before.lengths (length before.dictionary) size fault

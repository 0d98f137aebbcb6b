-- What judging a column finds, over all its rows. Source: this project's own.
use Rattle.std.specs.Prelude.{◌≡◌, ℕ, Bool, List, length, Option, None, Some, Result, Ok, Err, IfOk, IfErr, IfSome}
use Rattle.outside.specs.declared.run_fault.RunFault.{RunFault}
use Rattle.outside.specs.Cause.{Cause}
use Rattle.outside.specs.Feed.{Taken}
use Rattle.orc_values.specs.declared.value.Value.{Value}
use Rattle.orc_values.specs.Woven.{present_count}
use Rattle.orc_columns.specs.declared.fault.ColumnFault.{ColumnFault}
use Rattle.orc_columns.specs.declared.fault.ColumnFault.TheVariants.{Run, Read, NoMemory}
use Rattle.orc_columns.specs.declared.fault.StreamName.TheVariants as name
use Rattle.orc_columns.specs.declared.plan.ColumnPlan.{ColumnPlan}
use Rattle.orc_columns.specs.declared.spelling.Spelling.{Spelling}
use Rattle.orc_columns.specs.declared.spelling.Version.{Version}
use Rattle.orc_columns.specs.Batches.{HoldsNoRead}
use Rattle.orc_columns.specs.Column.{Streams, ArePresent, PresentBreaks, AreLengths, AreValues, IsColumn, Fails}
use Rattle.orc_columns.specs.Draws.{AllOfPlan, Tells, IsReadError, FailedToRead, OnlyPresent, OnlyLengths}
use Rattle.orc_columns.specs.Turns.{InTurn, judged_streams}

-- the column has values in so many rows, or this is the first condition that refuses it
abbrev pub Finds : ColumnPlan → ℕ → Streams → Option ColumnFault → Type 0
Finds plan rows s None = (values : List Value) × (length values ≡ rows) × IsColumn plan s values
Finds plan rows s (Some fault) = Fails plan s rows fault

-- a fault that judging answers: a run's isn't the feed's, and memory is never wanted
abbrev pub IsJudged : ColumnFault → Type 0
IsJudged NoMemory = ⊥
IsJudged fault = HoldsNoRead fault

-- what was found by a fault
abbrev pub found_by : ColumnFault → Result (Option ColumnFault) ColumnFault
found_by (Read failed) = Err (Read failed)
found_by fault = Ok (Some fault)

-- A column was judged, told or not: takes are of its plan's streams alone, in turn, each over all rows before the next; an
-- error is that the feed failed, by its cause, and never want of memory; no run's fault that is found is the feed's; and where
-- the streams were told, the answer is what is found of them.
pub record Judges {F : Type 0} (rest : F → ℕ → Option (List ℕ)) (fed : F → List Taken → F → Type 0) (count : F → ℕ)
    (plan : ColumnPlan) (rows : ℕ) (first last : F) (answer : Result (Option ColumnFault) ColumnFault) : Type 0 where
  pub takes : List Taken
  pub led : fed first takes last
  pub own : AllOfPlan plan takes
  pub turns : InTurn (judged_streams plan) takes
  pub cause : Cause (count first) (count last) (FailedToRead answer)
  pub failed : IfErr answer IsReadError
  pub no_read : IfOk answer (λ found. IfSome found HoldsNoRead)
  pub told : (s : Streams) → Tells rest first plan s → IfOk answer (Finds plan rows s)

-- the lengths of the texts' streams are those that the plan says
abbrev pub Sized : ColumnPlan → Streams → Type 0
Sized plan s = (plan.body_len ≡ length s.body) × (plan.dictionary_len ≡ length s.dictionary)

-- ---- the steps of judging

-- so many rows have a value, by PRESENT alone
abbrev pub StandingRows : ℕ → Streams → Streams → ℕ → Type 0
StandingRows rows before after standing = OnlyPresent before after
    × ((flags : List Bool) × (length flags ≡ rows) × ArePresent before.present flags × (standing ≡ present_count flags))

abbrev pub NoStandingRows : ℕ → Streams → ColumnFault → Type 0
NoStandingRows rows before fault = (broken : RunFault) × (fault ≡ Run name.Present broken) × PresentBreaks before.present rows broken

-- so many lengths of texts, which have no more bytes together than there are
abbrev pub JudgedLengths : Version → ℕ → ℕ → Streams → Streams → Type 0
JudgedLengths version limit count before after = OnlyLengths before after
    × ((lengths : List ℕ) × (length lengths ≡ count) × AreLengths version before.lengths limit lengths)

-- so many values that aren't null
abbrev pub JudgedValues : Spelling → ℕ → ℕ → Streams → Type 0
JudgedValues spelling size count before = (values : List Value) × (length values ≡ count) × AreValues spelling size before values

abbrev pub JudgedColumn : ColumnPlan → ℕ → Streams → Type 0
JudgedColumn plan rows before = (values : List Value) × (length values ≡ rows) × IsColumn plan before values

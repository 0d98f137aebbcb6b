-- What a call on a column's streams does: from which streams it took, and what it makes of their bytes.
use Rattle.std.specs.Prelude.{◌≡◌, ℕ, ◌+◌, ◌⊎◌, List, ◌++◌, length, Option, Some, Result, Ok, Err}
use Rattle.std.specs.List.{AllByRecursion}
use Rattle.outside.specs.declared.run_fault.RunFault.{RunFault}
use Rattle.outside.specs.declared.run_fault.RunFault.TheVariants as run
use Rattle.outside.specs.Cause.{Cause}
use Rattle.outside.specs.Feed.{Taken}
use Rattle.outside.specs.Reading.{Reader}
use Rattle.outside.specs.Runs.{Between, Breaks}
use Rattle.orc_columns.specs.declared.fault.ColumnFault.{ColumnFault}
use Rattle.orc_columns.specs.declared.fault.ColumnFault.TheVariants.{Run, Read, NoMemory}
use Rattle.orc_columns.specs.declared.fault.StreamName.{StreamName}
use Rattle.orc_columns.specs.declared.plan.ColumnPlan.{ColumnPlan}
use Rattle.orc_columns.specs.Column.{Streams}
use Rattle.row_flags.specs.Optional.{rest_in}
use Rattle.orc_columns.specs.Turns.{InTurn}

-- the number of one of the plan's streams
abbrev pub IsOfPlan : ColumnPlan → ℕ → Type 0
IsOfPlan plan stream = (plan.present ≡ Some stream) ⊎ (plan.body ≡ Some stream) ⊎ (plan.length ≡ Some stream)
    ⊎ (plan.dictionary ≡ Some stream)

-- all takes are of the plan's streams
abbrev pub AllOfPlan : ColumnPlan → List Taken → Type 0
AllOfPlan plan takes = AllByRecursion (λ t. IsOfPlan plan t.stream) takes

-- two streams, where they are there, have different numbers
abbrev pub Differ : Option ℕ → Option ℕ → Type 0
Differ a b = (stream : ℕ) → a ≡ Some stream → b ≡ Some stream → ⊥

-- the plan's streams have different numbers
pub record StreamsDiffer (plan : ColumnPlan) : Type 0 where
  pub present_body : Differ plan.present plan.body
  pub present_length : Differ plan.present plan.length
  pub present_dictionary : Differ plan.present plan.dictionary
  pub body_length : Differ plan.body plan.length
  pub body_dictionary : Differ plan.body plan.dictionary
  pub length_dictionary : Differ plan.length plan.dictionary

-- a feed tells the plan's streams, and these bytes are left of them
pub record Tells {F : Type 0} (rest : F → ℕ → Option (List ℕ)) (feed : F) (plan : ColumnPlan) (s : Streams) : Type 0 where
  pub present : rest_in rest feed plan.present ≡ Some s.present
  pub body : rest_in rest feed plan.body ≡ Some s.body
  pub lengths : rest_in rest feed plan.length ≡ Some s.lengths
  pub dictionary : rest_in rest feed plan.dictionary ≡ Some s.dictionary

-- the feed failed
abbrev pub IsReadError : ColumnFault → Type 0
IsReadError (Read failed) = Unit {0}
IsReadError fault = ⊥

abbrev pub FailedToRead : {Y : Type 0} → Result Y ColumnFault → Type 0
FailedToRead (Ok y) = ⊥
FailedToRead (Err fault) = IsReadError fault

-- this is so of a fault, unless the feed failed or memory was refused
abbrev pub Decided : (ColumnFault → Type 0) → ColumnFault → Type 0
Decided Faults (Read failed) = Unit {0}
Decided Faults NoMemory = Unit {0}
Decided Faults fault = Faults fault

module _ {F Y : Type 0} (rest : F → ℕ → Option (List ℕ)) (fed : F → List Taken → F → Type 0) (count : F → ℕ) (plan : ColumnPlan) where
  -- what is said of an answer, of the bytes that were left before
  abbrev pub Said : (Streams → Streams → Y → Type 0) → (Streams → ColumnFault → Type 0) → Streams → F → Result Y ColumnFault → Type 0
  Said Goes Faults before last (Ok y) = (after : Streams) × Tells rest last plan after × Goes before after y
  Said Goes Faults before last (Err fault) = Decided (Faults before) fault

  -- Whatever it answered, a call took from these of the plan's streams in turn, and from no other; a failed read has its
  -- cause; and where the streams were told, an Ok says this of the bytes before and after, and a fault that of those before.
  pub record Draws (streams : List (Option ℕ)) (first last : F) (Goes : Streams → Streams → Y → Type 0)
      (Faults : Streams → ColumnFault → Type 0) (answer : Result Y ColumnFault) : Type 0 where
    pub takes : List Taken
    pub led : fed first takes last
    pub own : AllOfPlan plan takes
    pub turns : InTurn streams takes
    pub cause : Cause (count first) (count last) (FailedToRead answer)
    pub told : (before : Streams) → Tells rest first plan before → Said Goes Faults before last answer

-- ---- a step on one stream

-- the fault of a column by that of a run in one of its streams
abbrev pub of_run : StreamName → RunFault → ColumnFault
of_run name (run.Read failed) = Read failed
of_run name fault = Run name fault

abbrev pub in_stream : {Y : Type 0} → StreamName → Result Y RunFault → Result Y ColumnFault
in_stream name (Ok y) = Ok y
in_stream name (Err fault) = Err (of_run name fault)

-- no stream but this one lost a byte
abbrev pub OnlyPresent : Streams → Streams → Type 0
OnlyPresent before after = (after.body ≡ before.body) × (after.lengths ≡ before.lengths) × (after.dictionary ≡ before.dictionary)

abbrev pub OnlyBody : Streams → Streams → Type 0
OnlyBody before after = (after.present ≡ before.present) × (after.lengths ≡ before.lengths) × (after.dictionary ≡ before.dictionary)

abbrev pub OnlyLengths : Streams → Streams → Type 0
OnlyLengths before after = (after.present ≡ before.present) × (after.body ≡ before.body) × (after.dictionary ≡ before.dictionary)

abbrev pub OnlyDictionary : Streams → Streams → Type 0
OnlyDictionary before after = (after.present ≡ before.present) × (after.body ≡ before.body) × (after.lengths ≡ before.lengths)

-- a decoder of this stream goes on with these values
abbrev pub GoesOn : {V : Type 0} → (List ℕ → List V → Type 0) → List V → List V → List ℕ → List ℕ → List V → Type 0
GoesOn {V} Form old new before after values = (start : List ℕ) (given : List V) → Between Form start given old before
    → Between Form start (given ++ values) new after

-- the fault is that of a run of this stream, which breaks before so many values more
abbrev pub BreaksOn : {V : Type 0} → (List ℕ → List V → Type 0) → Reader (List V) → StreamName → List V → ℕ → List ℕ → ColumnFault → Type 0
BreaksOn {V} Form read name old asked before fault =
    (broken : RunFault) × (fault ≡ Run name broken)
    × ((start : List ℕ) (given : List V) → Between Form start given old before → Breaks Form read start (length given + asked) broken)

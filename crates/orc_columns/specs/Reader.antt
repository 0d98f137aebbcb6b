-- A reader of a column's batches: what is true of its decoders, and what a batch does. Source: this project's own.
use Rattle.std.specs.Prelude.{◌≡◌, ℕ, ◌+◌, List, [], ◌++◌, length, Option, Some, None, IfSome}
use Rattle.orc_values.specs.declared.value.Value.{Value}
use Rattle.orc_columns.specs.declared.fault.ColumnFault.{ColumnFault}
use Rattle.orc_columns.specs.declared.plan.ColumnPlan.{ColumnPlan}
use Rattle.orc_columns.specs.declared.value_reader.ValueReader.{ValueReader}
use Rattle.orc_columns.specs.Batches.{HoldsNoRead, ReadsPlan}
use Rattle.orc_columns.specs.Column.{Streams, Fails}
use Rattle.row_flags.specs.Decoders.{PresentOf}
use Rattle.orc_columns.specs.Draws.{StreamsDiffer, Tells}
use Rattle.orc_columns.specs.FirstFault.{Sized}
use Rattle.orc_columns.specs.Midway.{ReaderOf, Midway, spelling_in}
use Rattle.orc_columns.specs.Spelling.{spelling_of}

-- the decoders read the plan's streams, and none has answered a fault
pub record IsReady (plan : ColumnPlan) (present : PresentOf) (values : ValueReader) : Type 0 where
  pub on : present.stream ≡ plan.present
  pub fresh : present.fault ≡ None
  pub reads : ReadsPlan plan values

-- The plan's streams differ, the values are spelled as it says, and until a fault was answered the decoders are ready.
pub record IsSound (plan : ColumnPlan) (present : PresentOf) (values : ValueReader) (fault : Option ColumnFault) : Type 0 where
  pub differ : StreamsDiffer plan
  pub spelled : spelling_of plan.kind plan.encoding ≡ Some (spelling_in values)
  pub ready : fault ≡ None → IsReady plan present values
  pub no_read : IfSome fault HoldsNoRead

-- a reader that has answered no fault
abbrev pub whole_reader : ColumnPlan → PresentOf → ValueReader → ReaderOf
whole_reader plan present values = record { plan = plan; present = present; values = values; fault = None }

-- the rows that were given go on with these
abbrev pub RowsGoOn : ReaderOf → ReaderOf → Streams → Streams → List Value → Type 0
RowsGoOn old new before after rows = (start : Streams) (given : List Value) → Midway old start given before
    → Midway new start (given ++ rows) after

-- the fault is the first condition that refuses so many rows more
abbrev pub RowsFail : ReaderOf → ℕ → Streams → ColumnFault → Type 0
RowsFail old rows before fault = (start : Streams) (given : List Value) → Midway old start given before
    → Fails old.plan start (length given + rows) fault

-- the reader stands before the first row of what is left
abbrev pub Begins : Streams → Streams → ReaderOf → Type 0
Begins before after r = Midway r before [] after

-- the fault is the first condition that refuses the column before any row
abbrev pub FailsAtStart : ColumnPlan → Streams → ColumnFault → Type 0
FailsAtStart plan before fault = Fails plan before 0 fault

-- where the feed tells the plan's streams, the plan has the lengths of those with texts
abbrev pub HasLengths : {F : Type 0} → (F → ℕ → Option (List ℕ)) → F → ColumnPlan → Type 0
HasLengths rest feed plan = (s : Streams) → Tells rest feed plan s → Sized plan s

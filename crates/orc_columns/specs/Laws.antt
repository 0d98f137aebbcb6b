-- The laws of columns, which this crate's law functions carry. Source: this project's own.
use Rattle.std.specs.Prelude.{◌≡◌, ℕ, ◌≤◌, ◌⊎◌, List, [], ◌∷◌, ◌++◌, length, Option, Some}
use Rattle.outside.specs.Feed.{Taken, AllOf}
use Rattle.orc_values.specs.declared.value.Value.{Value}
use Rattle.orc_columns.specs.declared.fault.ColumnFault.{ColumnFault}
use Rattle.orc_columns.specs.declared.plan.ColumnPlan.{ColumnPlan}
use Rattle.orc_columns.specs.Column.{Streams, IsColumn, Fails}
use Rattle.orc_columns.specs.Draws.{IsOfPlan, AllOfPlan, Differ, Tells}
use Rattle.orc_columns.specs.Midway.{ReaderOf, Midway}
use Rattle.row_flags.specs.Optional.{rest_in}
use Rattle.orc_columns.specs.Turns.{InTurn}

-- a column that has values in some rows isn't refused in as many rows, or fewer
abbrev pub NeverBoth : Type 0
NeverBoth = (plan : ColumnPlan) (s : Streams) (values : List Value) (rows : ℕ) (fault : ColumnFault) → IsColumn plan s values
    → rows ≤ length values → Fails plan s rows fault → ⊥

-- it has values in so many rows, or a condition refuses it
abbrev pub HasValuesOrAFault : Type 0
HasValuesOrAFault = (plan : ColumnPlan) (s : Streams) (rows : ℕ)
    → ((values : List Value) × (length values ≡ rows) × IsColumn plan s values) ⊎ ((fault : ColumnFault) × Fails plan s rows fault)

-- its values in so many rows are one list
abbrev pub IsOneList : Type 0
IsOneList = (plan : ColumnPlan) (s : Streams) (values others : List Value) → length values ≡ length others → IsColumn plan s values
    → IsColumn plan s others → values ≡ others

-- and the condition that refuses it is one
abbrev pub IsOneFault : Type 0
IsOneFault = (plan : ColumnPlan) (s : Streams) (rows : ℕ) (fault other : ColumnFault) → Fails plan s rows fault
    → Fails plan s rows other → fault ≡ other

-- the rows that a reader has given are the column's first
abbrev pub GivesTheColumn : Type 0
GivesTheColumn = (r : ReaderOf) (start : Streams) (given : List Value) (rest : Streams) → Midway r start given rest
    → IsColumn r.plan start given

-- no stream is of both columns
abbrev pub Apart : ColumnPlan → ColumnPlan → Type 0
Apart plan other = (stream : ℕ) → IsOfPlan plan stream → IsOfPlan other stream → ⊥

-- this stream, where it is there, is none of those
abbrev pub IsNoneOf : List (Option ℕ) → Option ℕ → Type 0
IsNoneOf [] which = Unit {0}
IsNoneOf (stream ∷ streams) which = Differ stream which × IsNoneOf streams which

-- takes of some streams in turn, and then of others, are in turn of all of them
abbrev pub JoinInTurn : Type 0
JoinInTurn = (streams others : List (Option ℕ)) (front back : List Taken) → InTurn streams front → InTurn others back
    → InTurn (streams ++ others) (front ++ back)

-- also where there is none of the streams behind
abbrev pub StopInTurn : Type 0
StopInTurn = (streams others : List (Option ℕ)) (takes : List Taken) → InTurn streams takes → InTurn (streams ++ others) takes

-- of two streams in turn, once the second is taken from, the first isn't any more: no batch is read in two halves
abbrev pub NeverBack : Type 0
NeverBack = (one other : ℕ) (front back : List Taken) (take : Taken) → (one ≡ other → ⊥)
    → InTurn (Some one ∷ Some other ∷ []) (front ++ take ∷ back) → take.stream ≡ other → AllOf other back

module _ {F : Type 0} (rest : F → ℕ → Option (List ℕ)) (fed : F → List Taken → F → Type 0) where
  -- takes of one column's streams leave the streams of another as they were
  abbrev pub LeaveAColumn : Type 0
  LeaveAColumn = (plan other : ColumnPlan) (s : Streams) (first last : F) (takes : List Taken) → Apart plan other
      → AllOfPlan plan takes → fed first takes last → Tells rest first other s → Tells rest last other s

  -- takes of some streams leave every other stream as it was
  abbrev pub LeaveAStream : Type 0
  LeaveAStream = (streams : List (Option ℕ)) (which : Option ℕ) (bytes : List ℕ) (first last : F) (takes : List Taken)
      → IsNoneOf streams which → InTurn streams takes → fed first takes last
      → rest_in rest first which ≡ Some bytes → rest_in rest last which ≡ Some bytes

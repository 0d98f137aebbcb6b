-- A batch of all read columns: what it takes, in which order, and what it makes of each column. Source: this project's own.
use Rattle.std.specs.Prelude.{◌≡◌, ℕ, List, [], ◌∷◌, ◌++◌, Option, None, Result, Ok, Err}
use Rattle.outside.specs.Cause.{Cause}
use Rattle.outside.specs.Feed.{Taken}
use Rattle.orc_values.specs.declared.value.Value.{Value}
use Rattle.orc_columns.specs.declared.fault.ColumnFault.{ColumnFault}
use Rattle.orc_columns.specs.declared.plan.ColumnPlan.{ColumnPlan}
use Rattle.orc_columns.specs.Column.{Streams}
use Rattle.orc_columns.specs.Draws.{Tells, FailedToRead, Decided}
use Rattle.orc_columns.specs.Laws.{Apart}
use Rattle.orc_columns.specs.Midway.{ReaderOf}
use Rattle.orc_columns.specs.Reader.{RowsGoOn, RowsFail}
use Rattle.orc_columns.specs.Turns.{InTurn, batch_streams}
use Rattle.orc_batches.specs.Batch.{Batch}

abbrev pub plans_of : List ReaderOf → List ColumnPlan
plans_of [] = []
plans_of (r ∷ readers) = r.plan ∷ plans_of readers

abbrev pub kinds_of : List ColumnPlan → List ℕ
kinds_of [] = []
kinds_of (p ∷ plans) = p.kind ∷ kinds_of plans

-- no stream is of this column and of one of those
abbrev pub ApartFrom : ColumnPlan → List ColumnPlan → Type 0
ApartFrom p [] = Unit {0}
ApartFrom p (q ∷ plans) = Apart p q × ApartFrom p plans

-- no stream is of two of the columns
abbrev pub AllApart : List ColumnPlan → Type 0
AllApart [] = Unit {0}
AllApart (p ∷ plans) = ApartFrom p plans × AllApart plans

-- none has answered a fault
abbrev pub AllFresh : List ReaderOf → Type 0
AllFresh [] = Unit {0}
AllFresh (r ∷ readers) = (r.fault ≡ None) × AllFresh readers

-- the streams of a batch of each column: the first column's, in the order of its batch, then the next one's, and so on
abbrev pub round_of : List ColumnPlan → List (Option ℕ)
round_of [] = []
round_of (p ∷ plans) = batch_streams p ++ round_of plans

-- The rows of each column go on with those of the batch.
pub data EachGoesOn : List ReaderOf → List ReaderOf → List Streams → List Streams → Batch → Type 0 where
  none : EachGoesOn [] [] [] [] []
  next : {old new : ReaderOf} {olds news : List ReaderOf} {before after : Streams} {befores afters : List Streams}
      {rows : List Value} {batch : Batch}
      → RowsGoOn old new before after rows → EachGoesOn olds news befores afters batch
      → EachGoesOn (old ∷ olds) (new ∷ news) (before ∷ befores) (after ∷ afters) (rows ∷ batch)

-- One of the columns has no so many rows more, by this fault.
pub data OneFails (rows : ℕ) : List ReaderOf → List Streams → ColumnFault → Type 0 where
  here : {r : ReaderOf} {readers : List ReaderOf} {before : Streams} {befores : List Streams} {fault : ColumnFault}
      → RowsFail r rows before fault
      → OneFails rows (r ∷ readers) (before ∷ befores) fault
  later : {r : ReaderOf} {readers : List ReaderOf} {before : Streams} {befores : List Streams} {fault : ColumnFault}
      → OneFails rows readers befores fault
      → OneFails rows (r ∷ readers) (before ∷ befores) fault

module _ {F : Type 0} (rest : F → ℕ → Option (List ℕ)) where
  -- a feed tells the streams of each column, and these bytes are left of them
  abbrev pub TellsEach : F → List ColumnPlan → List Streams → Type 0
  TellsEach feed [] [] = Unit {0}
  TellsEach feed [] (s ∷ streams) = ⊥
  TellsEach feed (p ∷ plans) [] = ⊥
  TellsEach feed (p ∷ plans) (s ∷ streams) = Tells rest feed p s × TellsEach feed plans streams

  -- what a batch of each says of the bytes before
  abbrev pub EachSaid : ℕ → F → List ReaderOf → List ReaderOf → List Streams → Result Batch ColumnFault → Type 0
  EachSaid rows last old new befores (Ok batch) =
      (afters : List Streams) × TellsEach last (plans_of old) afters × EachGoesOn old new befores afters batch
  EachSaid rows last old new befores (Err fault) = Decided (OneFails rows old befores) fault

-- A batch of each column: whatever was answered, takes are of the first column's streams in turn, then of the next one's, and so
-- on; a failed read has its cause; and where the streams are told, each column's rows go on, or one of the columns fails.
pub record EachDraws {F : Type 0} (rest : F → ℕ → Option (List ℕ)) (fed : F → List Taken → F → Type 0) (count : F → ℕ) (rows : ℕ)
    (first last : F)
    (old new : List ReaderOf) (answer : Result Batch ColumnFault) : Type 0 where
  pub takes : List Taken
  pub led : fed first takes last
  pub turns : InTurn (round_of (plans_of old)) takes
  pub cause : Cause (count first) (count last) (FailedToRead answer)
  pub told : (befores : List Streams) → TellsEach rest first (plans_of old) befores → EachSaid rest rows last old new befores answer

-- The walk over the rows of a stripe: what was taken of its streams, and which batches the consumer was given. Source: this
-- project's own.
use Rattle.std.specs.Prelude.{◌≡◌, ℕ, ◌+◌, ◌*◌, ◌<◌, ◌≤◌, List, [], ◌∷◌, ◌++◌, length, Option, Result, Ok, Err}
use Rattle.outside.specs.Cause.{Cause}
use Rattle.outside.specs.Feed.{Taken}
use Rattle.orc_values.specs.declared.value.Value.{Value}
use Rattle.orc_columns.specs.declared.fault.ColumnFault.{ColumnFault}
use Rattle.orc_columns.specs.declared.fault.ColumnFault.TheVariants.{NoMemory}
use Rattle.orc_columns.specs.declared.plan.ColumnPlan.{ColumnPlan}
use Rattle.orc_columns.specs.Column.{Streams, Fails}
use Rattle.orc_columns.specs.Draws.{FailedToRead, Decided}
use Rattle.orc_columns.specs.Midway.{ReaderOf, Midway}
use Rattle.orc_columns.specs.Turns.{InTurn}
use Rattle.orc_batches.specs.Batch.{Batch, Piece, pieces_of, batch_rows, joined, AllWhole, AreCut}
use Rattle.orc_batches.specs.Batches.{plans_of, kinds_of, round_of, TellsEach}

-- the streams of batches: a round for each
abbrev pub rounds : List ColumnPlan → List Batch → List (Option ℕ)
rounds plans [] = []
rounds plans (batch ∷ batches) = round_of plans ++ rounds plans batches

-- Of each column's streams so many rows were given, these, and these bytes are left.
pub data EachMidway (count : ℕ) : List ReaderOf → List Streams → Batch → List Streams → Type 0 where
  none : EachMidway count [] [] [] []
  next : {r : ReaderOf} {readers : List ReaderOf} {start rest : Streams} {starts rests : List Streams} {rows : List Value} {given : Batch}
      → Midway r start rows rest → length rows ≡ count → EachMidway count readers starts given rests
      → EachMidway count (r ∷ readers) (start ∷ starts) (rows ∷ given) (rest ∷ rests)

-- One of the columns is refused in so many rows, or in fewer, by this fault.
pub data OneFailsWithin (rows : ℕ) : List ColumnPlan → List Streams → ColumnFault → Type 0 where
  here : {p : ColumnPlan} {plans : List ColumnPlan} {start : Streams} {starts : List Streams} {fault : ColumnFault} (fewer : ℕ)
      → fewer ≤ rows → Fails p start fewer fault → OneFailsWithin rows (p ∷ plans) (start ∷ starts) fault
  later : {p : ColumnPlan} {plans : List ColumnPlan} {start : Streams} {starts : List Streams} {fault : ColumnFault}
      → OneFailsWithin rows plans starts fault → OneFailsWithin rows (p ∷ plans) (start ∷ starts) fault

-- takes of a walk that gave these batches: a round for each, and at an error the front of another
abbrev pub WalkTurns : {Y : Type 0} → List ColumnPlan → List Batch → List Taken → Result Y ColumnFault → Type 0
WalkTurns plans batches takes (Ok y) = InTurn (rounds plans batches) takes
WalkTurns plans batches takes (Err fault) = InTurn (rounds plans batches ++ round_of plans) takes

-- the batches are the rows, cut; before an error they are whole, and rows are left
abbrev pub WalkCuts : {Y : Type 0} → List ColumnPlan → ℕ → List Batch → Result Y ColumnFault → Type 0
WalkCuts plans rows batches (Ok y) = AreCut (kinds_of plans) rows batches
WalkCuts plans rows batches (Err fault) = AllWhole (kinds_of plans) batches × (batch_rows * length batches < rows)

-- the consumer took so, unless memory was refused
abbrev pub Eaten : {Y : Type 0} → Type 0 → Result Y ColumnFault → Type 0
Eaten Ate (Err NoMemory) = Unit {0}
Eaten Ate answer = Ate

module _ {F : Type 0} (rest : F → ℕ → Option (List ℕ)) where
  -- behind so many rows, those of the batches were given, or one of the columns is refused
  abbrev pub WalkedTo : {Y : Type 0} → ℕ → ℕ → F → List ReaderOf → List ReaderOf → List Batch → List Streams → Batch
      → Result Y ColumnFault → Type 0
  WalkedTo before rows last old new batches starts given (Ok y) =
      (afters : List Streams) × TellsEach rest last (plans_of old) afters
      × EachMidway (before + rows) new starts (joined given batches) afters
  WalkedTo before rows last old new batches starts given (Err fault) = Decided (OneFailsWithin (before + rows) (plans_of old) starts) fault

module _ {F C : Type 0} (rest : F → ℕ → Option (List ℕ)) (fed : F → List Taken → F → Type 0) (count : F → ℕ)
    (ate : C → List Piece → C → Type 0) where
  -- The walk over so many rows: the consumer took batches that are the rows, cut; the feed was taken from batch by batch, and in
  -- each column by column; a failed read has its cause; and where the streams are told, the batches join to the columns' rows
  -- behind those that were given before, or one of the columns is refused.
  pub record Walked {Y : Type 0} (rows : ℕ) (first last : F) (eater eater' : C) (old new : List ReaderOf)
      (answer : Result Y ColumnFault) : Type 0 where
    pub batches : List Batch
    pub eaten : Eaten (ate eater (pieces_of batches) eater') answer
    pub cuts : WalkCuts (plans_of old) rows batches answer
    pub takes : List Taken
    pub led : fed first takes last
    pub turns : WalkTurns (plans_of old) batches takes answer
    pub cause : Cause (count first) (count last) (FailedToRead answer)
    pub told : (before : ℕ) (starts befores : List Streams) (given : Batch) → TellsEach rest first (plans_of old) befores
        → EachMidway before old starts given befores → WalkedTo rest before rows last old new batches starts given answer

  -- So many rows of these were given: the batches are whole, unless they are all.
  pub record SoFar (rows given : ℕ) (first last : F) (eater eater' : C) (old new : List ReaderOf) : Type 0 where
    pub batches : List Batch
    pub eaten : ate eater (pieces_of batches) eater'
    pub cut : AreCut (kinds_of (plans_of old)) given batches
    pub whole : given < rows → AllWhole (kinds_of (plans_of old)) batches × (given ≡ batch_rows * length batches)
    pub takes : List Taken
    pub led : fed first takes last
    pub turns : InTurn (rounds (plans_of old) batches) takes
    pub later : count first ≤ count last
    pub told : (before : ℕ) (starts befores : List Streams) (before_rows : Batch) → TellsEach rest first (plans_of old) befores
        → EachMidway before old starts before_rows befores
        → (afters : List Streams) × TellsEach rest last (plans_of old) afters
        × EachMidway (before + given) new starts (joined before_rows batches) afters

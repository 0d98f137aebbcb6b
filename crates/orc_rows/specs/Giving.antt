-- The columns of a stripe are given, by its footer. Source: this project's own.
use Rattle.std.specs.Prelude.{◌≡◌, ℕ, List, [], ◌++◌, Option, Result, Ok, Err, IfOk, IfErr}
use Rattle.outside.specs.declared.file_ref.FileRef.{FileRef}
use Rattle.outside.specs.Cause.{Cause}
use Rattle.outside.specs.Feed.{Taken}
use Rattle.outside.specs.Files.{Files, HasBytes}
use Rattle.orc_columns.specs.declared.fault.ColumnFault.{ColumnFault}
use Rattle.orc_columns.specs.Draws.{FailedToRead, Decided}
use Rattle.orc_columns.specs.Turns.{InTurn}
use Rattle.orc_tail.specs.declared.stripe_footer.StripeFooter.{StripeFooter}
use Rattle.orc_streams.specs.declared.layout.ReadColumn.{ReadColumn}
use Rattle.orc_streams.specs.Acts.{Act, take_acts}
use Rattle.orc_streams.specs.Layout.{plans_from}
use Rattle.orc_batches.specs.Batch.{Batch, Piece, pieces_of, joined, AreCut}
use Rattle.orc_batches.specs.Walk.{rounds, Eaten}
use Rattle.orc_rows.specs.Given.{kinds_in, no_rows}
use Rattle.orc_rows.specs.Rows.{HaveValues}
use Rattle.orc_batches.specs.Batches.{round_of}
use Rattle.orc_rows.specs.Starting.{layouts_in, EachStartActs, EachStartEnds}

-- The columns of a stripe's footer were opened and started, and then their batches were taken.
pub record ColumnActs (file : FileRef) (footer : StripeFooter) (columns : List ReadColumn) (batches : List Batch)
    (acts : List Act) : Type 0 where
  pub starts : List Act
  pub takes : List Taken
  pub acts_are : acts ≡ starts ++ take_acts takes
  pub started : EachStartActs file 0 (layouts_in footer columns) starts
  pub turns : InTurn (rounds (plans_from 0 (layouts_in footer columns)) batches) takes

-- The columns weren't given to their end, by this fault: one of them wasn't started; or all were, these batches were taken, and then a
-- front of one more.
pub data ColumnsEnd (file : FileRef) (footer : StripeFooter) (columns : List ReadColumn) : List Batch → ColumnFault → List Act
    → Type 0 where
  not_started : {fault : ColumnFault} {acts : List Act} → EachStartEnds file 0 (layouts_in footer columns) fault acts
      → ColumnsEnd file footer columns [] fault acts
  within : {batches : List Batch} {fault : ColumnFault} (starts : List Act) (takes : List Taken)
      → EachStartActs file 0 (layouts_in footer columns) starts
      → InTurn (rounds (plans_from 0 (layouts_in footer columns)) batches ++ round_of (plans_from 0 (layouts_in footer columns))) takes
      → ColumnsEnd file footer columns batches fault (starts ++ take_acts takes)

-- what is said of a stripe's columns by its footer: these values, or that they have none
abbrev pub GivesSaid : {Y : Type 0} → List ℕ → StripeFooter → List ReadColumn → ℕ → List Batch → Result Y ColumnFault → Type 0
GivesSaid bytes footer columns rows batches (Ok y) = HaveValues bytes footer rows columns (joined (no_rows columns) batches)
GivesSaid bytes footer columns rows batches (Err fault) =
    Decided (λ _. (values : Batch) → HaveValues bytes footer rows columns values → ⊥) fault

module _ {S C : Type 0} (did : S → List Act → S → Type 0) (count : S → ℕ) (files : Option Files) (ate : C → List Piece → C → Type 0)
    (file : FileRef) where
  -- The columns of a stripe were given, by its footer.
  pub record Gives {Y : Type 0} (footer : StripeFooter) (columns : List ReadColumn) (rows : ℕ) (before after : S) (eater eater' : C)
      (answer : Result Y ColumnFault) : Type 0 where
    pub batches : List Batch
    pub eaten : Eaten (ate eater (pieces_of batches) eater') answer
    pub cut : IfOk answer (λ y. AreCut (kinds_in columns) rows batches)
    pub acts : List Act
    pub by : did before acts after
    pub order : IfOk answer (λ y. ColumnActs file footer columns batches acts)
    pub ends : IfErr answer (λ fault. ColumnsEnd file footer columns batches fault acts)
    pub cause : Cause (count before) (count after) (FailedToRead answer)
    pub given : (bytes : List ℕ) → HasBytes files file bytes → GivesSaid bytes footer columns rows batches answer

-- Columns of a stripe are judged in their order. Source: this project's own.
use Rattle.std.specs.Prelude.{◌≡◌, ℕ, ◌+◌, List, [], ◌∷◌, ◌++◌, Option, Some, None, Result, Ok, Err, IfOk, IfSome}
use Rattle.outside.specs.declared.file_ref.FileRef.{FileRef}
use Rattle.outside.specs.Cause.{Cause}
use Rattle.outside.specs.Feed.{Taken}
use Rattle.outside.specs.Files.{Files, HasBytes}
use Rattle.orc_values.specs.Column.{RowValues}
use Rattle.orc_columns.specs.declared.fault.ColumnFault.{ColumnFault}
use Rattle.orc_columns.specs.declared.fault.ColumnFault.TheVariants.{Read, NoMemory}
use Rattle.orc_columns.specs.Batches.{HoldsNoRead}
use Rattle.orc_columns.specs.Turns.{InTurn, judged_streams}
use Rattle.orc_tail.specs.declared.stripe_footer.StripeFooter.{StripeFooter}
use Rattle.orc_streams.specs.declared.layout.ColumnLayout.{ColumnLayout}
use Rattle.orc_streams.specs.declared.layout.ReadColumn.{ReadColumn}
use Rattle.orc_streams.specs.declared.stream_reader.OpenFault.{OpenFault}
use Rattle.orc_streams.specs.Acts.{Act, take_acts, FailedToOpen}
use Rattle.orc_streams.specs.Layout.{layout_in, plan_at}
use Rattle.orc_streams.specs.Openings.{spans_of, openings_at, all_opened, FitOpenings}
use Rattle.orc_batches.specs.Batch.{Batch}
use Rattle.orc_rows.specs.declared.judge.Refused.{Refused}
use Rattle.orc_rows.specs.Rows.{HasValues, HasFault, HaveValues, FirstColumnFails}
use Rattle.orc_rows.specs.Starting.{layouts_in}

-- the content's own fault: neither a failed read nor want of memory
abbrev pub IsContent : ColumnFault → Type 0
IsContent (Read failed) = ⊥
IsContent NoMemory = ⊥
IsContent fault = HoldsNoRead fault

-- the column has values in so many rows, or this condition refuses it
abbrev pub FindsOne : List ℕ → ColumnLayout → ℕ → Option ColumnFault → Type 0
FindsOne bytes layout rows None = (values : RowValues) × HasValues bytes layout rows values
FindsOne bytes layout rows (Some fault) = HasFault bytes layout rows fault

-- each has values in so many rows, or this is the first that is refused
abbrev pub FindsFirst : List ℕ → StripeFooter → List ReadColumn → ℕ → Option Refused → Type 0
FindsFirst bytes footer columns rows None = (values : Batch) × HaveValues bytes footer rows columns values
FindsFirst bytes footer columns rows (Some refused) = FirstColumnFails bytes footer rows columns refused.column refused.fault

-- ---- acts

-- The column of that index was judged: its streams were opened, and taken from in turn, each over all rows; up to its fault.
pub record JudgeActs (file : FileRef) (index : ℕ) (layout : ColumnLayout) (acts : List Act) : Type 0 where
  pub takes : List Taken
  pub turns : InTurn (judged_streams (plan_at index layout)) takes
  pub acts_are : acts ≡ all_opened file (spans_of (openings_at index layout)) ++ take_acts takes

-- It wasn't, since a read failed or memory was refused: its streams were opened up to one; or all were, and the rest as above, or a
-- front of it.
pub data JudgeEnds (file : FileRef) (index : ℕ) (layout : ColumnLayout) (fault : OpenFault) (acts : List Act) : Type 0 where
  not_opened : FitOpenings {Y = Unit {0}} file (spans_of (openings_at index layout)) acts (Err fault)
      → JudgeEnds file index layout fault acts
  opened : JudgeActs file index layout acts → JudgeEnds file index layout fault acts

-- the acts of a judging that answered so
abbrev pub JudgeOrder : {Y : Type 0} → FileRef → ℕ → ColumnLayout → List Act → Result Y OpenFault → Type 0
JudgeOrder file index layout acts (Ok found) = JudgeActs file index layout acts
JudgeOrder file index layout acts (Err fault) = JudgeEnds file index layout fault acts

-- columns, of which the first has that index, were judged one after the other
abbrev pub EachJudgeActs : FileRef → ℕ → List ColumnLayout → List Act → Type 0
EachJudgeActs file index [] acts = acts ≡ []
EachJudgeActs file index (layout ∷ layouts) acts =
    (front : List Act) × (back : List Act) × (acts ≡ front ++ back) × JudgeActs file index layout front
    × EachJudgeActs file (index + 1) layouts back

-- They were up to the one of a type's number, whose acts are the last.
pub data JudgedUpTo (file : FileRef) (footer : StripeFooter) (Last : ℕ → ColumnLayout → List Act → Type 0) : ℕ → List ReadColumn → ℕ
    → List Act → Type 0 where
  here : {index : ℕ} {column : ReadColumn} {columns : List ReadColumn} {acts : List Act} → Last index (layout_in footer column) acts
      → JudgedUpTo file footer Last index (column ∷ columns) column.number acts
  later : {index number : ℕ} {column : ReadColumn} {columns : List ReadColumn} {front back : List Act}
      → JudgeActs file index (layout_in footer column) front → JudgedUpTo file footer Last (index + 1) columns number back
      → JudgedUpTo file footer Last index (column ∷ columns) number (front ++ back)

-- the acts of judging columns: all, where none is refused; up to the one that is; or up to one that wasn't judged
abbrev pub EachJudgeOrder : FileRef → StripeFooter → ℕ → List ReadColumn → List Act → Result (Option Refused) OpenFault → Type 0
EachJudgeOrder file footer index columns acts (Ok None) = EachJudgeActs file index (layouts_in footer columns) acts
EachJudgeOrder file footer index columns acts (Ok (Some refused)) =
    JudgedUpTo file footer (λ i l. JudgeActs file i l) index columns refused.column acts
EachJudgeOrder file footer index columns acts (Err fault) =
    (number : ℕ) × JudgedUpTo file footer (λ i l. JudgeEnds file i l fault) index columns number acts

module _ {S : Type 0} (did : S → List Act → S → Type 0) (count : S → ℕ) (files : Option Files) (file : FileRef) where
  -- A column was judged: by some acts, a failed read has its cause, a fault that is found is the content's own, and where the file
  -- is told it is what is found.
  pub record JudgesOne (index : ℕ) (layout : ColumnLayout) (rows : ℕ) (before after : S)
      (answer : Result (Option ColumnFault) OpenFault) : Type 0 where
    pub acts : List Act
    pub by : did before acts after
    pub order : JudgeOrder file index layout acts answer
    pub cause : Cause (count before) (count after) (FailedToOpen answer)
    pub content : IfOk answer (λ found. IfSome found IsContent)
    pub told : (bytes : List ℕ) → HasBytes files file bytes → IfOk answer (FindsOne bytes layout rows)

  -- the same of columns
  pub record JudgesEach (index : ℕ) (footer : StripeFooter) (columns : List ReadColumn) (rows : ℕ) (before after : S)
      (answer : Result (Option Refused) OpenFault) : Type 0 where
    pub acts : List Act
    pub by : did before acts after
    pub order : EachJudgeOrder file footer index columns acts answer
    pub cause : Cause (count before) (count after) (FailedToOpen answer)
    pub content : IfOk answer (λ found. IfSome found (λ refused. IsContent refused.fault))
    pub told : (bytes : List ℕ) → HasBytes files file bytes → IfOk answer (FindsFirst bytes footer columns rows)

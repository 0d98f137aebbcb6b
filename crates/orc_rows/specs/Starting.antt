-- The columns of a stripe are opened, and their readers started, one after the other. Source: this project's own.
use Rattle.std.specs.Prelude.{◌≡◌, ℕ, ◌+◌, ◌<◌, List, [], ◌∷◌, ◌++◌, Option, Result, Ok, Err, IfOk, IfErr}
use Rattle.outside.specs.declared.file_ref.FileRef.{FileRef}
use Rattle.outside.specs.Cause.{Cause}
use Rattle.outside.specs.Feed.{Taken}
use Rattle.outside.specs.Files.{Files, HasBytes}
use Rattle.orc_columns.specs.declared.fault.ColumnFault.{ColumnFault}
use Rattle.orc_columns.specs.declared.fault.ColumnFault.TheVariants as column_fault
use Rattle.orc_columns.specs.Column.{Streams, Fails}
use Rattle.orc_columns.specs.Draws.{Tells, FailedToRead, Decided}
use Rattle.orc_columns.specs.Midway.{ReaderOf, Midway}
use Rattle.orc_columns.specs.Turns.{InTurn, start_streams}
use Rattle.orc_streams.specs.declared.layout.ColumnLayout.{ColumnLayout}
use Rattle.orc_streams.specs.declared.layout.ReadColumn.{ReadColumn}
use Rattle.orc_tail.specs.declared.stripe_footer.StripeFooter.{StripeFooter}
use Rattle.orc_streams.specs.declared.stream_reader.OpenFault.{OpenFault}
use Rattle.orc_streams.specs.declared.stream_reader.OpenFault.TheVariants as open_fault
use Rattle.orc_streams.specs.Acts.{Act, take_acts}
use Rattle.orc_streams.specs.Layout.{layout_in, plan_at, plans_from, streams_in}
use Rattle.orc_streams.specs.Openings.{spans_of, openings_at, all_opened, FitOpenings}
use Rattle.orc_batches.specs.Batches.{plans_of, AllFresh, TellsEach}
use Rattle.orc_batches.specs.Walk.{EachMidway, OneFailsWithin}
use Rattle.orc_rows.specs.Given.{no_rows}

-- the layouts of columns by a stripe's footer
abbrev pub layouts_in : StripeFooter → List ReadColumn → List ColumnLayout
layouts_in footer [] = []
layouts_in footer (column ∷ columns) = layout_in footer column ∷ layouts_in footer columns

-- the bytes of each column's streams
abbrev pub starts_in : List ℕ → List ColumnLayout → List Streams
starts_in file [] = []
starts_in file (layout ∷ layouts) = streams_in file layout ∷ starts_in file layouts

-- The column of that index: its streams were opened, and then its dictionary's were taken from, where it has one.
pub record StartActs (file : FileRef) (index : ℕ) (layout : ColumnLayout) (acts : List Act) : Type 0 where
  pub takes : List Taken
  pub turns : InTurn (start_streams (plan_at index layout)) takes
  pub acts_are : acts ≡ all_opened file (spans_of (openings_at index layout)) ++ take_acts takes

-- the fault of a column whose streams weren't all opened
abbrev pub of_opening : OpenFault → ColumnFault
of_opening (open_fault.Read failed) = column_fault.Read failed
of_opening open_fault.NoMemory = column_fault.NoMemory

-- The column of that index wasn't started, by this fault: its streams were opened up to one; or all were, and the rest as above, or a
-- front of it.
pub data StartEnds (file : FileRef) (index : ℕ) (layout : ColumnLayout) : ColumnFault → List Act → Type 0 where
  not_opened : {acts : List Act} (fault : OpenFault)
      → FitOpenings {Y = Unit {0}} file (spans_of (openings_at index layout)) acts (Err fault)
      → StartEnds file index layout (of_opening fault) acts
  opened : {fault : ColumnFault} {acts : List Act} → StartActs file index layout acts → StartEnds file index layout fault acts

-- columns, of which the first has that index: one after the other
abbrev pub EachStartActs : FileRef → ℕ → List ColumnLayout → List Act → Type 0
EachStartActs file index [] acts = acts ≡ []
EachStartActs file index (layout ∷ layouts) acts =
    (front : List Act) × (back : List Act) × (acts ≡ front ++ back) × StartActs file index layout front
    × EachStartActs file (index + 1) layouts back

-- Columns, of which the first has that index, up to one that wasn't started.
pub data EachStartEnds (file : FileRef) : ℕ → List ColumnLayout → ColumnFault → List Act → Type 0 where
  here : {index : ℕ} {layout : ColumnLayout} {layouts : List ColumnLayout} {fault : ColumnFault} {acts : List Act}
      → StartEnds file index layout fault acts → EachStartEnds file index (layout ∷ layouts) fault acts
  later : {index : ℕ} {layout : ColumnLayout} {layouts : List ColumnLayout} {fault : ColumnFault} {front back : List Act}
      → StartActs file index layout front → EachStartEnds file (index + 1) layouts fault back
      → EachStartEnds file index (layout ∷ layouts) fault (front ++ back)

module _ {S : Type 0} (did : S → List Act → S → Type 0) (rest : S → ℕ → Option (List ℕ)) (count : S → ℕ) (files : Option Files)
    (file : FileRef) where
  -- a reader of the column before its first row, or the condition that refuses it there
  abbrev pub StartSaid : ℕ → ColumnLayout → List ℕ → S → Result ReaderOf ColumnFault → Type 0
  StartSaid index layout bytes after (Ok r) =
      (left : Streams) × Tells rest after (plan_at index layout) left × Midway r (streams_in bytes layout) [] left
  StartSaid index layout bytes after (Err fault) = Decided (Fails (plan_at index layout) (streams_in bytes layout) 0) fault

  -- A column was started: with these acts; other columns' streams stay as they are; a failed read has its cause; and where the
  -- file is told, its reader stands before the first row, or the column is refused there.
  pub record Starts (index : ℕ) (layout : ColumnLayout) (before after : S) (answer : Result ReaderOf ColumnFault) : Type 0 where
    pub acts : List Act
    pub by : did before acts after
    pub order : IfOk answer (λ r. StartActs file index layout acts)
    pub ends : IfErr answer (λ fault. StartEnds file index layout fault acts)
    pub cause : Cause (count before) (count after) (FailedToRead answer)
    pub others : (i : ℕ) (l : ColumnLayout) (s : Streams) → (i ≡ index → ⊥) → Tells rest before (plan_at i l) s
        → Tells rest after (plan_at i l) s
    pub told : (bytes : List ℕ) → HasBytes files file bytes → StartSaid index layout bytes after answer

  -- the same of columns, of which the first has that index
  abbrev pub EachStartSaid : ℕ → List ColumnLayout → List ℕ → S → Result (List ReaderOf) ColumnFault → Type 0
  EachStartSaid index layouts bytes after (Ok readers) =
      (lefts : List Streams) × TellsEach rest after (plans_from index layouts) lefts
      × EachMidway 0 readers (starts_in bytes layouts) (no_rows layouts) lefts
  EachStartSaid index layouts bytes after (Err fault) =
      Decided (OneFailsWithin 0 (plans_from index layouts) (starts_in bytes layouts)) fault

  pub record EachStarts (index : ℕ) (layouts : List ColumnLayout) (before after : S)
      (answer : Result (List ReaderOf) ColumnFault) : Type 0 where
    pub acts : List Act
    pub by : did before acts after
    pub order : IfOk answer (λ readers. EachStartActs file index layouts acts)
    pub ends : IfErr answer (λ fault. EachStartEnds file index layouts fault acts)
    pub readers : IfOk answer (λ readers. (plans_of readers ≡ plans_from index layouts) × AllFresh readers)
    pub cause : Cause (count before) (count after) (FailedToRead answer)
    pub others : (i : ℕ) (l : ColumnLayout) (s : Streams) → i < index → Tells rest before (plan_at i l) s
        → Tells rest after (plan_at i l) s
    pub told : (bytes : List ℕ) → HasBytes files file bytes → EachStartSaid index layouts bytes after answer

-- The walk over stripes: its acts, and what it gives. Source: this project's own.
use Rattle.std.specs.Prelude.{◌≡◌, ◌≤◌, ℕ, ◌+◌, ◌⊎◌, List, [], ◌∷◌, ◌++◌, Option, Result, Ok, Err, IfOk, IfErr}
use Rattle.outside.specs.declared.failed.Failed.{Failed}
use Rattle.outside.specs.declared.file_ref.FileRef.{FileRef}
use Rattle.outside.specs.Cause.{Cause}
use Rattle.outside.specs.Files.{Files, HasBytes, range_of}
use Rattle.outside.specs.Followed.{OfFile, Fits, all_read}
use Rattle.outside.specs.Reads.{ReadEntry}
use Rattle.orc_columns.specs.declared.fault.ColumnFault.{ColumnFault}
use Rattle.orc_columns.specs.declared.fault.ColumnFault.TheVariants as column_fault
use Rattle.orc_tail.specs.declared.fault.TailFault.{TailFault}
use Rattle.orc_tail.specs.declared.stripe.Stripe.{Stripe}
use Rattle.orc_tail.specs.declared.stripe_footer.StripeFooter.{StripeFooter}
use Rattle.orc_tail.specs.Reads.{ending, stripe_footer_plan}
use Rattle.orc_tail.specs.StripeFooter.{stripe_footer, footer_at}
use Rattle.orc_streams.specs.declared.stream_reader.OpenFault.TheVariants as open_fault
use Rattle.orc_streams.specs.declared.layout.ReadColumn.{ReadColumn}
use Rattle.orc_streams.specs.Acts.{Act, closes, read_acts}
use Rattle.orc_batches.specs.Batch.{Batch, Piece, pieces_of, joined, AreCut}
use Rattle.orc_rows.specs.declared.fault.RowsFault.{RowsFault}
use Rattle.orc_rows.specs.declared.fault.RowsFault.TheVariants.{BrokenColumn}
use Rattle.orc_walk.specs.declared.stop.Stop.{Stop}
use Rattle.orc_walk.specs.declared.stop.Stop.TheVariants as stop
use Rattle.orc_rows.specs.Given.{kinds_in, no_rows, batches_in, values_in, AreStripePieces}
use Rattle.orc_rows.specs.Rows.{HaveValues, FirstColumnFails, StripeHas, StripeFails, HaveRows, FirstFails}
use Rattle.orc_rows.specs.Giving.{ColumnActs, ColumnsEnd}
use Rattle.orc_rows.specs.Judging.{IsContent, JudgeActs, JudgeEnds, EachJudgeActs, JudgedUpTo}
use Rattle.orc_rows.specs.Starting.{layouts_in}
use Rattle.orc_walk.specs.Stops.{stop_of_footer, EatenBy, StoppedByRead, IfFault, IsRowsContent, IsReadStop, IfFaulty}

-- ---- the columns of a stripe

-- the first of the columns that fails has a fault, which is that of the stripe of that number
abbrev pub ColumnsFail : List ℕ → StripeFooter → List ReadColumn → ℕ → ℕ → RowsFault → Type 0
ColumnsFail bytes footer columns rows number broken =
    (which : ℕ) × (fault : ColumnFault) × (broken ≡ BrokenColumn number which fault)
    × FirstColumnFails bytes footer rows columns which fault

-- The columns were judged in their order: up to the one that is blamed, or all, where the file changed meanwhile; or up to one at which
-- a read failed or memory was refused.
abbrev pub JudgedUntil : FileRef → StripeFooter → List ReadColumn → Stop RowsFault → List Act → Type 0
JudgedUntil file footer columns (stop.Fault broken) acts =
    ((number : ℕ) × (which : ℕ) × (fault : ColumnFault) × (broken ≡ BrokenColumn number which fault)
    × JudgedUpTo file footer (λ i l. JudgeActs file i l) 0 columns which acts)
    ⊎ EachJudgeActs file 0 (layouts_in footer columns) acts
JudgedUntil file footer columns (stop.Read failed) acts =
    (which : ℕ) × JudgedUpTo file footer (λ i l. JudgeEnds file i l (open_fault.Read failed)) 0 columns which acts
JudgedUntil file footer columns stop.NoMemory acts =
    (which : ℕ) × JudgedUpTo file footer (λ i l. JudgeEnds file i l open_fault.NoMemory) 0 columns which acts

-- The columns of a stripe were given up to a failed read or want of memory; or up to a fault of the content, and then they were judged.
pub data ColumnsStop (file : FileRef) (footer : StripeFooter) (columns : List ReadColumn) : List Batch → Stop RowsFault → List Act
    → Type 0 where
  read_failed : {batches : List Batch} {acts : List Act} (failed : Failed)
      → ColumnsEnd file footer columns batches (column_fault.Read failed) acts
      → ColumnsStop file footer columns batches (stop.Read failed) acts
  refused : {batches : List Batch} {acts : List Act} → ColumnsEnd file footer columns batches column_fault.NoMemory acts
      → ColumnsStop file footer columns batches stop.NoMemory acts
  judged : {batches : List Batch} {why : Stop RowsFault} {front : List Act} (back : List Act) (fault : ColumnFault) → IsContent fault
      → ColumnsEnd file footer columns batches fault front → JudgedUntil file footer columns why back
      → ColumnsStop file footer columns batches why (front ++ back)

-- The first of the columns that fails was looked for: by some acts, a failed read has its cause, a fault is the content's own, and
-- where the file is told it is that of the stripe.
pub record Blames {S : Type 0} (did : S → List Act → S → Type 0) (count : S → ℕ) (files : Option Files) (file : FileRef)
    (footer : StripeFooter)
    (columns : List ReadColumn) (rows number : ℕ) (before after : S) (why : Stop RowsFault) : Type 0 where
  pub acts : List Act
  pub by : did before acts after
  pub order : JudgedUntil file footer columns why acts
  pub cause : Cause (count before) (count after) (IsReadStop why)
  pub content : IfFaulty why IsRowsContent
  pub fails : (bytes : List ℕ) → HasBytes files file bytes → IfFaulty why (ColumnsFail bytes footer columns rows number)

module _ {S C : Type 0} (did : S → List Act → S → Type 0) (count : S → ℕ) (files : Option Files) (ate : C → List Piece → C → Type 0)
    (file : FileRef) where
  -- The columns were given, or the first that fails was found.
  pub record WalksColumns {Y : Type 0} (footer : StripeFooter) (columns : List ReadColumn) (rows number : ℕ) (before after : S)
      (eater eater' : C)
      (answer : Result Y (Stop RowsFault)) : Type 0 where
    pub batches : List Batch
    pub eaten : EatenBy (ate eater (pieces_of batches) eater') answer
    pub cut : IfOk answer (λ y. AreCut (kinds_in columns) rows batches)
    pub acts : List Act
    pub by : did before acts after
    pub order : IfOk answer (λ y. ColumnActs file footer columns batches acts)
    pub stops : IfErr answer (λ why. ColumnsStop file footer columns batches why acts)
    pub cause : Cause (count before) (count after) (StoppedByRead answer)
    pub content : IfFault answer IsRowsContent
    pub has : (bytes : List ℕ) → HasBytes files file bytes
        → IfOk answer (λ y. HaveValues bytes footer rows columns (joined (no_rows columns) batches))
    pub fails : (bytes : List ℕ) → HasBytes files file bytes → IfFault answer (ColumnsFail bytes footer columns rows number)

-- ---- a stripe

-- this is the footer of a stripe, and it was read in one read
abbrev pub IsFooterRead : FileRef → List ℕ → Stripe → StripeFooter → List ReadEntry → Type 0
IsFooterRead file bytes stripe footer entries =
    (stripe_footer bytes stripe ≡ Ok footer) × (entries ≡ all_read (range_of file (footer_at stripe) stripe.footer_len ∷ []))

-- A stripe that was read to its end, piece by piece: where a column is read its footer was, in one read where the file is told; then
-- its columns were opened, started and taken from; and then all streams were closed. Where none is read there was no act.
pub data IsStripeWalk (files : Option Files) (file : FileRef) (stripe : Stripe) : List ReadColumn → List Piece → List Act → Type 0 where
  unread : {pieces : List Piece} → AreStripePieces [] stripe.rows pieces → IsStripeWalk files file stripe [] pieces []
  by_footer : {column : ReadColumn} {columns : List ReadColumn} {pieces : List Piece} (footer : StripeFooter) (entries : List ReadEntry)
      (acts : List Act)
      → OfFile file entries → ((bytes : List ℕ) → HasBytes files file bytes → IsFooterRead file bytes stripe footer entries)
      → AreStripePieces (column ∷ columns) stripe.rows pieces → ColumnActs file footer (column ∷ columns) (batches_in pieces) acts
      → IsStripeWalk files file stripe (column ∷ columns) pieces
      (read_acts entries ++ (acts ++ closes ∷ []))

-- A stripe's walk stopped, by these acts: where no column is read, want of memory came before any; else the footer wasn't read, or was
-- refused, by its one read where the file is told; or it was read, the columns were given up to their stop, and all streams were closed.
pub data IsStripeStop (files : Option Files) (file : FileRef) (number : ℕ) (stripe : Stripe) : List ReadColumn → List Piece
    → Stop RowsFault → List Act → Type 0 where
  uncounted : IsStripeStop files file number stripe [] [] stop.NoMemory []
  at_footer : {column : ReadColumn} {columns : List ReadColumn} (fault : TailFault) (entries : List ReadEntry) → OfFile file entries
      → ((bytes : List ℕ) → HasBytes files file bytes → Fits ending (stripe_footer_plan file stripe bytes) (Err fault) entries)
      → IsStripeStop files file number stripe (column ∷ columns) [] (stop_of_footer number fault) (read_acts entries)
  in_columns : {column : ReadColumn} {columns : List ReadColumn} {why : Stop RowsFault} (footer : StripeFooter) (entries : List ReadEntry)
      (batches : List Batch) (acts : List Act)
      → OfFile file entries → ((bytes : List ℕ) → HasBytes files file bytes → IsFooterRead file bytes stripe footer entries)
      → ColumnsStop file footer (column ∷ columns) batches why acts
      → IsStripeStop files file number stripe (column ∷ columns) (pieces_of batches) why
      (read_acts entries ++ (acts ++ closes ∷ []))

-- stripes, one after the other
pub data AreStripeWalks (files : Option Files) (file : FileRef) (columns : List ReadColumn) : List Stripe → List Piece → List Act
    → Type 0 where
  none : AreStripeWalks files file columns [] [] []
  next : {stripe : Stripe} {stripes : List Stripe} {pieces more : List Piece} {acts rest : List Act}
      → IsStripeWalk files file stripe columns pieces acts
      → AreStripeWalks files file columns stripes more rest
      → AreStripeWalks files file columns (stripe ∷ stripes) (pieces ++ more) (acts ++ rest)

-- The walk over stripes, of which the first has that number, stopped: before the first, for want of memory; or within one, behind
-- the whole walks of those before.
pub data StripesStop (files : Option Files) (file : FileRef) (columns : List ReadColumn) : ℕ → List Stripe → List Piece → Stop RowsFault
    → List Act → Type 0 where
  unbegun : {number : ℕ} {stripes : List Stripe} → StripesStop files file columns number stripes [] stop.NoMemory []
  here : {number : ℕ} {stripe : Stripe} {stripes : List Stripe} {pieces : List Piece} {why : Stop RowsFault} {acts : List Act}
      → IsStripeStop files file number stripe columns pieces why acts
      → StripesStop files file columns number (stripe ∷ stripes) pieces why acts
  later : {number : ℕ} {stripe : Stripe} {stripes : List Stripe} {pieces more : List Piece} {why : Stop RowsFault} {acts rest : List Act}
      → IsStripeWalk files file stripe columns pieces acts
      → StripesStop files file columns (number + 1) stripes more why rest
      → StripesStop files file columns number (stripe ∷ stripes) (pieces ++ more) why (acts ++ rest)

module _ {S C : Type 0} (did : S → List Act → S → Type 0) (count : S → ℕ) (files : Option Files) (ate : C → List Piece → C → Type 0)
    (file : FileRef) (columns : List ReadColumn) where
  -- The stripe of a number was walked: after Ok the consumer took its pieces, by just these acts; and where the file is told, they
  -- join to the stripe's rows, or the stripe fails so.
  pub record WalksStripe {Y : Type 0} (number : ℕ) (stripe : Stripe) (before after : S) (eater eater' : C)
      (answer : Result Y (Stop RowsFault)) : Type 0 where
    pub pieces : List Piece
    pub eaten : EatenBy (ate eater pieces eater') answer
    pub acts : List Act
    pub by : did before acts after
    pub walk : IfOk answer (λ y. IsStripeWalk files file stripe columns pieces acts)
    pub stops : IfErr answer (λ why. IsStripeStop files file number stripe columns pieces why acts)
    pub cause : Cause (count before) (count after) (StoppedByRead answer)
    pub content : IfFault answer IsRowsContent
    pub has : (bytes : List ℕ) → HasBytes files file bytes → IfOk answer (λ y. StripeHas bytes stripe columns (values_in columns pieces))
    pub fails : (bytes : List ℕ) → HasBytes files file bytes → IfFault answer (StripeFails bytes number stripe columns)

  -- So many stripes were walked.
  pub record StripesSoFar (stripes : List Stripe) (before after : S) (eater eater' : C) : Type 0 where
    pub pieces : List Piece
    pub eaten : ate eater pieces eater'
    pub acts : List Act
    pub by : did before acts after
    pub walk : AreStripeWalks files file columns stripes pieces acts
    pub later : count before ≤ count after
    pub has : (bytes : List ℕ) → HasBytes files file bytes → (rows : ℕ)
        × HaveRows bytes columns stripes (record { count = rows; columns = values_in columns pieces })

  -- The same of stripes: where the file is told, their pieces join to their rows, or the first of them that fails fails so.
  pub record WalksStripes {Y : Type 0} (stripes : List Stripe) (before after : S) (eater eater' : C)
      (answer : Result Y (Stop RowsFault)) : Type 0 where
    pub pieces : List Piece
    pub eaten : EatenBy (ate eater pieces eater') answer
    pub acts : List Act
    pub by : did before acts after
    pub walk : IfOk answer (λ y. AreStripeWalks files file columns stripes pieces acts)
    pub stops : IfErr answer (λ why. StripesStop files file columns 0 stripes pieces why acts)
    pub cause : Cause (count before) (count after) (StoppedByRead answer)
    pub content : IfFault answer IsRowsContent
    pub has : (bytes : List ℕ) → HasBytes files file bytes
        → IfOk answer (λ y. (rows : ℕ) × HaveRows bytes columns stripes (record { count = rows; columns = values_in columns pieces }))
    pub fails : (bytes : List ℕ) → HasBytes files file bytes → IfFault answer (FirstFails bytes columns 0 stripes)

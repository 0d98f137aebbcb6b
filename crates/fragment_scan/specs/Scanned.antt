-- What a scan of a file does, and what it answers. Source: Apache ORC specification v1 for what a file has; the order of what is done is
-- this project's own.
use Rattle.std.specs.Prelude.{◌≡◌, ◌≢◌, ℕ, List, [], ◌++◌, Option, Some, Result, Ok, Err, IfOk}
use Rattle.outside.specs.declared.failed.NoMemory.{NoMemory}
use Rattle.outside.specs.declared.file_ref.FileRef.{FileRef}
use Rattle.outside.specs.Cause.{Cause}
use Rattle.outside.specs.Files.{Files, HasBytes}
use Rattle.outside.specs.Followed.{OfFile, Fits}
use Rattle.outside.specs.Reads.{ReadEntry}
use Rattle.orc_tail.specs.declared.fault.TailFault.{TailFault}
use Rattle.orc_tail.specs.declared.stripe.Stripe.{Stripe}
use Rattle.orc_tail.specs.declared.tail.Tail.{Tail}
use Rattle.orc_tail.specs.Tail.{tail}
use Rattle.orc_tail.specs.Reads.{ending, tail_plan}
use Rattle.orc_streams.specs.declared.layout.ReadColumn.{ReadColumn}
use Rattle.orc_streams.specs.Acts.{Act, read_acts}
use Rattle.orc_batches.specs.Batch.{Piece}
use Rattle.orc_rows.specs.declared.fault.RowsFault.{RowsFault}
use Rattle.orc_walk.specs.declared.stop.Stop.{Stop}
use Rattle.orc_walk.specs.declared.stop.Stop.TheVariants as stop
use Rattle.orc_walk.specs.StripeWalk.{AreStripeWalks, StripesStop}
use Rattle.fragment_plan.specs.declared.fragment.Scan.{Scan}
use Rattle.fragment_outcome.specs.declared.answer.Answer.{Answer}
use Rattle.fragment_outcome.specs.declared.failure.Failure.{Failure}
use Rattle.fragment_outcome.specs.declared.failure.Failure.TheVariants as failure
use Rattle.fragment_outcome.specs.declared.outcome.Outcome.{Outcome}
use Rattle.fragment_folds.specs.declared.faults.Overflow.{Overflow}
use Rattle.fragment_meaning.specs.ScanColumns.{by_number, scan_columns}
use Rattle.fragment_meaning.specs.ScanOutcome.{failed, answered, IsOutcomeOfStripes, IsOutcomeOfColumns, IsOutcomeOn}
use Rattle.scan_failures.specs.Faults.{broken_failure, tail_outcome}
use Rattle.fragment_scan.specs.Outcomes.{IsOutcomeFor}

-- a read failed
abbrev pub IsReadFault : Result Outcome NoMemory → Type 0
IsReadFault answer = answer ≡ Ok (failed failure.ReadFault)

-- this is so of an outcome, unless a read failed
abbrev pub IfDecided : Result Outcome NoMemory → (Outcome → Type 0) → Type 0
IfDecided answer P = IfOk answer (λ o. o ≢ failed failure.ReadFault → P o)

-- ---- acts

-- what a walk that stopped is answered as
abbrev pub answer_of_stop : Stop RowsFault → Result Outcome NoMemory
answer_of_stop (stop.Fault why) = Ok (failed (broken_failure why))
answer_of_stop (stop.Read why) = Ok (failed failure.ReadFault)
answer_of_stop stop.NoMemory = Err (record {})

-- A walk over the stripes, by ascending numbers of the columns, each once: over all of them, with an answer or an overflow; or up to
-- where it stopped, with what that is answered as. With no column no stripe's footer is read.
pub data Walked (files : Option Files) (file : FileRef) (stripes : List Stripe) (named : List ReadColumn) :
    List Act → Result Outcome NoMemory → Type 0 where
  whole : {pieces : List Piece} {acts : List Act} (answer : Result Answer Overflow)
      → AreStripeWalks files file (by_number named) stripes pieces acts → Walked files file stripes named acts (Ok (answered answer))
  stopped : {pieces : List Piece} {acts : List Act} (why : Stop RowsFault)
      → StripesStop files file (by_number named) 0 stripes pieces why acts → Walked files file stripes named acts (answer_of_stop why)

-- where the scan can't read its columns, nothing more is done, and an outcome is just that failure
abbrev pub RestByColumns : Option Files → FileRef → List Stripe → Result (List ReadColumn) Failure → List Act → Result Outcome NoMemory
    → Type 0
RestByColumns files file stripes (Err why) rest answer = (rest ≡ []) × IfOk answer (λ o. o ≡ failed why)
RestByColumns files file stripes (Ok named) rest answer = Walked files file stripes named rest answer

-- what was done behind the tail: nothing where that is refused, and the answer is just what becomes of its fault
abbrev pub RestIs : Option Files → FileRef → Scan → Result Tail TailFault → List Act → Result Outcome NoMemory → Type 0
RestIs files file scan (Err why) rest answer = (rest ≡ []) × (answer ≡ tail_outcome why)
RestIs files file scan (Ok parts) rest answer = RestByColumns files file parts.stripes (scan_columns scan parts.columns) rest answer

-- The acts of a scan: in front the reads of the file's tail, which are, where the file is told, its last bytes and then its footer; and
-- then those of the walk.
pub record ScanActs (files : Option Files) (file : FileRef) (scan : Scan) (acts : List Act) (answer : Result Outcome NoMemory)
    : Type 0 where
  pub entries : List ReadEntry
  pub rest : List Act
  pub found : Result Tail TailFault
  pub acts_are : acts ≡ read_acts entries ++ rest
  pub own : OfFile file entries
  pub tail_read : (bytes : List ℕ) → HasBytes files file bytes → Fits ending (tail_plan file bytes) found entries
  pub then_is : RestIs files file scan found rest answer

module _ {S : Type 0} (did : S → List Act → S → Type 0) (count : S → ℕ) (files : Option Files) (file : FileRef) (scan : Scan) where
  -- A file was scanned, by such acts: a read fault has its cause; an outcome is one that the scan can have; and where the file is told,
  -- and no read failed, it is the scan's outcome on the file's bytes.
  pub record ScansFile (before after : S) (answer : Result Outcome NoMemory) : Type 0 where
    pub acts : List Act
    pub by : did before acts after
    pub are : ScanActs files file scan acts answer
    pub cause : Cause (count before) (count after) (IsReadFault answer)
    pub is_for : IfOk answer (IsOutcomeFor scan)
    pub means : (bytes : List ℕ) → HasBytes files file bytes → IfDecided answer (IsOutcomeOn scan (Some bytes))

  -- the same of what stands behind a tail that was found
  pub record ScansParts (parts : Tail) (before after : S) (answer : Result Outcome NoMemory) : Type 0 where
    pub acts : List Act
    pub by : did before acts after
    pub rest : RestByColumns files file parts.stripes (scan_columns scan parts.columns) acts answer
    pub cause : Cause (count before) (count after) (IsReadFault answer)
    pub is_for : IfOk answer (IsOutcomeFor scan)
    pub means : (bytes : List ℕ) → HasBytes files file bytes → tail bytes ≡ Ok parts
        → IfDecided answer (IsOutcomeOfColumns scan bytes parts.stripes (scan_columns scan parts.columns))

  -- and of its stripes, by the columns that the scan names
  pub record FoldsStripes (parts : Tail) (named : List ReadColumn) (before after : S) (answer : Result Outcome NoMemory) : Type 0 where
    pub acts : List Act
    pub by : did before acts after
    pub rest : Walked files file parts.stripes named acts answer
    pub cause : Cause (count before) (count after) (IsReadFault answer)
    pub is_for : IfOk answer (IsOutcomeFor scan)
    pub means : (bytes : List ℕ) → HasBytes files file bytes → tail bytes ≡ Ok parts
        → IfDecided answer (IsOutcomeOfStripes scan bytes parts.stripes named)

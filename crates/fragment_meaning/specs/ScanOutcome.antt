-- What a scan means, on the files' bytes: its answer, or the first of its failures. Source: Apache ORC specification v1 for what a
-- file has; the outcomes and their order are this project's own: no file of the name, a tail that is refused, the first column that
-- is missing, the first of a wrong kind, the least stripe that fails, and a total that leaves 64 bits.
use Rattle.std.specs.Prelude.{◌≡◌, ℕ, List, Option, Some, None, Result, Ok, Err}
use Rattle.outside.specs.declared.file_ref.FileRef.{FileRef}
use Rattle.outside.specs.Files.{Files, file_named, bytes_of}
use Rattle.orc_tail.specs.declared.fault.TailFault.{TailFault}
use Rattle.orc_tail.specs.declared.fault.TailFault.TheVariants as fault
use Rattle.orc_tail.specs.declared.stripe.Stripe.{Stripe}
use Rattle.orc_tail.specs.declared.tail.Tail.{Tail}
use Rattle.orc_tail.specs.Tail.{tail}
use Rattle.orc_streams.specs.declared.layout.ReadColumn.{ReadColumn}
use Rattle.orc_rows.specs.declared.fault.RowsFault.{RowsFault}
use Rattle.orc_rows.specs.declared.fault.RowsFault.TheVariants as broken
use Rattle.orc_rows.specs.Rows.{Rows, HaveRows, FirstFails}
use Rattle.batch_masks.specs.Rows.{rows_of}
use Rattle.fragment_plan.specs.declared.fragment.Scan.{Scan}
use Rattle.fragment_outcome.specs.declared.answer.Answer.{Answer}
use Rattle.fragment_outcome.specs.declared.failure.Failure.{Failure}
use Rattle.fragment_outcome.specs.declared.failure.Failure.TheVariants as failure
use Rattle.fragment_outcome.specs.declared.outcome.Outcome.{Outcome}
use Rattle.fragment_outcome.specs.declared.outcome.Outcome.TheVariants as outcome
use Rattle.fragment_folds.specs.declared.faults.Overflow.{Overflow}
use Rattle.fragment_folds.specs.Folding.{begun, folded, finished}
use Rattle.fragment_meaning.specs.ScanColumns.{by_number, in_named_order, scan_columns}

-- the failure by a fault of the tail: a compression is one of its own
abbrev pub tail_failure : TailFault → Failure
tail_failure (fault.Compressed kind) = failure.Compressed kind
tail_failure fault.TooShort = failure.BrokenTail fault.TooShort
tail_failure fault.NotOrc = failure.BrokenTail fault.NotOrc
tail_failure (fault.Wire wire) = failure.BrokenTail (fault.Wire wire)
tail_failure fault.OutOfFile = failure.BrokenTail fault.OutOfFile
tail_failure fault.BadTypes = failure.BrokenTail fault.BadTypes
tail_failure fault.TooLarge = failure.BrokenTail fault.TooLarge
tail_failure fault.RootPresent = failure.BrokenTail fault.RootPresent
tail_failure fault.StreamOutOfStripe = failure.BrokenTail fault.StreamOutOfStripe
tail_failure (fault.Read failed) = failure.BrokenTail (fault.Read failed)
tail_failure fault.NoMemory = failure.BrokenTail fault.NoMemory

-- the failure by where a file's rows break
abbrev pub rows_failure : RowsFault → Failure
rows_failure (broken.BrokenFooter stripe why) = failure.BrokenFooter stripe why
rows_failure (broken.BrokenColumn stripe column why) = failure.BrokenColumn stripe column why

abbrev pub failed : Failure → Outcome
failed why = outcome.Failure why

abbrev pub answered : Result Answer Overflow → Outcome
answered (Ok answer) = outcome.Answer answer
answered (Err why) = failed failure.Overflow

-- the outcome by the rows of the columns that are read: those that pass, folded
abbrev pub outcome_of_rows : Scan → List ReadColumn → Rows → Outcome
outcome_of_rows scan named rows = answered (finished (folded (begun scan) (rows_of rows.count (in_named_order named rows.columns))).state)

-- The outcome by the stripes of a file, for the columns that the scan names: the file has rows, or its least stripe that fails does so.
pub data IsOutcomeOfStripes (scan : Scan) (file : List ℕ) (stripes : List Stripe) (named : List ReadColumn) : Outcome → Type 0 where
  has_rows : {rows : Rows} → HaveRows file (by_number named) stripes rows
      → IsOutcomeOfStripes scan file stripes named (outcome_of_rows scan named rows)
  breaks : {why : RowsFault} → FirstFails file (by_number named) 0 stripes why
      → IsOutcomeOfStripes scan file stripes named (failed (rows_failure why))

abbrev pub IsOutcomeOfColumns : Scan → List ℕ → List Stripe → Result (List ReadColumn) Failure → Outcome → Type 0
IsOutcomeOfColumns scan file stripes (Err why) o = o ≡ failed why
IsOutcomeOfColumns scan file stripes (Ok named) o = IsOutcomeOfStripes scan file stripes named o

abbrev pub IsOutcomeOfTail : Scan → List ℕ → Result Tail TailFault → Outcome → Type 0
IsOutcomeOfTail scan file (Err why) o = o ≡ failed (tail_failure why)
IsOutcomeOfTail scan file (Ok parts) o = IsOutcomeOfColumns scan file parts.stripes (scan_columns scan parts.columns) o

-- the outcome on the bytes of the scan's file, where there is one
abbrev pub IsOutcomeOn : Scan → Option (List ℕ) → Outcome → Type 0
IsOutcomeOn scan None o = o ≡ failed failure.NoFile
IsOutcomeOn scan (Some file) o = IsOutcomeOfTail scan file (tail file) o

abbrev pub bytes_at : Files → Option FileRef → Option (List ℕ)
bytes_at files None = None
bytes_at files (Some file) = bytes_of (Some files) file.number

-- what a scan means over the files of a run
abbrev pub ScanMeans : Files → Scan → Outcome → Type 0
ScanMeans files scan o = IsOutcomeOn scan (bytes_at files (file_named scan.file files)) o

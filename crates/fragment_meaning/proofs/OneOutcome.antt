-- A scan has one outcome.
use Rattle.std.proofs.Common.{refl, sym, ◌∙◌, ap, inl, inr}
use Rattle.std.specs.Prelude.{◌≡◌, ℕ, List, Option, Some, None, Result, Ok, Err}
use Rattle.outside.specs.Files.{Files, file_named}
use Rattle.orc_tail.specs.declared.fault.TailFault.{TailFault}
use Rattle.orc_tail.specs.declared.stripe.Stripe.{Stripe}
use Rattle.orc_tail.specs.declared.tail.Tail.{Tail}
use Rattle.orc_tail.specs.Tail.{tail}
use Rattle.orc_streams.specs.declared.layout.ReadColumn.{ReadColumn}
use Rattle.orc_rows.specs.declared.fault.RowsFault.{RowsFault}
use Rattle.orc_rows.specs.Laws.{HaveRowsOrAFault, NeverRowsAndAFault, RowsAreOne, TheFaultIsOne}
use Rattle.orc_rows.specs.Rows.{Rows}
use Rattle.fragment_plan.specs.declared.fragment.Scan.{Scan}
use Rattle.fragment_outcome.specs.declared.failure.Failure.{Failure}
use Rattle.fragment_outcome.specs.declared.failure.Failure.TheVariants as failure
use Rattle.fragment_outcome.specs.declared.outcome.Outcome.{Outcome}
use Rattle.fragment_meaning.specs.ScanColumns.{by_number, scan_columns}
use Rattle.fragment_meaning.specs.ScanOutcome.{IsOutcomeOfStripes, has_rows, breaks, IsOutcomeOfColumns, IsOutcomeOfTail, IsOutcomeOn, ScanMeans, bytes_at, failed, outcome_of_rows, rows_failure, tail_failure}

module _ (decided : HaveRowsOrAFault) where
  stripes_have : (scan : Scan) (file : List ℕ) (stripes : List Stripe) (named : List ReadColumn) → (o : Outcome) × IsOutcomeOfStripes scan file stripes named o
  stripes_have scan file stripes named = elim (decided file (by_number named) 0 stripes) [
    | inl rows ↦ (outcome_of_rows scan named rows.0, has_rows rows.1)
    | inr fault ↦ (failed (rows_failure fault.0), breaks fault.1)
  ]

  columns_have : (scan : Scan) (file : List ℕ) (stripes : List Stripe) (found : Result (List ReadColumn) Failure) → (o : Outcome) × IsOutcomeOfColumns scan file stripes found o
  columns_have scan file stripes (Err why) = (failed why, refl)
  columns_have scan file stripes (Ok named) = stripes_have scan file stripes named

  tail_has : (scan : Scan) (file : List ℕ) (found : Result Tail TailFault) → (o : Outcome) × IsOutcomeOfTail scan file found o
  tail_has scan file (Err why) = (failed (tail_failure why), refl)
  tail_has scan file (Ok parts) = columns_have scan file parts.stripes (scan_columns scan parts.columns)

  bytes_have : (scan : Scan) (found : Option (List ℕ)) → (o : Outcome) × IsOutcomeOn scan found o
  bytes_have scan None = (failed failure.NoFile, refl)
  bytes_have scan (Some file) = tail_has scan file (tail file)

  pub scans_have_outcomes : (files : Files) (scan : Scan) → (o : Outcome) × ScanMeans files scan o
  scans_have_outcomes files scan = bytes_have scan (bytes_at files (file_named scan.file files))

module _ (one : RowsAreOne) (one_fault : TheFaultIsOne) (never_both : NeverRowsAndAFault) where
  stripes_one : (scan : Scan) (file : List ℕ) (stripes : List Stripe) (named : List ReadColumn) (a b : Outcome)
      → IsOutcomeOfStripes scan file stripes named a → IsOutcomeOfStripes scan file stripes named b → a ≡ b
  stripes_one scan file stripes named a b (has_rows {rows} p) (has_rows {rows = others} q) =
      ap (λ (r : Rows). outcome_of_rows scan named r) (one file (by_number named) stripes rows others p q)
  stripes_one scan file stripes named a b (has_rows {rows} p) (breaks {why} q) = absurd (never_both file (by_number named) 0 stripes rows why p q)
  stripes_one scan file stripes named a b (breaks {why} p) (has_rows {rows} q) = absurd (never_both file (by_number named) 0 stripes rows why q p)
  stripes_one scan file stripes named a b (breaks {why} p) (breaks {why = other} q) =
      ap (λ (w : RowsFault). failed (rows_failure w)) (one_fault file (by_number named) 0 stripes why other p q)

  columns_one : (scan : Scan) (file : List ℕ) (stripes : List Stripe) (found : Result (List ReadColumn) Failure) (a b : Outcome)
      → IsOutcomeOfColumns scan file stripes found a → IsOutcomeOfColumns scan file stripes found b → a ≡ b
  columns_one scan file stripes (Err why) a b p q = p ∙ sym q
  columns_one scan file stripes (Ok named) a b p q = stripes_one scan file stripes named a b p q

  tail_one : (scan : Scan) (file : List ℕ) (found : Result Tail TailFault) (a b : Outcome)
      → IsOutcomeOfTail scan file found a → IsOutcomeOfTail scan file found b → a ≡ b
  tail_one scan file (Err why) a b p q = p ∙ sym q
  tail_one scan file (Ok parts) a b p q = columns_one scan file parts.stripes (scan_columns scan parts.columns) a b p q

  bytes_one : (scan : Scan) (found : Option (List ℕ)) (a b : Outcome) → IsOutcomeOn scan found a → IsOutcomeOn scan found b → a ≡ b
  bytes_one scan None a b p q = p ∙ sym q
  bytes_one scan (Some file) a b p q = tail_one scan file (tail file) a b p q

  pub outcomes_are_one : (files : Files) (scan : Scan) (a b : Outcome) → ScanMeans files scan a → ScanMeans files scan b → a ≡ b
  outcomes_are_one files scan a b p q = bytes_one scan (bytes_at files (file_named scan.file files)) a b p q

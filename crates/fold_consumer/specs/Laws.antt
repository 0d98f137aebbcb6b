-- What a fold of a walk's pieces is, which this crate's law function carries. Source: this project's own.
use Rattle.std.specs.Prelude.{◌≡◌, ℕ, ◌<◌, ◌≤◌, ◌^◌, List, length, Option}
use Rattle.outside.specs.declared.file_ref.FileRef.{FileRef}
use Rattle.outside.specs.Files.{Files}
use Rattle.orc_tail.specs.declared.stripe.Stripe.{Stripe}
use Rattle.orc_streams.specs.declared.layout.ReadColumn.{ReadColumn}
use Rattle.orc_streams.specs.Acts.{Act}
use Rattle.orc_batches.specs.Batch.{Piece}
use Rattle.orc_rows.specs.Given.{values_in}
use Rattle.orc_rows.specs.Rows.{HaveRows}
use Rattle.orc_walk.specs.StripeWalk.{AreStripeWalks}
use Rattle.batch_masks.specs.Rows.{rows_of}
use Rattle.fragment_plan.specs.declared.fragment.Scan.{Scan}
use Rattle.fragment_folds.specs.Folding.{begun, folded}
use Rattle.fragment_meaning.specs.ScanColumns.{by_number, in_named_order}
use Rattle.fold_consumer.specs.Pieces.{with_pieces, Passes}

-- Folding the pieces is folding so many rows, which they join to. Only where columns are read, and the rows are 2^63 or more, would one
-- of them bring the fold to as many.
pub record FoldsTheRows (scan : Scan) (named : List ReadColumn) (count : ℕ) (pieces : List Piece) : Type 0 where
  pub folds : with_pieces named (begun scan) pieces
      ≡ folded (begun scan) (rows_of count (in_named_order named (values_in (by_number named) pieces)))
  pub passes : Passes named (begun scan) pieces → (0 < length (by_number named)) × (2 ^ 63 ≤ count)

-- the pieces of a walk over stripes that have so many rows
abbrev pub WalksFoldTheRows : Type 0
WalksFoldTheRows = (files : Option Files) (file : FileRef) (bytes : List ℕ) (scan : Scan) (named : List ReadColumn) (stripes : List Stripe)
    (pieces : List Piece) (acts : List Act) (count : ℕ) → AreStripeWalks files file (by_number named) stripes pieces acts
    → HaveRows bytes (by_number named) stripes (record { count = count; columns = values_in (by_number named) pieces })
    → FoldsTheRows scan named count pieces

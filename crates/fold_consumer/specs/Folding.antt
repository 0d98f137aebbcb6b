-- What contracts see of a fold that takes the rows of a walk, and what it took. Source: this project's own.
use Rattle.std.specs.Prelude.{◌≡◌, Bool, true, false, ◌⊎◌, List, [], length}
use Rattle.fragment_plan.specs.declared.fragment.Scan.{Scan}
use Rattle.fragment_plan.specs.declared.fragment.FoldKind.TheVariants as kind
use Rattle.orc_streams.specs.declared.layout.ReadColumn.{ReadColumn}
use Rattle.orc_batches.specs.Batch.{Piece}
use Rattle.fragment_folds.specs.Folding.{FoldOf}
use Rattle.fragment_meaning.specs.ScanColumns.{by_number}
use Rattle.fold_consumer.specs.Pieces.{with_pieces, Passes}

-- The columns that the scan names, one for each name; the fold; and whether a piece would have brought it to 2^63 rows or more: then it
-- takes no more.
pub record FoldingOf : Type 0 where
  pub named : List ReadColumn
  pub fold : FoldOf
  pub over : Bool

-- a scan that counts all rows
abbrev pub CountsAll : Scan → Type 0
CountsAll scan = (scan.fold ≡ kind.Count) × (scan.tests ≡ [])

-- A fold that goes by columns that are named, and read by ascending numbers: there is one for each name of its scan, and without a
-- column it counts all rows.
pub record GoesBy (fold : FoldOf) (named read : List ReadColumn) : Type 0 where
  pub read_is : read ≡ by_number named
  pub width : length named ≡ length fold.scan.columns
  pub counts : named ≡ [] → CountsAll fold.scan

-- It went from the first state to the last by these pieces: unless it takes no more, the fold has their rows more; and it takes no more
-- only where one of them would have brought it to 2^63 rows or more.
pub record Ate (first : FoldingOf) (pieces : List Piece) (last : FoldingOf) : Type 0 where
  pub named : last.named ≡ first.named
  pub folds : last.over ≡ false → (first.over ≡ false) × (last.fold ≡ with_pieces first.named first.fold pieces)
  pub over : last.over ≡ true → (first.over ≡ true) ⊎ Passes first.named first.fold pieces

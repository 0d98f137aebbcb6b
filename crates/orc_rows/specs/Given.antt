-- The pieces in which rows are given, stripe by stripe. Source: this project's own.
use Rattle.std.specs.Prelude.{◌≡◌, ℕ, List, [], ◌∷◌}
use Rattle.orc_streams.specs.declared.layout.ReadColumn.{ReadColumn}
use Rattle.orc_batches.specs.Batch.{Batch, Piece, columns as of_columns, count as of_count, pieces_of, joined, AreCut}

-- the kinds of columns
abbrev pub kinds_in : List ReadColumn → List ℕ
kinds_in [] = []
kinds_in (column ∷ columns) = column.kind ∷ kinds_in columns

-- no row of each
abbrev pub no_rows : {A : Type 0} → List A → Batch
no_rows [] = []
no_rows (x ∷ xs) = [] ∷ no_rows xs

-- the batches among pieces
abbrev pub batches_in : List Piece → List Batch
batches_in [] = []
batches_in (of_columns batch ∷ pieces) = batch ∷ batches_in pieces
batches_in (of_count rows ∷ pieces) = batches_in pieces

-- what pieces of these columns join to
abbrev pub values_in : List ReadColumn → List Piece → Batch
values_in columns pieces = joined (no_rows columns) (batches_in pieces)

-- The pieces of a stripe of so many rows: where no column is read its count, and else batches of 1,024 rows, the last of which may
-- have fewer.
abbrev pub AreStripePieces : List ReadColumn → ℕ → List Piece → Type 0
AreStripePieces [] rows pieces = pieces ≡ of_count rows ∷ []
AreStripePieces (column ∷ columns) rows pieces =
    (batches : List Batch) × (pieces ≡ pieces_of batches) × AreCut (kinds_in (column ∷ columns)) rows batches

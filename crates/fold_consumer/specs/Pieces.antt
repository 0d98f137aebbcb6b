-- A fold takes pieces of rows. Source: this project's own.
use Rattle.std.specs.Prelude.{ℕ, ◌+◌, ◌^◌, ◌≤◌, ◌⊎◌, List, [], ◌∷◌, map, replicate}
use Rattle.orc_streams.specs.declared.layout.ReadColumn.{ReadColumn}
use Rattle.orc_batches.specs.Batch.{Batch, Piece, columns as of_columns, count as of_count}
use Rattle.batch_masks.specs.Rows.{rows_of}
use Rattle.fragment_folds.specs.Folding.{FoldOf, folded, rows_in}
use Rattle.fragment_meaning.specs.ScanColumns.{values_at, in_named_order}

-- the values of some columns, in their order, from a batch of those that are read
abbrev pub in_order : List ReadColumn → List ReadColumn → Batch → Batch
in_order read columns batch = map (λ column. values_at column.number read batch) columns

-- how many rows a piece has
abbrev pub piece_rows : Piece → ℕ
piece_rows (of_columns batch) = rows_in batch
piece_rows (of_count rows) = rows

-- and pieces
abbrev pub rows_given : List Piece → ℕ
rows_given [] = 0
rows_given (piece ∷ pieces) = piece_rows piece + rows_given pieces

-- A fold with a piece more: the rows of a batch that has its columns by ascending numbers, in the order of their names; or so many rows
-- of no column.
abbrev pub with_piece : List ReadColumn → FoldOf → Piece → FoldOf
with_piece named f (of_columns batch) = folded f (rows_of (rows_in batch) (in_named_order named batch))
with_piece named f (of_count rows) = folded f (replicate rows [])

-- with pieces more, in their order
abbrev pub with_pieces : List ReadColumn → FoldOf → List Piece → FoldOf
with_pieces named f [] = f
with_pieces named f (piece ∷ pieces) = with_pieces named (with_piece named f piece) pieces

-- the rows of this batch would bring the fold to 2^63 rows or more
abbrev pub PassesAt : FoldOf → Piece → Type 0
PassesAt f (of_columns batch) = 2 ^ 63 ≤ f.rows + rows_in batch
PassesAt f (of_count rows) = ⊥

-- and so would one of these pieces
abbrev pub Passes : List ReadColumn → FoldOf → List Piece → Type 0
Passes named f [] = ⊥
Passes named f (piece ∷ pieces) = PassesAt f piece ⊎ Passes named (with_piece named f piece) pieces

-- Rows of columns, batch by batch. Source: this project's own.
use Rattle.std.specs.Prelude.{◌≡◌, ℕ, ◌+◌, ◌*◌, ◌<◌, List, [], ◌∷◌, ◌++◌, length, All}
use Rattle.orc_values.specs.Column.{RowValues}
use Rattle.orc_columns.specs.Batches.{IsOfKind}

-- the rows of each column, columns beside each other
abbrev pub Batch : Type 0
Batch = List RowValues

-- So many rows of columns of these kinds: each value is null or of its column's kind.
abbrev pub IsBatch : List ℕ → ℕ → Batch → Type 0
IsBatch [] rows [] = Unit {0}
IsBatch [] rows (column ∷ columns) = ⊥
IsBatch (kind ∷ kinds) rows [] = ⊥
IsBatch (kind ∷ kinds) rows (column ∷ columns) = (length column ≡ rows) × All (IsOfKind kind) column × IsBatch kinds rows columns

-- a batch behind the rows that were given before it, column by column
abbrev pub behind : Batch → Batch → Batch
behind [] more = []
behind (column ∷ columns) [] = column ∷ columns
behind (column ∷ columns) (rows ∷ more) = (column ++ rows) ∷ behind columns more

-- batches joined, behind the rows that were given before them
abbrev pub joined : Batch → List Batch → Batch
joined given [] = given
joined given (batch ∷ batches) = joined (behind given batch) batches

-- What is given of a stripe at once: the rows of each column of a batch, or, where no column is read, how many rows the
-- stripe has.
pub data Piece : Type 0 where
  columns : Batch → Piece
  count : ℕ → Piece

abbrev pub pieces_of : List Batch → List Piece
pieces_of [] = []
pieces_of (batch ∷ batches) = columns batch ∷ pieces_of batches

-- how many rows a batch has, but for the last
abbrev pub batch_rows : ℕ
batch_rows = 1024

-- each of the batches has that many rows
abbrev pub AllWhole : List ℕ → List Batch → Type 0
AllWhole kinds [] = Unit {0}
AllWhole kinds (batch ∷ batches) = IsBatch kinds batch_rows batch × AllWhole kinds batches

-- So many rows are cut into batches of 1,024, behind which there may be one that has fewer, but not none.
pub data AreCut (kinds : List ℕ) (rows : ℕ) : List Batch → Type 0 where
  whole : {batches : List Batch} → AllWhole kinds batches → rows ≡ batch_rows * length batches → AreCut kinds rows batches
  shorter : (front : List Batch) (last : Batch) (count : ℕ) → AllWhole kinds front → IsBatch kinds count last → 0 < count
      → count < batch_rows
      → rows ≡ batch_rows * length front + count → AreCut kinds rows (front ++ last ∷ [])

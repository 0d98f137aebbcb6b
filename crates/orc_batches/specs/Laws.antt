-- The law of batches, which this crate's law function carries. Source: this project's own.
use Rattle.std.specs.Prelude.{◌≡◌, ℕ, List, [], ◌∷◌, length}
use Rattle.orc_columns.specs.declared.plan.ColumnPlan.{ColumnPlan}
use Rattle.orc_columns.specs.Column.{Streams, IsColumn}
use Rattle.orc_columns.specs.Midway.{ReaderOf}
use Rattle.orc_batches.specs.Batch.{Batch}
use Rattle.orc_batches.specs.Batches.{plans_of}
use Rattle.orc_batches.specs.Walk.{EachMidway}

-- these are the columns' values in so many rows, by their plans and the bytes of their streams
abbrev pub AreColumns : ℕ → List ColumnPlan → List Streams → Batch → Type 0
AreColumns count [] [] [] = Unit {0}
AreColumns count [] [] (rows ∷ batch) = ⊥
AreColumns count [] (s ∷ starts) batch = ⊥
AreColumns count (p ∷ plans) [] batch = ⊥
AreColumns count (p ∷ plans) (s ∷ starts) [] = ⊥
AreColumns count (p ∷ plans) (s ∷ starts) (rows ∷ batch) = IsColumn p s rows × (length rows ≡ count) × AreColumns count plans starts batch

-- what was given of each column, up to a place between two batches, are its values
abbrev pub GiveTheColumns : Type 0
GiveTheColumns = (count : ℕ) (readers : List ReaderOf) (starts : List Streams) (given : Batch) (rests : List Streams)
    → EachMidway count readers starts given rests → AreColumns count (plans_of readers) starts given

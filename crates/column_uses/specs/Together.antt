-- Two columns that are read side by side: their takes as one list, and their rows. Source: this project's own.
use Rattle.std.specs.Prelude.{◌≡◌, ℕ, List, ◌++◌, length, Option}
use Rattle.outside.specs.Feed.{Taken}
use Rattle.orc_values.specs.declared.value.Value.{Value}
use Rattle.orc_columns.specs.declared.plan.ColumnPlan.{ColumnPlan}
use Rattle.orc_columns.specs.Column.{Streams}
use Rattle.orc_columns.specs.Draws.{Tells}
use Rattle.orc_columns.specs.Midway.{ReaderOf}
use Rattle.orc_columns.specs.Reader.{RowsGoOn}
use Rattle.orc_columns.specs.Turns.{InTurn, batch_streams}
use Rattle.column_uses.specs.declared.two_columns.Pair.{Pair}

abbrev pub HasRows : ℕ → Pair → Type 0
HasRows rows pair = (length pair.one ≡ rows) × (length pair.two ≡ rows)

-- the streams of a batch of each
abbrev pub both : ColumnPlan → ColumnPlan → List (Option ℕ)
both one two = batch_streams one ++ batch_streams two

module _ {F : Type 0} (fed : F → List Taken → F → Type 0) (one two : ColumnPlan) where
  -- takes of the first column's streams in turn, then of the second's
  abbrev pub TakesOfBoth : F → F → Type 0
  TakesOfBoth first last = (takes : List Taken) × fed first takes last × InTurn (both one two) takes

  -- and the same again
  abbrev pub TakesOfBothTwice : F → F → Type 0
  TakesOfBothTwice first last = (takes : List Taken) × fed first takes last × InTurn (both one two ++ both one two) takes

module _ {F : Type 0} (rest : F → ℕ → Option (List ℕ)) (one one' two two' : ReaderOf) (first last : F) where
  -- where the streams of both columns are told, the rows of both go on
  abbrev pub BothGoOn : Pair → Type 0
  BothGoOn pair = (s t : Streams) → Tells rest first one.plan s → Tells rest first two.plan t
      → (a : Streams) × (b : Streams) × Tells rest last one.plan a × Tells rest last two.plan b × RowsGoOn one one' s a pair.one
      × RowsGoOn two two' t b pair.two

  -- by two batches
  abbrev pub BothGoOnTwice : Pair → Pair → Type 0
  BothGoOnTwice front back = (s t : Streams) → Tells rest first one.plan s → Tells rest first two.plan t
      → (a : Streams) × (b : Streams) × Tells rest last one.plan a × Tells rest last two.plan b
      × RowsGoOn one one' s a (front.one ++ back.one) × RowsGoOn two two' t b (front.two ++ back.two)

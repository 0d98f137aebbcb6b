-- Which way of a set is taken, and which blocks serve a length. Source: this project's own.
use Rattle.std.specs.Prelude.{◌≡◌, ◌≢◌, ℕ, ◌*◌, ◌^◌, ◌<◌, ◌≤◌, List, slice_index}
use Rattle.pool_rule.specs.declared.geometry.Geometry.{Geometry}
use Rattle.pool_rule.specs.Layout.{greatest_order}

-- the order of the least block that holds so many bytes
pub record IsOrder (g : Geometry) (len order : ℕ) : Type 0 where
  pub fits : order ≤ greatest_order
  pub room : len ≤ g.min_block * 2 ^ order
  pub least : (k : ℕ) → len ≤ g.min_block * 2 ^ k → order ≤ k

-- the lowest way whose state is that of a released header without a count
pub record IsFirstFree (states : List ℕ) (way : ℕ) : Type 0 where
  pub inside : way < 8
  pub free : slice_index states way ≡ 8
  pub lowest : (lower : ℕ) → lower < way → slice_index states lower ≢ 8

-- no way's state is
abbrev pub NoneFree : List ℕ → Type 0
NoneFree states = (way : ℕ) → way < 8 → slice_index states way ≢ 8

-- Blocks of an arena. Source: this project's own; after the buddy system.
-- An arena is `size` places, counted from 0. A number `bits` says which are taken: place p is taken where bit p is 1.
use Rattle.std.specs.Prelude.{◌≡◌, ℕ, ◌+◌, ◌-◌, ◌*◌, ◌/◌, ◌^◌, ◌<◌, ◌≤◌, min}
use Rattle.std.specs.Int.{bit_at}

-- where the one block of the order begins that holds the place
abbrev pub around : ℕ → ℕ → ℕ
around place order = place / 2 ^ order * 2 ^ order

-- the `2 ^ order` places from `place` on are a block: they begin at a multiple of their number and end inside the arena
pub record IsBlock (size place order : ℕ) : Type 0 where
  pub aligned : around place order ≡ place
  pub inside : place + 2 ^ order ≤ size

-- 1 where p is one of the `2 ^ order` places from `place` on, and else 0
abbrev pub covers : ℕ → ℕ → ℕ → ℕ
covers place order p = min (min 1 (p + 1 - place)) (place + 2 ^ order - p)

-- none of the `2 ^ order` places from `place` on is taken
pub record IsClear (bits place order : ℕ) : Type 0 where
  pub at : (p : ℕ) → place ≤ p → p < place + 2 ^ order → bit_at bits p ≡ 0

-- the bits of a number are those of the block
abbrev pub IsMask : ℕ → ℕ → ℕ → Type 0
IsMask mask place order = (p : ℕ) → bit_at mask p ≡ covers place order p

-- The block that costs least to clear. Source: this project's own.
use Rattle.std.specs.Prelude.{◌≡◌, ℕ, ◌/◌, ◌%◌, ◌^◌, ◌+◌, ◌<◌, ◌≤◌, count_ones, Option, Some, None}
use Rattle.std.specs.Int.{bit_at}
use Rattle.buddy_arena.specs.Block.{IsBlock}

-- a block whose taken places are all movable
pub record IsMovable (size bits movable place order : ℕ) : Type 0 where
  pub block : IsBlock size place order
  pub each : (p : ℕ) → place ≤ p → p < place + 2 ^ order → bit_at bits p ≡ 1 → bit_at movable p ≡ 1

-- how many of the `2 ^ order` places from `place` on are taken
abbrev pub taken_in : ℕ → ℕ → ℕ → ℕ
taken_in bits place order = count_ones (bits / 2 ^ place % 2 ^ 2 ^ order)

-- of the movable blocks of the order, one with the fewest taken places, and of those the lowest
pub record IsCheapest (size bits movable order place : ℕ) : Type 0 where
  pub candidate : IsMovable size bits movable place order
  pub fewest : (p : ℕ) → IsMovable size bits movable p order → taken_in bits place order ≤ taken_in bits p order
  pub lowest : (p : ℕ) → IsMovable size bits movable p order → taken_in bits p order ≡ taken_in bits place order → place ≤ p

-- the window: the place of the cheapest block, or none where no block of the order is movable
abbrev pub IsWindow : ℕ → ℕ → ℕ → ℕ → Option ℕ → Type 0
IsWindow size bits movable order (Some place) = IsCheapest size bits movable order place
IsWindow size bits movable order None = (p : ℕ) → IsMovable size bits movable p order → ⊥

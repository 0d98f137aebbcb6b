-- The free blocks of an arena, and which of them serves an order. Source: this project's own; after the buddy system.
use Rattle.std.specs.Prelude.{ℕ, zero, suc, ◌+◌, ◌*◌, ◌/◌, ◌%◌, ◌^◌, ◌<◌, ◌≤◌, Bool, ◌&&◌}
use Rattle.std.specs.Prelude.{not, nat_le, ◌==◌, if◌then◌else◌, Option, Some, None}
use Rattle.std.specs.Option.{option_or}
use Rattle.buddy_arena.specs.Block.{around, IsBlock, IsClear}

-- a block of which no place is taken
pub record IsClearBlock (size bits place order : ℕ) : Type 0 where
  pub block : IsBlock size place order
  pub clear : IsClear bits place order

-- a clear block that lies in no larger clear block
pub record IsFree (size bits place order : ℕ) : Type 0 where
  pub here : IsClearBlock size bits place order
  pub largest : (larger : ℕ) → order < larger → IsClearBlock size bits (around place larger) larger → ⊥

-- of the free blocks that have the order or more, one of the smallest, and of those the lowest; `own` is its order
pub record IsBest (size bits order place own : ℕ) : Type 0 where
  pub free : IsFree size bits place own
  pub serves : order ≤ own
  pub smallest : (p k : ℕ) → IsFree size bits p k → order ≤ k → own ≤ k
  pub lowest : (p : ℕ) → IsFree size bits p own → place ≤ p

-- the answer to 'where is a block of this order': the place of the best free block, or none where no free block has the order or more
abbrev pub IsBuddyAnswer : ℕ → ℕ → ℕ → Option ℕ → Type 0
IsBuddyAnswer size bits order (Some place) = (own : ℕ) × IsBest size bits order place own
IsBuddyAnswer size bits order None = (p k : ℕ) → IsFree size bits p k → order ≤ k → ⊥

-- ---- the same answer as a function, for those who compute with it

-- tests that are true where the block is clear, and where it is free: then the block of the next order around it isn't clear
unfoldable pub is_clear_block : ℕ → ℕ → ℕ → ℕ → Bool
is_clear_block size bits place order = nat_le (place + 2 ^ order) size && (bits / 2 ^ place % 2 ^ 2 ^ order == 0)

unfoldable pub is_free_block : ℕ → ℕ → ℕ → ℕ → Bool
is_free_block size bits place order =
    is_clear_block size bits place order && not (is_clear_block size bits (around place (order + 1)) (order + 1))

-- the place of the lowest free block of the order, among the first n blocks of that order
unfoldable pub lowest_free : ℕ → ℕ → ℕ → ℕ → Option ℕ
lowest_free size bits order zero = None
lowest_free size bits order (suc n) =
    option_or (lowest_free size bits order n)
    (if is_free_block size bits (n * 2 ^ order) order then Some (n * 2 ^ order) else None)

-- the first answer among n orders, from this order on
unfoldable pub buddy_among : ℕ → ℕ → ℕ → ℕ → Option ℕ
buddy_among size bits order zero = None
buddy_among size bits order (suc n) =
    option_or (lowest_free size bits order (size / 2 ^ order)) (buddy_among size bits (order + 1) n)

-- the answer; an arena has fewer orders than places
unfoldable pub buddy_answer : ℕ → ℕ → ℕ → Option ℕ
buddy_answer size bits order = buddy_among size bits order size

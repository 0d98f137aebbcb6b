-- Blocks of minimum blocks. Source: this project's own, after the buddy system.
use Rattle.std.specs.Prelude.{◌≡◌, ℕ, ◌+◌, ◌*◌, ◌/◌, ◌%◌, ◌^◌, ◌<◌, ◌≤◌, ◌&&◌, if◌then◌else◌, nat_le, nat_lt}
use Rattle.pool_model.specs.declared.block.Block.{Block}

-- m is one of the block's minimum blocks
abbrev pub Within : Block → ℕ → Type 0
Within b m = (b.place ≤ m) × (m < b.place + 2 ^ b.order)

-- A block is of at most the greatest order and begins at a multiple of its size, so that it lies in one arena.
-- It ends within the arenas, which have that many places together.
pub record IsBlock (greatest places : ℕ) (b : Block) : Type 0 where
  pub order_fits : b.order ≤ greatest
  pub aligned : b.place % 2 ^ b.order ≡ 0
  pub inside : b.place + 2 ^ b.order ≤ places

-- 1 if m is one of the block's minimum blocks, and else 0
unfoldable pub covers : Block → ℕ → ℕ
covers b m = if nat_le b.place m && nat_lt m (b.place + 2 ^ b.order) then 1 else 0

-- the bytes of a block, where a minimum block has that many
abbrev pub bytes_in : ℕ → Block → ℕ
bytes_in min_block b = min_block * 2 ^ b.order

-- how many cells of eight bytes hold that many bytes
unfoldable pub cells_for : ℕ → ℕ
cells_for bytes = (bytes + 7) / 8

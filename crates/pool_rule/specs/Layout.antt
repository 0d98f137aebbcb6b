-- Where the words of a pool lie in its table. Source: this project's own format.
-- The arenas' words come first, then state, key, touches and last of each header, then the clock, then the cells.
use Rattle.std.specs.Prelude.{ℕ, ◌+◌, ◌*◌, ◌/◌, ◌<◌, ◌≤◌, IsTrue}
use Rattle.std.specs.Int.{is_power_of_two}
use Rattle.pool_model.specs.declared.block.Block.{Block}
use Rattle.pool_model.specs.Block.{IsBlock}
use Rattle.pool_rule.specs.declared.geometry.Geometry.{Geometry}
use Rattle.pool_rule.specs.declared.geometry.WordName.{WordName}
use Rattle.pool_rule.specs.declared.geometry.WordName.TheVariants.{Arena, State, KeyOf, Touches, Last, Clock}

-- the headers, eight in a set
abbrev pub headers_of : Geometry → ℕ
headers_of g = 8 * g.sets

-- the minimum blocks of all arenas, 64 in each
abbrev pub places_of : Geometry → ℕ
places_of g = 64 * g.arenas

-- an arena has 64 minimum blocks, so no block is of an order above 6
abbrev pub greatest_order : ℕ
greatest_order = 6

-- the block lies in one of the arenas
abbrev pub IsBlockIn : Geometry → Block → Type 0
IsBlockIn g b = IsBlock greatest_order (places_of g) b

-- the cells of a minimum block, of eight bytes each
abbrev pub block_cells : Geometry → ℕ
block_cells g = g.min_block / 8

-- the first of a header's four words
abbrev pub header_word : Geometry → ℕ → ℕ
header_word g header = g.arenas + 4 * header

abbrev pub clock_word : Geometry → ℕ
clock_word g = header_word g (headers_of g)

-- the cell with that number, counted over all minimum blocks
abbrev pub cell_word : Geometry → ℕ → ℕ
cell_word g cell = clock_word g + 1 + cell

-- all words
abbrev pub word_count : Geometry → ℕ
word_count g = cell_word g (places_of g * block_cells g)

-- the index of a word
abbrev pub index_of : Geometry → WordName → ℕ
index_of g (Arena i) = i
index_of g (State header) = header_word g header
index_of g (KeyOf header) = header_word g header + 1
index_of g (Touches header) = header_word g header + 2
index_of g (Last header) = header_word g header + 3
index_of g Clock = clock_word g

-- the arena or the header is one of the pool's
abbrev pub IsWord : Geometry → WordName → Type 0
IsWord g (Arena i) = i < g.arenas
IsWord g (State header) = header < headers_of g
IsWord g (KeyOf header) = header < headers_of g
IsWord g (Touches header) = header < headers_of g
IsWord g (Last header) = header < headers_of g
IsWord g Clock = Unit {0}

-- the word stands for nothing of the pool: touches and last of a header, and the clock
abbrev pub IsFreeWord : Geometry → WordName → Type 0
IsFreeWord g (Arena i) = ⊥
IsFreeWord g (State header) = ⊥
IsFreeWord g (KeyOf header) = ⊥
IsFreeWord g (Touches header) = header < headers_of g
IsFreeWord g (Last header) = header < headers_of g
IsFreeWord g Clock = Unit {0}

-- each size is in its range
pub record IsGeometry (g : Geometry) : Type 0 where
  pub power : IsTrue (is_power_of_two g.min_block)
  pub min_block : (64 ≤ g.min_block) × (g.min_block ≤ 65536)
  pub arenas : (1 ≤ g.arenas) × (g.arenas ≤ 64)
  pub sets : (1 ≤ g.sets) × (g.sets ≤ 4096)

-- as many numbers as there may be seats
abbrev pub AreSeats : ℕ → Type 0
AreSeats seats = (1 ≤ seats) × (seats ≤ 64)

-- What callers see of a pool, of its seats and of what they are handed.
use Rattle.std.specs.Prelude.{◌≡◌, ℕ, ◌+◌, ◌<◌, ◌≤◌, List, Option, Some, slice_range}
use Rattle.buffer_word.specs.declared.key_word.Key.{Key}
use Rattle.buffer_word.specs.KeyWord.{IsKey}
use Rattle.pool_model.specs.declared.block.Block.{Block}
use Rattle.pool_model.specs.declared.buffer.BufferKey.{BufferKey}
use Rattle.pool_model.specs.Block.{bytes_in}
use Rattle.pool_model.specs.Content.{Files, told_bytes}
use Rattle.pool_rule.specs.declared.geometry.Geometry.{Geometry}
use Rattle.pool_rule.specs.declared.view.Claim.TheVariants.{Fresh, Gone}
use Rattle.pool_rule.specs.declared.view.Hold.TheVariants.{Pinned}
use Rattle.pool_rule.specs.declared.view.View.{View}
use Rattle.pool_rule.specs.Layout.{AreSeats, IsBlockIn, IsGeometry, headers_of}
use Rattle.pool_rule.specs.Seats.{granted_at, mark_at}
use Rattle.pool_rule.specs.Tables.{geometry_of, table_of}
use Rattle.pool_rule.specs.Words.{IsSeatAt}
use Rattle.buffer_pool.specs.declared.token.Evicting.{Evicting}
use Rattle.buffer_pool.specs.declared.token.Grant.{Grant}
use Rattle.buffer_pool.specs.declared.token.NewBuffer.{NewBuffer}
use Rattle.buffer_pool.specs.declared.token.Pin.{Pin}
use Rattle.buffer_pool.specs.declared.pool.Pool.{Pool}
use Rattle.buffer_pool.specs.declared.seat.PoolSeat.{PoolSeat}

-- the sizes and the number of seats that `create` takes
pub record IsInRange (g : Geometry) (seats : ℕ) : Type 0 where
  pub sizes : IsGeometry g
  pub numbers : AreSeats seats

-- the sizes that a pool was made with
abbrev pub sizes_of : {W : Type 0} → Pool W → Geometry
sizes_of pool = geometry_of pool.words

-- what a seat knows and has
abbrev pub view : {W : Type 0} → PoolSeat W → View
view seat = seat.seat.me.0

-- the seat's place among the seats of its pool
abbrev pub seat_id : {W : Type 0} → PoolSeat W → ℕ
seat_id seat = seat.seat.id

-- The seat is one of the pool's: of its table and its sizes, with at least one number.
abbrev pub IsSeatOf : {W : Type 0} → Pool W → PoolSeat W → Type 0
IsSeatOf pool seat = IsSeatAt (table_of pool.words) (geometry_of pool.words) seat.seat

-- it is the same seat of the pool, after a call
pub record IsSameSeat {W : Type 0} (pool : Pool W) (old new : PoolSeat W) : Type 0 where
  pub of_pool : IsSeatOf pool new
  pub same : seat_id new ≡ seat_id old

-- the block that a token grants
abbrev pub block_of : Grant → Block
block_of grant = grant.block

-- a block of that place and order
abbrev pub block_at : ℕ → ℕ → Block
block_at place order = record { place = place; order = order }

-- the block lies in one of the pool's arenas
abbrev pub IsBlockOf : {W : Type 0} → Pool W → Block → Type 0
IsBlockOf pool b = IsBlockIn (sizes_of pool) b

-- the token grants a block of the pool, which the seat's view has
pub record IsGrantOf {W : Type 0} (pool : Pool W) (seat : PoolSeat W) (grant : Grant) : Type 0 where
  pub block : IsBlockOf pool (block_of grant)
  pub granted : granted_at (view seat) (block_of grant).place ≡ Some (block_of grant).order

-- ---- buffers and their keys

-- the key as the pool's model has it
abbrev pub buffer_key : Key → BufferKey
buffer_key key = record { file = key.file; at = key.at; len = key.len }

-- the block holds the key's bytes
abbrev pub HoldsKey : Geometry → Key → Block → Type 0
HoldsKey g key b = key.len ≤ bytes_in g.min_block b

-- where files are told, the bytes are all of the key's range of its file
abbrev pub IsContentOf : Option Files → BufferKey → List ℕ → Type 0
IsContentOf files key bytes = (file : List ℕ) → told_bytes files key.file ≡ Some file → bytes ≡ slice_range file key.at (key.at + key.len)

-- where files are told, the bytes are those of the key's file from a place in the range on
abbrev pub AreBytesOf : Option Files → Key → ℕ → ℕ → List ℕ → Type 0
AreBytesOf files key at len bytes = (file : List ℕ) → told_bytes files key.file ≡ Some file
    → bytes ≡ slice_range file (key.at + at) (key.at + at + len)

abbrev pub new_header : NewBuffer → ℕ
new_header new = new.header

abbrev pub new_block : NewBuffer → Block
new_block new = new.block

abbrev pub new_key : NewBuffer → Key
new_key new = new.key

-- the token is a new buffer of the pool's, which the seat claims, with so many cells filled
pub record IsNewOf {W : Type 0} (pool : Pool W) (seat : PoolSeat W) (new : NewBuffer) (done : ℕ) : Type 0 where
  pub header : new_header new < headers_of (sizes_of pool)
  pub block : IsBlockOf pool (new_block new)
  pub key : IsKey (new_key new)
  pub fits : HoldsKey (sizes_of pool) (new_key new) (new_block new)
  pub claim : (mark_at (view seat) (new_header new)).claim ≡ Fresh (new_block new) (Some (buffer_key (new_key new))) done

abbrev pub pin_header : Pin → ℕ
pin_header pin = pin.header

abbrev pub pin_block : Pin → Block
pin_block pin = pin.block

abbrev pub pin_key : Pin → Key
pin_key pin = pin.key

-- the token is a pin of the seat's, whose key the seat knows
pub record IsPinOf {W : Type 0} (pool : Pool W) (seat : PoolSeat W) (pin : Pin) : Type 0 where
  pub header : pin_header pin < headers_of (sizes_of pool)
  pub block : IsBlockOf pool (pin_block pin)
  pub key : IsKey (pin_key pin)
  pub fits : HoldsKey (sizes_of pool) (pin_key pin) (pin_block pin)
  pub pinned : (mark_at (view seat) (pin_header pin)).hold ≡ Pinned (pin_block pin) (Some (buffer_key (pin_key pin)))

-- ---- buffers on their way out

abbrev pub evicting_header : Evicting → ℕ
evicting_header evicting = evicting.header

abbrev pub evicting_block : Evicting → Block
evicting_block evicting = evicting.block

-- the token is an evicted buffer of the pool's, which the seat claims
pub record IsEvictingOf {W : Type 0} (pool : Pool W) (seat : PoolSeat W) (evicting : Evicting) : Type 0 where
  pub header : evicting_header evicting < headers_of (sizes_of pool)
  pub block : IsBlockOf pool (evicting_block evicting)
  pub claim : (mark_at (view seat) (evicting_header evicting)).claim ≡ Gone (evicting_block evicting)

-- What callers see of a range that was fetched.
use Rattle.std.specs.Prelude.{◌≡◌, ℕ, List, length, Option}
use Rattle.buffer_word.specs.declared.key_word.Key.{Key}
use Rattle.pool_model.specs.Content.{Files}
use Rattle.pool_rule.specs.declared.view.View.{View}
use Rattle.pool_rule.specs.declared.word_step.WordStep.TheVariants.{Uncounted}
use Rattle.pool_rule.specs.WordSteps.{IsMade}
use Rattle.buffer_pool.specs.declared.pool.Pool.{Pool}
use Rattle.buffer_pool.specs.declared.seat.PoolSeat.{PoolSeat}
use Rattle.buffer_pool.specs.Pools.{IsContentOf, IsPinOf, buffer_key, pin_header, pin_key, seat_id, sizes_of, view}
use Rattle.buffer_pool.specs.Read.{AreRead}
use Rattle.cache_lookup.specs.Before.{HasHoldMore, IsAsBefore}
use Rattle.range_cache.specs.declared.ranged.Grip.{Grip}
use Rattle.range_cache.specs.declared.ranged.Grip.TheVariants as grip
use Rattle.range_cache.specs.declared.ranged.How.{How}
use Rattle.range_cache.specs.declared.ranged.How.TheVariants.{Hit, Filled, Bypass}
use Rattle.range_cache.specs.declared.ranged.Ranged.{Ranged}

-- a range that was got like that, for which so many buffers were evicted and none was moved
abbrev pub ranged_by : How → ℕ → Grip → Ranged
ranged_by how evicted held = record { how = how; evicted = evicted; moved = 0; held = held }

-- the key of the range
abbrev pub key_of_grip : Grip → Key
key_of_grip (grip.Pin pin) = pin_key pin
key_of_grip (grip.Bypass key) = key

abbrev pub range_key : Ranged → Key
range_key ranged = key_of_grip ranged.held

-- a pin is the seat's
abbrev pub IsGripOf : {W : Type 0} → Pool W → PoolSeat W → Grip → Type 0
IsGripOf pool seat (grip.Pin pin) = IsPinOf pool seat pin
IsGripOf pool seat (grip.Bypass key) = Unit {0}

abbrev pub IsRanged : {W : Type 0} → Pool W → PoolSeat W → Ranged → Type 0
IsRanged pool seat ranged = IsGripOf pool seat ranged.held

-- a hit and what was filled are held by a pin, a bypass by none
abbrev pub GripFits : How → Grip → Type 0
GripFits Hit (grip.Pin pin) = Unit {0}
GripFits Hit (grip.Bypass key) = ⊥
GripFits Filled (grip.Pin pin) = Unit {0}
GripFits Filled (grip.Bypass key) = ⊥
GripFits (Bypass why) (grip.Pin pin) = ⊥
GripFits (Bypass why) (grip.Bypass key) = Unit {0}

-- the seat has the range of that key, for which nothing was evicted or moved
pub record IsRangedFor {W : Type 0} (pool : Pool W) (seat : PoolSeat W) (key : Key) (ranged : Ranged) : Type 0 where
  pub held : IsRanged pool seat ranged
  pub key_is : range_key ranged ≡ key
  pub grip : GripFits ranged.how ranged.held
  pub evicted : ranged.evicted ≡ 0
  pub moved : ranged.moved ≡ 0

abbrev pub IsHit : How → Type 0
IsHit Hit = Unit {0}
IsHit Filled = ⊥
IsHit (Bypass why) = ⊥

-- a pin is one hold more; without one the seat has what it had
abbrev pub LeavesGrip : View → View → Grip → Type 0
LeavesGrip old new (grip.Pin pin) = HasHoldMore old new (pin_header pin)
LeavesGrip old new (grip.Bypass key) = IsAsBefore old new

abbrev pub Leaves : View → View → Ranged → Type 0
Leaves old new ranged = LeavesGrip old new ranged.held

-- what a read asks of the scratch: that of a bypass has the key's length and, where files are told, its bytes
abbrev pub ScratchFits : Option Files → Grip → List ℕ → Type 0
ScratchFits files (grip.Pin pin) scratch = Unit {0}
ScratchFits files (grip.Bypass key) scratch = (length scratch ≡ key.len) × IsContentOf files (buffer_key key) scratch

abbrev pub IsReadable : Option Files → Ranged → List ℕ → Type 0
IsReadable files ranged scratch = ScratchFits files ranged.held scratch

-- ---- the steps of a read and of the end

-- loads of the pin's cells that hold a byte of the part, each once; or none
abbrev pub ReadsGrip : {W : Type 0} → Option Files → Pool W → PoolSeat W → PoolSeat W → Grip → ℕ → List ℕ → Type 0
ReadsGrip files pool old new (grip.Pin pin) at bytes = (found : List ℕ)
    × AreRead files pool (seat_id old) pin at bytes found (view old) (view new)
ReadsGrip files pool old new (grip.Bypass key) at bytes = view new ≡ view old

abbrev pub IsReading : {W : Type 0} → Option Files → Pool W → PoolSeat W → PoolSeat W → Ranged → ℕ → List ℕ → Type 0
IsReading files pool old new ranged at bytes = ReadsGrip files pool old new ranged.held at bytes

-- a pin's count is taken back; or nothing is done
abbrev pub EndsGrip : {W : Type 0} → Option Files → Pool W → PoolSeat W → PoolSeat W → Grip → Type 0
EndsGrip files pool old new (grip.Pin pin) = (found : ℕ)
    × IsMade files (sizes_of pool) (seat_id old) (Uncounted (pin_header pin) found) (view old) (view new)
EndsGrip files pool old new (grip.Bypass key) = view new ≡ view old

abbrev pub IsDone : {W : Type 0} → Option Files → Pool W → PoolSeat W → PoolSeat W → Ranged → Type 0
IsDone files pool old new ranged = EndsGrip files pool old new ranged.held

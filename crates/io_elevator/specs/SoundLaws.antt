-- What a seat holds has one proof at most. Source: this project's own.
use Rattle.std.specs.Prelude.{Option, None, Some}
use Rattle.std.proofs.Props.{props}
use Rattle.buffer_pool.specs.declared.pool.Pool.{Pool}
use Rattle.buffer_pool.specs.declared.seat.PoolSeat.{PoolSeat}
use Rattle.buffer_pool.specs.declared.token.Pin.{Pin}
use Rattle.buffer_pool.specs.Pools.{IsPinOf, IsSeatOf}
use Rattle.range_cache.specs.declared.ranged.Grip.{Grip}
use Rattle.range_cache.specs.declared.ranged.Grip.TheVariants as grip
use Rattle.range_cache.specs.declared.cache.Cache.{Cache}
use Rattle.range_cache.specs.Caches.{pool_of}
use Rattle.range_cache.specs.Ranges.{IsGripOf}
use Rattle.held_ranges.specs.declared.held.Held.{Held}
use Rattle.held_ranges.specs.Moments.{IsHeld, IsHolding, Slots}
use Rattle.io_elevator.specs.Sound.{AreHeld}

module _ {W : Type 0} (pool : Pool W) (seat : PoolSeat W) where
  pin_prop : (pin : Pin) → IsProp (IsPinOf pool seat pin)
  pin_prop pin = hlevel props

  grip_prop : (g : Grip) → IsProp (IsGripOf pool seat g)
  grip_prop (grip.Pin pin) = pin_prop pin
  grip_prop (grip.Bypass key) = hlevel props

  held_prop : (h : Option Held) → IsProp (IsHeld pool seat h)
  held_prop None = hlevel props
  held_prop (Some held) = hlevel (props, grip_prop)

  seat_prop : IsProp (IsSeatOf pool seat)
  seat_prop = hlevel props

  holding_prop : (slots : Slots) → IsProp (IsHolding pool seat slots)
  holding_prop slots = hlevel (props, held_prop, seat_prop)

pub held_once : {W : Type 0} (cache : Cache W) (seat : PoolSeat W) (slots : Slots) → IsProp (AreHeld cache seat slots)
held_once cache seat slots = holding_prop (pool_of cache) seat slots

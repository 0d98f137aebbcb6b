-- What is seen of a desk and of what its slots hold, from one moment to the next. Source: this project's own.
use Rattle.std.specs.Prelude.{◌≡◌, ◌≢◌, ℕ, List, [], ◌∷◌, map, Option, Some, None, slice_index_or, slice_set}
use Rattle.buffer_word.specs.declared.key_word.Key.{Key}
use Rattle.outside.specs.declared.file_ref.FileRange.{FileRange}
use Rattle.pool_model.specs.Content.{Files}
use Rattle.pool_rule.specs.declared.view.Hold.TheVariants.{Free}
use Rattle.pool_rule.specs.Seats.{mark_at}
use Rattle.buffer_pool.specs.declared.pool.Pool.{Pool}
use Rattle.buffer_pool.specs.declared.seat.PoolSeat.{PoolSeat}
use Rattle.buffer_pool.specs.Pools.{IsSeatOf, pin_header, seat_id, view}
use Rattle.ledgers.specs.CacheTotals.{noted}
use Rattle.range_cache.specs.declared.ranged.Grip.{Grip}
use Rattle.range_cache.specs.declared.ranged.Grip.TheVariants as grip
use Rattle.range_cache.specs.declared.ranged.How.{How}
use Rattle.range_cache.specs.declared.ranged.How.TheVariants.{Hit, Filled, Bypass}
use Rattle.range_cache.specs.declared.ranged.Ranged.{Ranged}
use Rattle.range_cache.specs.Caches.{pool_of}
use Rattle.range_cache.specs.Fetches.{Reads}
use Rattle.range_cache.specs.Ranges.{IsDone, IsHit, IsRanged, IsReading, range_key}
use Rattle.evicting_fetch.specs.Evictors.{IsEvictorOf}
use Rattle.evicting_fetch.specs.Fetches.{FailsToFetch, Fetches}
use Rattle.evicting_fetch.specs.Victims.{TakesVictims}
use Rattle.held_ranges.specs.declared.desk.Desk.{Desk}
use Rattle.held_ranges.specs.declared.held.Held.{Held}
use Rattle.held_ranges.specs.Deeds.{Deed, gets, misses, drops, how_of, Keys}

-- what slots hold
abbrev pub Slots : Type 0
Slots = List (Option Held)

abbrev pub slot_at : Slots → ℕ → Option Held
slot_at slots slot = slice_index_or slots slot None

-- none holds anything
abbrev pub AreEmpty : Slots → Type 0
AreEmpty slots = (slot : ℕ) → slot_at slots slot ≡ None

abbrev pub key_of : Option Held → Option Key
key_of None = None
key_of (Some held) = Some held.key

abbrev pub keys_of : Slots → Keys
keys_of slots = map key_of slots

-- the header by which a range is held, if it is pinned
abbrev pub grip_header : Grip → Option ℕ
grip_header (grip.Pin pin) = Some (pin_header pin)
grip_header (grip.Bypass key) = None

abbrev pub held_header : Option Held → Option ℕ
held_header None = None
held_header (Some held) = grip_header held.ranged.held

abbrev pub key_range : Key → FileRange
key_range key = record { file = key.file; at = key.at; len = key.len }

-- the references of a desk are the same
pub record SameDesk {W S : Type 0} (old new : Desk W S) : Type 0 where
  pub cache : new.cache.now ≡ old.cache.now
  pub seat : new.seat.ghost_name ≡ old.seat.ghost_name
  pub evictor : new.evictor.ghost_name ≡ old.evictor.ghost_name
  pub store : new.store.ghost_name ≡ old.store.ghost_name
  pub totals : new.totals.ghost_name ≡ old.totals.ghost_name
  pub id : seat_id new.seat.now ≡ seat_id old.seat.now

-- after a hit the range was read out of its buffer, whole; else nothing was done
abbrev pub IsReadOut : {W : Type 0} → Option Files → Pool W → PoolSeat W → PoolSeat W → Ranged → How → Type 0
IsReadOut files pool old new ranged Hit = (bytes : List ℕ) × IsReading files pool old new ranged 0 bytes
IsReadOut files pool old new ranged Filled = new ≡ old
IsReadOut files pool old new ranged (Bypass why) = new ≡ old

module _ (files : Option Files) {W S : Type 0} (reads : S → Option (List FileRange)) where
  -- A range was fetched, with that answer, and after a hit read out. It is counted.
  pub record IsGot (key : Key) (ranged : Ranged) (old new : Desk W S) : Type 0 where
    pub same : SameDesk old new
    pub between : PoolSeat W
    pub id : seat_id between ≡ seat_id old.seat.now
    pub fetched : Fetches files (pool_of old.cache.now) old.seat.now between key ranged
    pub victims : TakesVictims files (pool_of old.cache.now) old.seat.now between key old.evictor.now new.evictor.now ranged.how
    pub kept : IsHit ranged.how → new.evictor.now ≡ old.evictor.now
    pub unmoved : ranged.moved ≡ 0
    pub out : IsReadOut files (pool_of old.cache.now) between new.seat.now ranged ranged.how
    pub read : Reads (reads old.store.now) (reads new.store.now) (key_range key) ranged.how
    pub counted : new.totals.now ≡ noted (how_of ranged.how) ranged.evicted ranged.moved old.totals.now

  -- the read of a range failed
  pub record IsMissed (key : Key) (old new : Desk W S) : Type 0 where
    pub same : SameDesk old new
    pub failed : FailsToFetch files (pool_of old.cache.now) old.seat.now new.seat.now key
    pub kept : new.evictor.now ≡ old.evictor.now
    pub unread : reads new.store.now ≡ reads old.store.now
    pub uncounted : new.totals.now ≡ old.totals.now

  -- a range was let go
  pub record IsDropped (held : Held) (old new : Desk W S) : Type 0 where
    pub same : SameDesk old new
    pub done : IsDone files (pool_of old.cache.now) old.seat.now new.seat.now held.ranged
    pub kept : new.evictor.now ≡ old.evictor.now
    pub unread : new.store.now ≡ old.store.now
    pub uncounted : new.totals.now ≡ old.totals.now

-- a desk, and what its slots hold
pub record Moment (W S : Type 0) : Type 0 where
  pub desk : Desk W S
  pub slots : Slots

abbrev pub moment : {W S : Type 0} → Desk W S → Slots → Moment W S
moment desk slots = record { desk = desk; slots = slots }

module _ (files : Option Files) {W S : Type 0} (reads : S → Option (List FileRange)) where
  -- a deed, at the pool and the store
  abbrev pub Does : Deed → Moment W S → Moment W S → Type 0
  Does (gets slot key) m n =
      (ranged : Ranged) × IsGot files reads key ranged m.desk n.desk
      × (n.slots ≡ slice_set m.slots slot (Some (record { key = key; ranged = ranged })))
  Does (misses key) m n = IsMissed files reads key m.desk n.desk × (n.slots ≡ m.slots)
  Does (drops slot key) m n =
      (held : Held) × (slot_at m.slots slot ≡ Some held) × (held.key ≡ key) × IsDropped files reads held m.desk n.desk
      × (n.slots ≡ slice_set m.slots slot None)

  -- deeds, one after the other
  abbrev pub Ran : Moment W S → List Deed → Moment W S → Type 0
  Ran m [] n = n ≡ m
  Ran m (d ∷ ds) n = (k : Moment W S) × Does d m k × Ran k ds n

-- ---- what a seat holds

-- what a slot holds is the seat's, of its key
abbrev pub IsHeld : {W : Type 0} → Pool W → PoolSeat W → Option Held → Type 0
IsHeld pool seat None = Unit {0}
IsHeld pool seat (Some held) = IsRanged pool seat held.ranged × (range_key held.ranged ≡ held.key)

-- The seat is the cache's. What slots hold is its, by pins of different headers, and it has no other pin.
pub record IsHolding {W : Type 0} (pool : Pool W) (seat : PoolSeat W) (slots : Slots) : Type 0 where
  pub seat_of : IsSeatOf pool seat
  pub each : (slot : ℕ) → IsHeld pool seat (slot_at slots slot)
  pub only : (header : ℕ) → ((slot : ℕ) → held_header (slot_at slots slot) ≢ Some header) → (mark_at (view seat) header).hold ≡ Free
  pub apart : (slot other header : ℕ) → held_header (slot_at slots slot) ≡ Some header → held_header (slot_at slots other) ≡ Some header
      → slot ≡ other

-- so is the desk's, and its evictor is one of the cache's
pub record DeskHolds {W S : Type 0} (m : Moment W S) : Type 0 where
  pub holding : IsHolding (pool_of m.desk.cache.now) m.desk.seat.now m.slots
  pub evictor : IsEvictorOf (pool_of m.desk.cache.now) m.desk.evictor.now

-- How the counts of a desk grow with the reads of its store. Source: this project's own.
use Rattle.std.specs.Prelude.{◌≡◌, ◌≤◌, ℕ, ◌+◌, List, length, Option, ◌⊎◌}
use Rattle.outside.specs.declared.file_ref.FileRange.{FileRange}
use Rattle.outside.specs.Told.{Extended}
use Rattle.pool_model.specs.Content.{Files}
use Rattle.pool_rule.specs.declared.word_step.WordStep.{WordStep}
use Rattle.buffer_pool.specs.declared.pool.Pool.{Pool}
use Rattle.buffer_pool.specs.declared.seat.PoolSeat.{PoolSeat}
use Rattle.buffer_pool.specs.Made.{AreMade}
use Rattle.buffer_pool.specs.Pools.{seat_id, sizes_of, view}
use Rattle.cache_placement.specs.Publications.{publications}
use Rattle.cache_room.specs.Touchings.{touchings}
use Rattle.cache_room.specs.Tried.{releases}
use Rattle.range_cache.specs.Caches.{pool_of}
use Rattle.ledgers.specs.declared.cache_totals.CacheTotals.{CacheTotals}
use Rattle.held_ranges.specs.Deeds.{Deed}
use Rattle.held_ranges.specs.Moments.{Moment, Ran}

-- where a count stops
abbrev pub last : ℕ
last = 0xFFFF_FFFF_FFFF_FFFF

-- fills and bypasses grew by so many, or one of the two counts stands at its end
abbrev pub GrewBy : CacheTotals → CacheTotals → ℕ → Type 0
GrewBy old new count = (new.filled + new.bypass ≡ old.filled + old.bypass + count) ⊎ (new.filled ≡ last) ⊎ (new.bypass ≡ last)

-- the store's reads gained some ranges, where it tells them afterwards, and fills and bypasses grew by their number
abbrev pub IsCounted : {W S : Type 0} → (S → Option (List FileRange)) → Moment W S → Moment W S → Type 0
IsCounted reads m n =
    (items : List FileRange) × Extended (reads m.desk.store.now) (reads n.desk.store.now) items
    × GrewBy m.desk.totals.now n.desk.totals.now (length items)

abbrev pub ReadsAreCounted : (W : Type 0) {S : Type 0} → Option Files → (S → Option (List FileRange)) → Type 0
ReadsAreCounted W {S} files reads = (m n : Moment W S) (deeds : List Deed) → Ran files reads m deeds n → IsCounted reads m n

-- ---- and with the steps of its seat

-- fills grew by so many, or stand at their end
abbrev pub FilledBy : CacheTotals → CacheTotals → ℕ → Type 0
FilledBy old new count = (new.filled ≡ old.filled + count) ⊎ (new.filled ≡ last)

-- evictions grew by so many, or stand at their end
abbrev pub EvictedBy : CacheTotals → CacheTotals → ℕ → Type 0
EvictedBy old new count = (new.evicted ≡ old.evicted + count) ⊎ (new.evicted ≡ last)

-- hits grew by so many less so many, or stand at their end
abbrev pub HitBy : CacheTotals → CacheTotals → ℕ → ℕ → Type 0
HitBy old new count less = (new.hit + less ≡ old.hit + count) ⊎ (new.hit ≡ last)

-- The seat made these steps, one after the other and no others. Fills grew by the buffers that they published, hits by the touches of
-- other buffers, and evictions by the headers that they released; nothing was moved.
pub record AreStepsCounted (files : Option Files) {W : Type 0} (pool : Pool W) (old new : PoolSeat W) (a b : CacheTotals) : Type 0 where
  pub steps : List WordStep
  pub made : AreMade files (sizes_of pool) (seat_id old) steps (view old) (view new)
  pub same : seat_id new ≡ seat_id old
  pub hit : HitBy a b (touchings steps) (publications steps)
  pub filled : FilledBy a b (publications steps)
  pub evicted : EvictedBy a b (releases steps)
  pub moved : a.moved ≤ last → b.moved ≡ a.moved

-- so it is from one moment to the next
abbrev pub AreSeatsSteps : {W S : Type 0} → Option Files → Moment W S → Moment W S → Type 0
AreSeatsSteps files m n =
    AreStepsCounted files (pool_of m.desk.cache.now) m.desk.seat.now n.desk.seat.now m.desk.totals.now n.desk.totals.now

abbrev pub StepsAreCounted : (W : Type 0) {S : Type 0} → Option Files → (S → Option (List FileRange)) → Type 0
StepsAreCounted W {S} files reads = (m n : Moment W S) (deeds : List Deed) → Ran files reads m deeds n → AreSeatsSteps files m n

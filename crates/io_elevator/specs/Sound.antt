-- What holds of an elevator at every moment: of its seat and slots, and of its streams. Source: this project's own.
use Rattle.std.specs.Prelude.{◌≡◌, ◌<◌, ℕ, ◌+◌, List, length, map, Option, option_map, slice_index_or, slice_range}
use Rattle.outside.specs.Files.{bytes_of}
use Rattle.pool_model.specs.Content.{Files}
use Rattle.pool_rule.specs.declared.geometry.Geometry.{Geometry}
use Rattle.buffer_pool.specs.declared.seat.PoolSeat.{PoolSeat}
use Rattle.range_cache.specs.declared.cache.Cache.{Cache}
use Rattle.range_cache.specs.Caches.{pool_of}
use Rattle.held_ranges.specs.Moments.{AreEmpty, IsHolding, Slots}
use Rattle.cut_streams.specs.declared.cursor.Cursor.{Cursor}
use Rattle.cut_streams.specs.Streams.{closed}
use Rattle.cut_streams.specs.Visits.{chunk_of}

-- what is left of a stream, where its file is told
abbrev pub rest_at : Option Files → Cursor → Option (List ℕ)
rest_at files c =
    option_map (λ (bytes : List ℕ). slice_range bytes (c.range.at + c.taken) (c.range.at + c.range.len)) (bytes_of files c.range.file)

-- a stream as it is seen: where it stands, and the chunk by which it is cut
pub record StreamOf : Type 0 where
  pub cursor : Cursor
  pub chunk : ℕ

-- the same stream, of which nothing is left
abbrev pub shut : StreamOf → StreamOf
shut s = record { cursor = closed; chunk = s.chunk }

-- where the streams stand
abbrev pub cursors_of : List StreamOf → List Cursor
cursors_of streams = map (λ (s : StreamOf). s.cursor) streams

-- each stream is cut by that chunk
abbrev pub AreCutBy : ℕ → List StreamOf → Type 0
AreCutBy chunk streams = (i : ℕ) (d : StreamOf) → i < length streams → (slice_index_or streams i d).chunk ≡ chunk

-- Scratch in which nothing is held: 65 slots, and 64 streams that are cut by the chunk of a cache.
pub record IsFresh (g : Geometry) (slots : Slots) (streams : List StreamOf) : Type 0 where
  pub slots_are : length slots ≡ 65
  pub empty : AreEmpty slots
  pub streams_are : length streams ≡ 64
  pub cut : AreCutBy (chunk_of g) streams

-- the seat is that cache's, and has just the pins of what those slots hold
abbrev pub AreHeld : {W : Type 0} → Cache W → PoolSeat W → Slots → Type 0
AreHeld cache seat slots = IsHolding (pool_of cache) seat slots

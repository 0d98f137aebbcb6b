-- What scans do to what they go through. Source: this project's own.
use Rattle.std.specs.Prelude.{◌≡◌, List, [], ◌∷◌, ◌++◌, Option, None, Some, Result, Ok, Err, replicate}
use Rattle.outside.specs.declared.failed.NoMemory.{NoMemory}
use Rattle.outside.specs.declared.file_ref.FileRange.{FileRange}
use Rattle.outside.specs.declared.file_ref.FileRef.{FileRef}
use Rattle.outside.specs.Files.{Files, file_named}
use Rattle.buffer_pool.specs.declared.seat.PoolSeat.{PoolSeat}
use Rattle.buffer_pool.specs.Pools.{sizes_of}
use Rattle.ledgers.specs.declared.cache_totals.CacheTotals.{CacheTotals}
use Rattle.range_cache.specs.declared.cache.Cache.{Cache}
use Rattle.range_cache.specs.Caches.{pool_of}
use Rattle.evicting_fetch.specs.declared.evictor.Evictor.{Evictor}
use Rattle.orc_streams.specs.Acts.{Act, closes}
use Rattle.held_ranges.specs.declared.desk.Desk.{Desk}
use Rattle.held_ranges.specs.Deeds.{Deed}
use Rattle.held_ranges.specs.Moments.{Moment, Ran, Slots, keys_of, moment}
use Rattle.cut_streams.specs.Visits.{chunk_of}
use Rattle.io_elevator.specs.Books.{Books, Fits}
use Rattle.fragment_plan.specs.declared.fragment.Scan.{Scan}
use Rattle.fragment_outcome.specs.declared.outcome.Outcome.{Outcome}
use Rattle.fragment_outcome.specs.declared.failure.Failure.TheVariants as failure
use Rattle.fragment_meaning.specs.ScanOutcome.{failed}
use Rattle.fragment_scan.specs.Scanned.{ScanActs}

-- what a store tells of its reads
abbrev pub Log : Type 0
Log = Option (List FileRange)

-- What scans through a cache change: a seat of it, what decides its evictions, what the store tells of its reads, and the counts.
pub record Standing (W : Type 0) : Type 0 where
  pub seat : PoolSeat W
  pub evictor : Evictor
  pub reads : Log
  pub totals : CacheTotals

abbrev pub standing : {W : Type 0} → PoolSeat W → Evictor → Log → CacheTotals → Standing W
standing seat evictor reads totals = record { seat = seat; evictor = evictor; reads = reads; totals = totals }

-- slots that hold nothing, as many as an elevator has
abbrev pub no_slots : Slots
no_slots = replicate 65 None

-- the same at a desk with these references, beside those slots; of the store stands there what it tells
abbrev pub at_desk : {W : Type 0} → Desk W Log → Standing W → Moment W Log
at_desk d s =
    moment
    (record {
      cache = d.cache;
      seat = record { ref_ptr = d.seat.ref_ptr; ghost_name = d.seat.ghost_name; now = s.seat };
      evictor = record { ref_ptr = d.evictor.ref_ptr; ghost_name = d.evictor.ghost_name; now = s.evictor };
      store = record { ref_ptr = d.store.ref_ptr; ghost_name = d.store.ghost_name; now = s.reads };
      totals = record { ref_ptr = d.totals.ref_ptr; ghost_name = d.totals.ghost_name; now = s.totals };
    })
    no_slots

-- By these deeds and no others: from nothing held to nothing held, ranges were got through that cache, counted, and let go.
pub record RanThrough {W : Type 0} (files : Option Files) (cache : Cache W) (deeds : List Deed) (old new : Standing W) : Type 0 where
  pub desk : Desk W Log
  pub cache_is : desk.cache.now ≡ cache
  pub ran : Ran files (λ (log : Log). log) (at_desk desk old) deeds (at_desk desk new)

-- A file was scanned through that cache: by the acts of the scan and then the closing of all streams, and by deeds that fit these acts.
pub record ScansFileThrough {W : Type 0} (files : Option Files) (cache : Cache W) (file : FileRef) (scan : Scan) (old new : Standing W)
    (answer : Result Outcome NoMemory) : Type 0 where
  pub acts : List Act
  pub are : ScanActs files file scan acts answer
  pub deeds : List Deed
  pub before : Books
  pub after : Books
  pub unheld : before.keys ≡ keys_of no_slots
  pub fits : Fits (chunk_of (sizes_of (pool_of cache))) before (acts ++ closes ∷ []) deeds after
  pub ran : RanThrough files cache deeds old new

-- What a scan did, by its answer: its file was found by its name, and scanned; or it wasn't found, or memory was refused first, and
-- nothing was done.
pub data ScansThrough {W : Type 0} (files : Option Files) (cache : Cache W) (scan : Scan) (old new : Standing W) :
    Result Outcome NoMemory → Type 0 where
  found : (file : FileRef) (answer : Result Outcome NoMemory) → ((told : Files) → files ≡ Some told → Some file ≡ file_named scan.file told)
      → ScansFileThrough files cache file scan old new answer → ScansThrough files cache scan old new answer
  no_file : new ≡ old → ScansThrough files cache scan old new (Ok (failed failure.NoFile))
  read_fault : new ≡ old → ScansThrough files cache scan old new (Ok (failed failure.ReadFault))
  refused : (why : NoMemory) → new ≡ old → ScansThrough files cache scan old new (Err why)

-- What a scanner through a cache keeps over its scans. Source: this project's own.
use Rattle.std.specs.Prelude.{◌≡◌, refl, ℕ, List, Option, Some, Ok}
use Rattle.std.proofs.Common.{◌∙◌, subst}
use Rattle.outside.specs.declared.file_ref.FileRange.{FileRange}
use Rattle.outside.specs.declared.store.Store.{Ghosts}
use Rattle.pool_model.specs.Content.{Files}
use Rattle.range_cache.specs.declared.cache.Cache.{Cache}
use Rattle.range_cache.specs.Caches.{pool_of}
use Rattle.held_ranges.specs.Counts.{AreStepsCounted}
use Rattle.fragment_plan.specs.declared.fragment.Fragment.{Fragment}
use Rattle.fragment_plan.specs.declared.fragment.Scan.{Scan}
use Rattle.fragment_outcome.specs.declared.outcome.Outcome.{Outcome}
use Rattle.fragment_folds.specs.Scans.{scan_at}
use Rattle.scan_inline.specs.Counts.{AreCounted}
use Rattle.scan_inline.specs.CountLaws.{counted_none, counted_then, stepped_none, stepped_then}
use Rattle.scan_inline.specs.Through.{ScansThrough, Standing, standing}
use Rattle.data_path.specs.declared.cache_scanner.CacheScanner.{CacheScanner}

module _ {W S : Type 0} {G : Ghosts S W} (files : Option Files) (reads : S → Option (List FileRange)) where
  -- what stands behind its references
  abbrev pub standing_of : CacheScanner W S G → Standing W
  standing_of r = standing r.seat.now r.evictor.now (reads r.store.now) r.totals.now

  -- it scanned for a fragment, with that outcome, through its cache
  pub record HasScanned (first : CacheScanner W S G) (plan : List Fragment) (number : ℕ) (o : Outcome) (last : CacheScanner W S G) : Type 0
    where
      pub cache : last.cache.now ≡ first.cache.now
      pub did : (scan : Scan) → scan_at plan number ≡ Some scan
          → ScansThrough files first.cache.now scan (standing_of first) (standing_of last) (Ok o)

  -- its cache and its references are the same, and what it counted is counted of the store's reads and of its seat's steps
  pub record IsSameScanner (first last : CacheScanner W S G) : Type 0 where
    pub cache : last.cache.now ≡ first.cache.now
    pub seat : last.seat.ghost_name ≡ first.seat.ghost_name
    pub evictor : last.evictor.ghost_name ≡ first.evictor.ghost_name
    pub store : last.store.ghost_name ≡ first.store.ghost_name
    pub scratch : last.scratch.ghost_name ≡ first.scratch.ghost_name
    pub totals : last.totals.ghost_name ≡ first.totals.ghost_name
    pub counted : AreCounted (reads first.store.now) (reads last.store.now) first.totals.now last.totals.now
    pub steps : AreStepsCounted files (pool_of first.cache.now) first.seat.now last.seat.now first.totals.now last.totals.now

  pub same_scanner : (r : CacheScanner W S G) → IsSameScanner r r
  same_scanner r =
      record {
        cache = refl;
        seat = refl;
        evictor = refl;
        store = refl;
        scratch = refl;
        totals = refl;
        counted = counted_none (reads r.store.now) r.totals.now r.fit;
        steps = stepped_none files (pool_of r.cache.now) r.seat.now r.totals.now;
      }

  pub same_on : (first between last : CacheScanner W S G) → IsSameScanner first between → IsSameScanner between last
      → IsSameScanner first last
  same_on first between last p q =
      let P : Cache W → Type 0 =
      λ c. AreStepsCounted files (pool_of c) between.seat.now last.seat.now between.totals.now last.totals.now in
      record {
        cache = q.cache ∙ p.cache;
        seat = q.seat ∙ p.seat;
        evictor = q.evictor ∙ p.evictor;
        store = q.store ∙ p.store;
        scratch = q.scratch ∙ p.scratch;
        totals = q.totals ∙ p.totals;
        counted = counted_then (reads first.store.now) (reads between.store.now) (reads last.store.now) first.totals.now between.totals.now
            last.totals.now p.counted q.counted;
        steps = stepped_then files (pool_of first.cache.now) first.seat.now between.seat.now last.seat.now (reads between.store.now)
            (reads last.store.now) first.totals.now between.totals.now last.totals.now p.steps (subst P p.cache q.steps) q.counted;
      }

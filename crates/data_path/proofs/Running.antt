-- A run's scans by a scanner are scans through its cache.
use Rattle.std.proofs.Common.{◌≡◌, ℕ, ◌+◌, List, [], ◌∷◌, refl, sym, ap, ◌∙◌, subst}
use Rattle.std.specs.Prelude.{Option, None, Some, Result, Ok, Err, IfOk, IsSome}
use Rattle.outside.specs.declared.failed.NoMemory.{NoMemory}
use Rattle.outside.specs.declared.store.Store.{Ghosts}
use Rattle.pool_model.specs.Content.{Files}
use Rattle.range_cache.specs.declared.cache.Cache.{Cache}
use Rattle.fragment_plan.specs.declared.fragment.Fragment.{Fragment}
use Rattle.fragment_plan.specs.declared.fragment.Scan.{Scan}
use Rattle.fragment_outcome.specs.declared.outcome.Outcome.{Outcome}
use Rattle.fragment_folds.specs.Scans.{scan_at}
use Rattle.plan_run.specs.Scanned.{AreSteps, IsStep}
use Rattle.scan_inline.specs.Through.{Log, ScansThrough}
use Rattle.data_path.specs.declared.cache_scanner.CacheScanner.{CacheScanner}
use Rattle.data_path.specs.Geometries.{RunsThrough, ScansAt}
use Rattle.data_path.specs.Scanners.{HasScanned, standing_of}

module _ {W S : Type 0} {G : Ghosts S W} (files : Option Files) (reads : S → Log) where
  -- a scan through its cache is one of the scanner's
  pub if_scanned : (first last : CacheScanner W S G) (plan : List Fragment) (number : ℕ) (answer : Result Outcome NoMemory)
      → last.cache.now ≡ first.cache.now
      → ((scan : Scan) → scan_at plan number ≡ Some scan
      → ScansThrough files first.cache.now scan (standing_of files reads first) (standing_of files reads last) answer)
      → IfOk answer (λ o. HasScanned files reads first plan number o last)
  if_scanned first last plan number (Ok o) same did = record { cache = same; did = did }
  if_scanned first last plan number (Err why) same did = tt

module _ {W S : Type 0} {G : Ghosts S W} (files : Option Files) (reads : S → Log) (plan : List Fragment) (cache : Cache W) where
  by_scan : (found : Option Scan) (number : ℕ) (o : Outcome) (s t : CacheScanner W S G) → scan_at plan number ≡ found
      → s.cache.now ≡ cache → IsStep (HasScanned files reads) plan number o s t
      → (t.cache.now ≡ cache)
      × IsStep (ScansAt files cache) plan number o (standing_of files reads s) (standing_of files reads t)
  by_scan None number o s t is here step =
      let same = step.merge is in (
        ap (λ (r : CacheScanner W S G). r.cache.now) same ∙ here,
        record {
          scan = λ some. (let no : IsSome {T = Scan} None = subst (λ (found : Option Scan). IsSome found) is some in absurd cc);
          merge = λ none. ap (λ (r : CacheScanner W S G). standing_of files reads r) same;
        },
      )
  by_scan (Some scan) number o s t is here step =
      let done = step.scan (subst (λ (found : Option Scan). IsSome found) (sym is) refl) in (
        done.cache ∙ here,
        record {
          scan = λ some other at.
              subst (λ (c : Cache W). ScansThrough files c other (standing_of files reads s) (standing_of files reads t) (Ok o)) here
              (done.did other at);
          merge = λ none. absurd cc;
        },
      )

  pub runs_through : (outcomes : List Outcome) (number : ℕ) (s t : CacheScanner W S G) → s.cache.now ≡ cache
      → AreSteps (HasScanned files reads) plan number outcomes s t
      → RunsThrough files cache plan number outcomes (standing_of files reads s) (standing_of files reads t)
  runs_through [] number s t here same = ap (λ (r : CacheScanner W S G). standing_of files reads r) same
  runs_through (o ∷ os) number s t here steps =
      let mid = steps.0 in
      let one = by_scan (scan_at plan number) number o s mid refl here steps.1 in
      (standing_of files reads mid, one.1, runs_through os (number + 1) mid t one.0 steps.2)

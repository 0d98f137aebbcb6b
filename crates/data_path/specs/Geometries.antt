-- The cache that a run goes through. Source: this project's own.
use Rattle.std.specs.Prelude.{◌≡◌, ℕ, List, [], length, Option, None, Some, Ok, replicate}
use Rattle.pool_model.specs.Content.{Files}
use Rattle.pool_rule.specs.declared.geometry.Geometry.{Geometry}
use Rattle.pool_rule.specs.Layout.{headers_of}
use Rattle.pool_rule.specs.Rule.{first_words}
use Rattle.pool_rule.specs.Seats.{HasNothing}
use Rattle.lrfu_policy.specs.Policy.{Ranking}
use Rattle.buffer_pool.specs.Pools.{IsSeatOf, sizes_of, view}
use Rattle.ledgers.specs.declared.cache_totals.CacheTotals.{CacheTotals}
use Rattle.command_line.specs.declared.settings.Options.{Options}
use Rattle.range_cache.specs.declared.cache.Cache.{Cache}
use Rattle.range_cache.specs.Caches.{half_life_of, pool_of}
use Rattle.evicting_fetch.specs.Evictors.{policy_of}
use Rattle.fragment_plan.specs.declared.fragment.Fragment.{Fragment}
use Rattle.fragment_plan.specs.declared.fragment.Scan.{Scan}
use Rattle.fragment_outcome.specs.declared.outcome.Outcome.{Outcome}
use Rattle.fragment_folds.specs.Scans.{scan_at}
use Rattle.held_ranges.specs.Counts.{AreStepsCounted}
use Rattle.plan_run.specs.Scanned.{AreSteps}
use Rattle.scan_inline.specs.Through.{Log, ScansThrough, Standing}
use Rattle.data_path.specs.RunText.{no_totals}

-- the options' sizes
abbrev pub geometry_of : Options → Geometry
geometry_of options = record { min_block = options.min_block; arenas = options.arenas; sets = options.sets }

-- a policy of that half-life for a cache of those sizes, which knows nothing of its headers
abbrev pub new_policy : ℕ → Geometry → Ranking
new_policy half_life g = record { half_life = half_life; entries = replicate (headers_of g) None }

-- A cache of the options' geometry and half-life, and what a run begins with: its one seat, which has the numbers of all seats, knows
-- the first words, has nothing and has made no step; a policy that knows nothing; a store that tells these reads; and no count.
pub record IsNewFor {W : Type 0} (options : Options) (log : Log) (cache : Cache W) (s : Standing W) : Type 0 where
  pub sizes : sizes_of (pool_of cache) ≡ geometry_of options
  pub half_life : half_life_of cache ≡ options.half_life
  pub seat : IsSeatOf (pool_of cache) s.seat
  pub numbers : length (view s.seat).numbers ≡ 1
  pub words : (view s.seat).known ≡ Some (first_words (geometry_of options))
  pub nothing : HasNothing (view s.seat)
  pub trail : (view s.seat).trail ≡ []
  pub policy : policy_of s.evictor ≡ new_policy options.half_life (geometry_of options)
  pub reads : s.reads ≡ log
  pub totals : s.totals ≡ no_totals

-- a fragment that is a scan was scanned through that cache, with that outcome
abbrev pub ScansAt : {W : Type 0} → Option Files → Cache W → Standing W → List Fragment → ℕ → Outcome → Standing W → Type 0
ScansAt files cache old plan number o new =
    (scan : Scan) → scan_at plan number ≡ Some scan → ScansThrough files cache scan old new (Ok o)

-- The fragments of a plan from a number on had these outcomes, one after the other: each scan by acts and deeds through that cache.
abbrev pub RunsThrough : {W : Type 0} → Option Files → Cache W → List Fragment → ℕ → List Outcome → Standing W → Standing W → Type 0
RunsThrough files cache plan number outcomes old new = AreSteps (ScansAt files cache) plan number outcomes old new

-- The counts are those that the scans of a plan, with these outcomes, had at their end: through a cache that was new for the options, and
-- from a new seat, a new policy, the store's reads before the run and no count on to the store's reads after it. They are counted of the
-- seat's steps.
pub record IsThrough (W : Type 0) (files : Option Files) (log log' : Log) (options : Options) (plan : List Fragment)
    (outcomes : List Outcome) (totals : CacheTotals) : Type 0 where
  pub cache : Cache W
  pub first : Standing W
  pub last : Standing W
  pub made : IsNewFor options log cache first
  pub ran : RunsThrough files cache plan 0 outcomes first last
  pub steps : AreStepsCounted files (pool_of cache) first.seat last.seat no_totals totals
  pub reads : last.reads ≡ log'
  pub totals_are : last.totals ≡ totals

use Rattle.std.proofs.Common.{◌≡◌, ℕ, ap, length, refl, sym, subst, ◌∙◌}
use Rattle.pool_rule.specs.declared.geometry.Geometry.{Geometry}
use Rattle.pool_rule.specs.Seats.{HasNothing}
use Rattle.buffer_pool.specs.declared.seat.PoolSeat.{PoolSeat}
use Rattle.buffer_pool.specs.Pools.{IsSeatOf, sizes_of, view}
use Rattle.range_cache.specs.Caches.{pool_of}
use Rattle.scan_inline.specs.Through.{standing}
use Rattle.data_path.specs.Geometries.{IsNewFor, new_policy}
use Rattle.data_path.specs.RunText.{no_totals}
use Rattle.data_path.proofs.inline.run_over.Goals as goal

pub returns-in-Ok-outcomes-clause-through : goal.returns-in-Ok-outcomes-clause-through
returns-in-Ok-outcomes-clause-through g c =
    let options = c.args.options.now in
    let cache = c.in-Ok.made.0 in
    let seat = c.new-2.new.seat in
    let after = c.run_through-outcomes.new in
    let made = c.in-Ok.ensures in
    let same : seat ≡ c.in-Ok.made.1 = c.new-2.ensures.seat in
    let first = standing seat c.in-Ok-new.evictor (g.S.Store.reads c.args.last.now) no_totals in
    let new : IsNewFor options (g.S.Store.reads c.args.last.now) cache first =
    record {
      sizes = made.sizes;
      half_life = made.half_life;
      seat = subst (λ (s : PoolSeat _). IsSeatOf (pool_of cache) s) (sym same) made.seat;
      numbers = ap (λ (s : PoolSeat _). length (view s).numbers) same ∙ made.numbers;
      words = ap (λ (s : PoolSeat _). (view s).known) same ∙ made.words;
      nothing = subst (λ (s : PoolSeat _). HasNothing (view s)) (sym same) made.nothing;
      trail = ap (λ (s : PoolSeat _). (view s).trail) same ∙ made.trail;
      policy = c.in-Ok-new.ensures.policy
          ∙ ap (λ (h : ℕ). new_policy h (sizes_of (pool_of cache))) made.half_life
          ∙ ap (λ (geometry : Geometry). new_policy options.half_life geometry) made.sizes;
      reads = refl;
      totals = refl;
    } in
    record {
      cache = cache;
      first = first;
      last = standing after.seat after.evictor (g.S.Store.reads after.last) after.totals;
      made = new;
      ran = c.in-Ok-outcomes.ensures.ran;
      steps = c.run_through-outcomes.ensures.steps;
      reads = refl;
      totals_are = refl;
    }

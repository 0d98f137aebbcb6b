-- How deeds of an elevator are those of a scan. Source: this project's own.
use Rattle.std.proofs.Common.{◌≡◌, List, [], ◌∷◌, refl, sym, ap, ◌∙◌, subst}
use Rattle.std.specs.Prelude.{Option}
use Rattle.pool_model.specs.Content.{Files}
use Rattle.buffer_pool.specs.declared.seat.PoolSeat.{PoolSeat}
use Rattle.ledgers.specs.declared.cache_totals.CacheTotals.{CacheTotals}
use Rattle.range_cache.specs.declared.cache.Cache.{Cache}
use Rattle.range_cache.specs.Caches.{pool_of}
use Rattle.range_cache.specs.Ranges.{IsDone}
use Rattle.evicting_fetch.specs.declared.evictor.Evictor.{Evictor}
use Rattle.evicting_fetch.specs.Fetches.{FailsToFetch, Fetches}
use Rattle.evicting_fetch.specs.Victims.{TakesVictims}
use Rattle.held_ranges.specs.declared.desk.Desk.{Desk}
use Rattle.held_ranges.specs.Deeds.{Deed, drops, gets, misses}
use Rattle.held_ranges.specs.Moments.{Does, IsReadOut, Moment, Ran, Slots, moment}
use Rattle.scan_inline.specs.Through.{Log, RanThrough, Standing, at_desk, no_slots, standing}

-- what a store tells stands in its place
abbrev pub told : Log → Log
told log = log

module _ (files : Option Files) {W S : Type 0} (reads : S → Log) where
  -- what is seen of a moment
  abbrev pub standing_at : Moment W S → Standing W
  standing_at m = standing m.desk.seat.now m.desk.evictor.now (reads m.desk.store.now) m.desk.totals.now

  -- the same at another desk, with its slots
  abbrev pub seen : Desk W Log → Moment W S → Moment W Log
  seen d m = moment (at_desk d (standing_at m)).desk m.slots

  does_seen : (n : Desk W Log) (d : Deed) (m k : Moment W S) → m.desk.cache.now ≡ n.cache.now → Does files reads d m k
      → Does files told d (seen n m) (seen n k) × (k.desk.cache.now ≡ n.cache.now)
  does_seen n (gets slot key) m k e x =
      let g = x.1 in (
        (
          x.0,
          record {
            same = record { cache = refl; seat = refl; evictor = refl; store = refl; totals = refl; id = g.same.id };
            between = g.between;
            id = g.id;
            fetched = subst (λ (c : Cache W). Fetches files (pool_of c) m.desk.seat.now g.between key x.0) e g.fetched;
            victims = subst (λ (c : Cache W). TakesVictims files (pool_of c) m.desk.seat.now g.between key m.desk.evictor.now
                k.desk.evictor.now (x.0).how) e g.victims;
            kept = g.kept;
            unmoved = g.unmoved;
            out = subst (λ (c : Cache W). IsReadOut files (pool_of c) g.between k.desk.seat.now x.0 (x.0).how) e g.out;
            read = g.read;
            counted = g.counted;
          },
          x.2,
        ),
        g.same.cache ∙ e,
      )
  does_seen n (misses key) m k e x =
      let g = x.0 in (
        (
          record {
            same = record { cache = refl; seat = refl; evictor = refl; store = refl; totals = refl; id = g.same.id };
            failed = subst (λ (c : Cache W). FailsToFetch files (pool_of c) m.desk.seat.now k.desk.seat.now key) e g.failed;
            kept = g.kept;
            unread = g.unread;
            uncounted = g.uncounted;
          },
          x.1,
        ),
        g.same.cache ∙ e,
      )
  does_seen n (drops slot key) m k e x =
      let g = x.3 in (
        (
          x.0,
          x.1,
          x.2,
          record {
            same = record { cache = refl; seat = refl; evictor = refl; store = refl; totals = refl; id = g.same.id };
            done = subst (λ (c : Cache W). IsDone files (pool_of c) m.desk.seat.now k.desk.seat.now (x.0).ranged) e g.done;
            kept = g.kept;
            unread = ap reads g.unread;
            uncounted = g.uncounted;
          },
          x.4,
        ),
        g.same.cache ∙ e,
      )

  -- deeds at other references, of whose store is seen what it tells
  pub ran_seen : (n : Desk W Log) (ds : List Deed) (m k : Moment W S) → m.desk.cache.now ≡ n.cache.now → Ran files reads m ds k
      → Ran files told (seen n m) ds (seen n k)
  ran_seen n [] m k e x = ap (λ (y : Moment W S). seen n y) x
  ran_seen n (d ∷ ds) m k e x =
      let one = does_seen n d m x.0 e x.1 in
      (seen n x.0, one.0, ran_seen n ds x.0 k one.1 x.2)

  -- the same desk, of whose store stands there what it tells
  abbrev pub told_desk : Desk W S → Desk W Log
  told_desk d =
      record {
        cache = d.cache;
        seat = d.seat;
        evictor = d.evictor;
        store = record { ref_ptr = d.store.ref_ptr; ghost_name = d.store.ghost_name; now = reads d.store.now };
        totals = d.totals;
      }

  -- where deeds led from nothing held to nothing held
  pub through_ran : (ds : List Deed) (m k : Moment W S) → m.slots ≡ no_slots → k.slots ≡ no_slots → Ran files reads m ds k
      → RanThrough files m.desk.cache.now ds (standing_at m) (standing_at k)
  through_ran ds m k e f r =
      let d = told_desk m.desk in
      let first : Slots → Moment W Log = λ slots. moment (at_desk d (standing_at m)).desk slots in
      let last : Slots → Moment W Log = λ slots. moment (at_desk d (standing_at k)).desk slots in
      let begun = subst (λ (x : Slots). Ran files told (first x) ds (last k.slots)) e (ran_seen d ds m k refl r) in
      record {
        desk = d;
        cache_is = refl;
        ran = subst (λ (x : Slots). Ran files told (first no_slots) ds (last x)) f begun;
      }

-- what holds of one standing holds of another, part by part the same
pub standing_is : {W S : Type 0} (P : Standing W → Type 0) (reads : S → Log) (seat seat' : PoolSeat W) (evictor evictor' : Evictor)
    (store store' : S) (totals totals' : CacheTotals) → seat' ≡ seat → evictor' ≡ evictor → store' ≡ store → totals' ≡ totals
    → P (standing seat evictor (reads store) totals) → P (standing seat' evictor' (reads store') totals')
standing_is {W} {S} P reads seat seat' evictor evictor' store store' totals totals' a b c d p =
    let one = subst (λ (x : PoolSeat W). P (standing x evictor (reads store) totals)) (sym a) p in
    let two = subst (λ (x : Evictor). P (standing seat' x (reads store) totals)) (sym b) one in
    let three = subst (λ (x : S). P (standing seat' evictor' (reads x) totals)) (sym c) two in
    subst (λ (x : CacheTotals). P (standing seat' evictor' (reads store') x)) (sym d) three

use Rattle.std.proofs.Common.{◌≡◌, ℕ, ◌*◌, ◌^◌, ◌≤◌, List, ◌++◌, sym, subst, ap, ◌∙◌, inr, arith}
use Rattle.std.proofs.lemmas.Result.{err_from_is_err_and}
use Rattle.std.specs.Prelude.{Option}
use Rattle.buffer_word.specs.declared.key_word.Key.{Key}
use Rattle.pool_model.specs.Content.{Files}
use Rattle.pool_rule.specs.declared.geometry.Geometry.{Geometry}
use Rattle.pool_rule.specs.declared.view.View.{View}
use Rattle.pool_rule.specs.declared.word_step.WordStep.{WordStep}
use Rattle.buffer_pool.specs.declared.token.Pin.{Pin}
use Rattle.buffer_pool.specs.Pools.{seat_id, sizes_of, view}
use Rattle.cache_lookup.specs.declared.ways.Found.TheVariants as found
use Rattle.cache_lookup.specs.LookUps.{IsLookUp}
use Rattle.cache_lookup.specs.Sets.{first_way}
use Rattle.cache_placement.specs.declared.why.Placed.{Placed}
use Rattle.cache_placement.specs.declared.why.Placed.TheVariants as placed
use Rattle.cache_placement.specs.declared.why.Why.{Why}
use Rattle.cache_placement.specs.Free.{IsOrder}
use Rattle.cache_placement.specs.Placements.{IsPlacement}
use Rattle.range_cache.specs.declared.ranged.Grip.TheVariants as grip
use Rattle.range_cache.specs.declared.ranged.How.TheVariants.{Bypass, Filled}
use Rattle.range_cache.specs.declared.ranged.Ranged.{Ranged}
use Rattle.range_cache.specs.Caches.{pool_of}
use Rattle.range_cache.specs.Fetches.{IsFailedFetch, IsFetch}
use Rattle.range_cache.proofs.Promises.{busy, busy_failed, bypassed, content_is, filled, hit, missing_failed}
use Rattle.range_cache.proofs.fetching.fetch.Goals as goal

-- the order of the key's length, where it isn't above that of an arena
order_is : (g g' : Geometry) (len order : ℕ) → g' ≡ g → len ≤ 64 * g.min_block → len ≤ g'.min_block * 2 ^ order → ((k : ℕ) → len ≤ g'.min_block * 2 ^ k → order ≤ k) → IsOrder g len order
order_is g g' len order e fits room least =
    let P : Geometry → Type 0 = λ x. IsOrder x len order in
    let Q : Geometry → Type 0 = λ x. len ≤ 64 * x.min_block in
    let fits' = subst Q (sym e) fits in
    subst P e (record { fits = least 6 (omega (arith, fits')); room = room; least = least })

-- a placement by the seat as it was after the look-up, in the key's set
placement_at : (files : Option Files) (g g' : Geometry) (id id' : ℕ) (key : Key) (order first : ℕ) (states : List ℕ) (u w : View) (r : Placed) → id' ≡ id → first ≡ first_way g' key → g' ≡ g → (ts : List WordStep) × IsPlacement files g id' key order first states 0 g'.arenas ts u w r → (ts : List WordStep) × IsPlacement files g id key order (first_way g key) states 0 g.arenas ts u w r
placement_at files g g' id id' key order first states u w r e f k p =
    let P : ℕ × ℕ × ℕ → Type 0 = λ z. IsPlacement files g z.0 key order z.1 states 0 z.2 p.0 u w r in
    let at : first ≡ first_way g key = f ∙ ap (λ x. first_way x key) k in
    let all : g'.arenas ≡ g.arenas = ap (λ (x : Geometry). x.arenas) k in
    (p.0, subst P (λ i. (e i, at i, all i)) p.1)

as_range : (files : Option Files) (g : Geometry) (id : ℕ) (key : Key) (v w : View) (r s : Ranged) → r ≡ s → (ss : List WordStep) × IsFetch files g id key ss v w s → (ss : List WordStep) × IsFetch files g id key ss v w r
as_range files g id key v w r s e f = let P : Ranged → Type 0 = λ x. IsFetch files g id key f.0 v w x in (f.0, subst P (sym e) f.1)

then_filled : (files : Option Files) (g : Geometry) (id : ℕ) (key : Key) (order : ℕ) (states : List ℕ) (v u w : View) (pin : Pin) → IsOrder g key.len order → ((ss : List WordStep) × IsLookUp files g id key ss states v u found.Missing) → ((ts : List WordStep) × IsPlacement files g id key order (first_way g key) states 0 g.arenas ts u w (placed.Filled pin)) → (ss : List WordStep) × IsFetch files g id key ss v w (record { how = Filled; evicted = 0; moved = 0; held = grip.Pin pin })
then_filled files g id key order states v u w pin is l p = (l.0 ++ p.0, filled files g id key order states l.0 p.0 v u w l.1 is pin p.1)

then_bypassed : (files : Option Files) (g : Geometry) (id : ℕ) (key : Key) (order : ℕ) (states : List ℕ) (v u w : View) (why : Why) → IsOrder g key.len order → ((ss : List WordStep) × IsLookUp files g id key ss states v u found.Missing) → ((ts : List WordStep) × IsPlacement files g id key order (first_way g key) states 0 g.arenas ts u w (placed.Bypass why)) → (ss : List WordStep) × IsFetch files g id key ss v w (record { how = Bypass why; evicted = 0; moved = 0; held = grip.Bypass key })
then_bypassed files g id key order states v u w why is l p = (l.0 ++ p.0, bypassed files g id key order states l.0 p.0 v u w l.1 is why p.1)

pub place-requires-clause-order : goal.place-requires-clause-order
place-requires-clause-order g c =
    order_is (sizes_of (pool_of c.args.cache.now)) c.geometry-geometry.result c.args.key.len c.order_for-order.result c.geometry-geometry.ensures.sizes c.requires.fits c.order_for-order.ensures.holds c.order_for-order.ensures.least

pub returns-in-Hit-clause-fetched : goal.returns-in-Hit-clause-fetched
returns-in-Hit-clause-fetched g c =
    let l = c.in-Hit.ensures.looked in
    as_range g.W.World.files (sizes_of (pool_of c.args.cache.now)) (seat_id c.args.seat.now) c.args.key (view c.args.seat.now) (view c.look_up.new.seat) c.pinned.result _ c.pinned.ensures
    (l.0, hit g.W.World.files (sizes_of (pool_of c.args.cache.now)) (seat_id c.args.seat.now) c.args.key l.0 c.look_up.new.states (view c.args.seat.now) (view c.look_up.new.seat) c.in-Hit.pin l.1)

pub returns-in_ok-read_at-in-Busy-clause-fetched : goal.returns-in_ok-read_at-in-Busy-clause-fetched
returns-in_ok-read_at-in-Busy-clause-fetched g c =
    let l = c.in-Busy.ensures.looked in
    as_range g.W.World.files (sizes_of (pool_of c.args.cache.now)) (seat_id c.args.seat.now) c.args.key (view c.args.seat.now) (view c.look_up.new.seat) c.bypassed.result _ c.bypassed.ensures
    (l.0, busy g.W.World.files (sizes_of (pool_of c.args.cache.now)) (seat_id c.args.seat.now) c.args.key l.0 c.look_up.new.states (view c.args.seat.now) (view c.look_up.new.seat) c.in-Busy.word l.1)

pub returns-in-Filled-clause-fetched : goal.returns-in-Filled-clause-fetched
returns-in-Filled-clause-fetched g c =
    let p = placement_at g.W.World.files (sizes_of (pool_of c.args.cache.now)) c.geometry-geometry.result (seat_id c.args.seat.now) (seat_id c.look_up.new.seat) c.args.key c.order_for-order.result c.first_header-first.result c.look_up.new.states (view c.look_up.new.seat) (view c.place.new.seat) (placed.Filled c.in-Filled.pin)
    c.look_up.ensures.seat.same c.first_header-first.ensures.first c.geometry-geometry.ensures.sizes c.in-Filled.ensures.placed in
    as_range g.W.World.files (sizes_of (pool_of c.args.cache.now)) (seat_id c.args.seat.now) c.args.key (view c.args.seat.now) (view c.place.new.seat) c.pinned-in-Filled.result _ c.pinned-in-Filled.ensures
    (then_filled g.W.World.files (sizes_of (pool_of c.args.cache.now)) (seat_id c.args.seat.now) c.args.key c.order_for-order.result c.look_up.new.states (view c.args.seat.now) (view c.look_up.new.seat) (view c.place.new.seat) c.in-Filled.pin (order_is (sizes_of (pool_of c.args.cache.now)) c.geometry-geometry.result c.args.key.len c.order_for-order.result c.geometry-geometry.ensures.sizes c.requires.fits c.order_for-order.ensures.holds c.order_for-order.ensures.least) c.in-Missing.ensures.looked p)

pub returns-in-Filled-clause-bytes : goal.returns-in-Filled-clause-bytes
returns-in-Filled-clause-bytes g c =
    inr (content_is g.W.World.files c.args.key c.args.file c.read_at-in-Missing.new.into c.requires.file c.requires.is_file (c.read_at-in-Missing.auto.into ∙ c.requires.scratch) c.in_ok-read_at-in-Missing.ensures.bytes)

pub returns-in-Bypass-clause-fetched : goal.returns-in-Bypass-clause-fetched
returns-in-Bypass-clause-fetched g c =
    let p = placement_at g.W.World.files (sizes_of (pool_of c.args.cache.now)) c.geometry-geometry.result (seat_id c.args.seat.now) (seat_id c.look_up.new.seat) c.args.key c.order_for-order.result c.first_header-first.result c.look_up.new.states (view c.look_up.new.seat) (view c.place.new.seat) (placed.Bypass c.in-Bypass.why)
    c.look_up.ensures.seat.same c.first_header-first.ensures.first c.geometry-geometry.ensures.sizes c.in-Bypass.ensures.placed in
    as_range g.W.World.files (sizes_of (pool_of c.args.cache.now)) (seat_id c.args.seat.now) c.args.key (view c.args.seat.now) (view c.place.new.seat) c.bypassed-in-Bypass.result _ c.bypassed-in-Bypass.ensures
    (then_bypassed g.W.World.files (sizes_of (pool_of c.args.cache.now)) (seat_id c.args.seat.now) c.args.key c.order_for-order.result c.look_up.new.states (view c.args.seat.now) (view c.look_up.new.seat) (view c.place.new.seat) c.in-Bypass.why
    (order_is (sizes_of (pool_of c.args.cache.now)) c.geometry-geometry.result c.args.key.len c.order_for-order.result c.geometry-geometry.ensures.sizes c.requires.fits c.order_for-order.ensures.holds c.order_for-order.ensures.least) c.in-Missing.ensures.looked p)

pub returns-in_err-read_at-in-Busy-clause-failed : goal.returns-in_err-read_at-in-Busy-clause-failed
returns-in_err-read_at-in-Busy-clause-failed g c =
    let files = g.W.World.files in
    let sizes = sizes_of (pool_of c.args.cache.now) in
    let id = seat_id c.args.seat.now in
    let v = view c.args.seat.now in
    let w = view c.look_up.new.seat in
    let l = c.in-Busy.ensures.looked in
    let p = err_from_is_err_and c.from_residual.result c.from_residual.ensures.1 in
    let failed : (ss : List WordStep) × IsFailedFetch files sizes id c.args.key ss v w = (l.0, busy_failed files sizes id c.args.key l.0 c.look_up.new.states v w c.in-Busy.word l.1) in
    rw p.1 failed

pub returns-in_err-read_at-in-Missing-clause-failed : goal.returns-in_err-read_at-in-Missing-clause-failed
returns-in_err-read_at-in-Missing-clause-failed g c =
    let files = g.W.World.files in
    let sizes = sizes_of (pool_of c.args.cache.now) in
    let id = seat_id c.args.seat.now in
    let v = view c.args.seat.now in
    let w = view c.look_up.new.seat in
    let l = c.in-Missing.ensures.looked in
    let p = err_from_is_err_and c.from_residual-in_err-read_at-in-Missing.result c.from_residual-in_err-read_at-in-Missing.ensures.1 in
    let failed : (ss : List WordStep) × IsFailedFetch files sizes id c.args.key ss v w = (l.0, missing_failed files sizes id c.args.key l.0 c.look_up.new.states v w l.1) in
    rw p.1 failed

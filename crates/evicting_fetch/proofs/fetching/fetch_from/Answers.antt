use Rattle.std.proofs.Common.{◌≡◌, ℕ, ◌+◌, ◌*◌, ◌%◌, ◌^◌, ◌≤◌, List, [], ◌∷◌, length, refl, sym, ap, ◌∙◌, subst, inr, arith}
use Rattle.std.proofs.lemmas.Result.{err_from_is_err_and}
use Rattle.std.specs.Prelude.{Option, Some, None, IsSome, IsSomeAnd, slice_range}
use Rattle.buffer_word.specs.declared.key_word.Key.{Key}
use Rattle.outside.specs.declared.file_ref.FileRef.{FileRef}
use Rattle.outside.specs.Files.{HasBytes, IsFile}
use Rattle.pool_model.specs.Content.{Files, IsRange, told_bytes}
use Rattle.pool_rule.specs.declared.geometry.Geometry.{Geometry}
use Rattle.pool_rule.specs.declared.geometry.WordName.TheVariants.{Clock}
use Rattle.pool_rule.specs.declared.view.View.{View}
use Rattle.pool_rule.specs.declared.word_step.WordStep.{WordStep}
use Rattle.pool_rule.specs.declared.word_step.WordStep.TheVariants.{Updated}
use Rattle.pool_rule.specs.WordSteps.{IsMade}
use Rattle.buffer_pool.specs.declared.pool.Pool.{Pool}
use Rattle.buffer_pool.specs.declared.seat.PoolSeat.{PoolSeat}
use Rattle.buffer_pool.specs.declared.token.Pin.{Pin}
use Rattle.buffer_pool.specs.Made.{AreMade, touch_steps}
use Rattle.buffer_pool.specs.Pools.{IsContentOf, buffer_key, pin_header, seat_id, sizes_of, view}
use Rattle.cache_lookup.specs.declared.ways.Found.{Found}
use Rattle.cache_lookup.specs.declared.ways.Found.TheVariants as found
use Rattle.cache_lookup.specs.Before.{IsAsBefore}
use Rattle.cache_lookup.specs.LookUps.{IsLookUp, IsPinFor}
use Rattle.cache_lookup.specs.Sets.{first_way}
use Rattle.cache_placement.specs.declared.why.Placed.{Placed}
use Rattle.cache_placement.specs.declared.why.Placed.TheVariants as placed
use Rattle.cache_placement.specs.declared.why.Why.TheVariants.{Busy}
use Rattle.cache_placement.specs.Free.{IsOrder}
use Rattle.cache_placement.specs.Placements.{HoldsPlaced}
use Rattle.cache_room.specs.QuietLaws.{are_known, no_pin_later, quiet_updated, touch_before}
use Rattle.cache_room.specs.Rooms.{IsRoom}
use Rattle.range_cache.specs.declared.ranged.Grip.TheVariants as grip
use Rattle.range_cache.specs.declared.ranged.How.{How}
use Rattle.range_cache.specs.declared.ranged.How.TheVariants.{Bypass, Filled, Hit}
use Rattle.range_cache.specs.declared.ranged.Ranged.{Ranged}
use Rattle.range_cache.specs.Fetches.{IsOfFile}
use Rattle.range_cache.specs.Ranges.{GripFits, ranged_by}
use Rattle.evicting_fetch.specs.Fetches.{IsFailedFetch, IsFetch, IsGot, next_tick}
use Rattle.cache_lookup.specs.Callers.{right_made}
use Rattle.cache_room.specs.Searches.{why_of}
use Rattle.evicting_fetch.specs.Evictors.{policy_of}
use Rattle.evicting_fetch.proofs.Victims.{none_evicts, ranked_in, ranked_of, ranked_on, touch_evicts, unranked}
use Rattle.evicting_fetch.proofs.Promises.{busy, busy_failed, hit, missing_failed, room_bypassed, room_filled}
use Rattle.evicting_fetch.proofs.fetching.fetch_from.Goals as goal

-- the order of the key's length, where it isn't above that of an arena
order_is : (g g' : Geometry) (len order : ℕ) → g' ≡ g → len ≤ 64 * g.min_block → len ≤ g'.min_block * 2 ^ order → ((k : ℕ) → len ≤ g'.min_block * 2 ^ k → order ≤ k) → IsOrder g len order
order_is g g' len order e fits room least =
    let P : Geometry → Type 0 = λ x. IsOrder x len order in
    let Q : Geometry → Type 0 = λ x. len ≤ 64 * x.min_block in
    let fits' = subst Q (sym e) fits in
    subst P e (record { fits = least 6 (omega (arith, fits')); room = room; least = least })

-- the key is a range of its file
range_is : (files : Option Files) (key : Key) (file : FileRef) → IsOfFile key file → IsFile files file → IsRange files (buffer_key key)
range_is files key file of is told =
    let b = is told in
    let P : Option (List ℕ) → Type 0 = λ o. IsSomeAnd o (λ bytes. key.at + key.len ≤ length bytes) in
    let len = b.1.len_is in
    let range = of.range in
    let fits : key.at + key.len ≤ length b.0 = omega (arith, len, range) in
    subst P (sym (ap (told_bytes files) of.number ∙ b.1.bytes_are)) fits

-- where files are told, a read of the range gave its content
content_is : (files : Option Files) (key : Key) (file : FileRef) (bytes : List ℕ) → IsOfFile key file → IsFile files file → length bytes ≡ key.len → ((all : List ℕ) → HasBytes files file all → bytes ≡ slice_range all key.at (key.at + length bytes)) → IsContentOf files (buffer_key key) bytes
content_is files key file bytes of is len read all told =
    let there : told_bytes files file.number ≡ Some all = ap (told_bytes files) (sym of.number) ∙ told in
    let some : IsSome files = some_of files file.number all there in
    let b = is some in
    let same : b.0 ≡ all = let e : Some b.0 ≡ Some all = sym b.1.bytes_are ∙ there in cc in
    let P : List ℕ → Type 0 = λ x. HasBytes files file x in
    read all (subst P same b.1) ∙ ap (λ n. slice_range all key.at (key.at + n)) len
  where
    some_of : (files : Option Files) (number : ℕ) (all : List ℕ) → told_bytes files number ≡ Some all → IsSome files
    some_of None number all e = let clash : None ≡ Some all = e in absurd (let end : ⊥ = cc in end)
    some_of (Some fs) number all e = refl

module _ (files : Option Files) (g : Geometry) (id : ℕ) where
  ticks : (clock now : ℕ) (v u : View) → now ≡ (clock + 1) % 2 ^ 64 → IsMade files g id (Updated Clock clock now) v u → IsMade files g id (Updated Clock clock (next_tick clock)) v u
  ticks clock now v u e m = let P : ℕ → Type 0 = λ n. IsMade files g id (Updated Clock clock n) v u in subst P e m

  looks : (id' : ℕ) (key : Key) (states : List ℕ) (v u : View) (r : Found) → id' ≡ id → ((ss : List WordStep) × IsLookUp files g id' key ss states v u r) → (ss : List WordStep) × IsLookUp files g id key ss states v u r
  looks id' key states v u r e l = let P : ℕ → Type 0 = λ n. IsLookUp files g n key l.0 states v u r in (l.0, subst P e l.1)

  touched : (id' header now clock : ℕ) (pin : Pin) (v u : View) → id' ≡ id → header ≡ pin_header pin → now ≡ next_tick clock → ((touches last : ℕ) × AreMade files g id' (touch_steps header now touches last) v u) → (touches last : ℕ) × AreMade files g id (touch_steps (pin_header pin) (next_tick clock) touches last) v u
  touched id' header now clock pin v u e h n t =
      let P : ℕ × ℕ × ℕ → Type 0 = λ z. AreMade files g z.0 (touch_steps z.1 z.2 t.0 t.1) v u in
      (t.0, t.1, subst P (λ i. (e i, h i, n i)) t.2)

  as_range : (key : Key) (v w : View) (r s : Ranged) → r ≡ s → ((ss : List WordStep) × IsFetch files g id key ss v w s) → (ss : List WordStep) × IsFetch files g id key ss v w r
  as_range key v w r s e f = let P : Ranged → Type 0 = λ x. IsFetch files g id key f.0 v w x in (f.0, subst P (sym e) f.1)

  in_set : (id' order first evicted : ℕ) (g' : Geometry) (key : Key) (states : List ℕ) (v w : View) (r : Placed) → id' ≡ id → first ≡ first_way g' key → g' ≡ g → IsRoom files g id' (record { key = key; order = order; first = first; states = states }) v w evicted r → IsRoom files g id (record { key = key; order = order; first = first_way g key; states = states }) v w evicted r
  in_set id' order first evicted g' key states v w r e f k m =
      let P : ℕ × ℕ → Type 0 = λ z. IsRoom files g z.0 (record { key = key; order = order; first = z.1; states = states }) v w evicted r in
      let at : first ≡ first_way g key = f ∙ ap (λ x. first_way x key) k in
      subst P (λ i. (e i, at i)) m

-- a range that is held by a pin, once its header was touched
got : {W : Type 0} (pool : Pool W) (seat seat' : PoolSeat W) (key : Key) (pin : Pin) (how : How) (n : ℕ) (r : Ranged) → r ≡ ranged_by how n (grip.Pin pin) → GripFits how (grip.Pin pin) → IsPinFor pool seat key pin → IsAsBefore (view seat) (view seat') → IsGot pool seat' key r
got pool seat seat' key pin how n r e fits p c =
    let P : Ranged → Type 0 = λ x. IsGot pool seat' key x in
    let t = p.token in
    subst P (sym e)
    (record {
      held = record { header = t.header; block = t.block; key = t.key; fits = t.fits; pinned = c.holds (pin_header pin) ∙ t.pinned };
      key_is = p.key_is;
      grip = fits;
      moved = refl;
    })

pub look_up-requires-clause-no_pin : goal.look_up-requires-clause-no_pin
look_up-requires-clause-no_pin g c =
    let m = c.tick-now.ensures.made in
    no_pin_later (buffer_key c.args.key) (view c.args.seat.now) (view c.tick-now.new.seat) c.requires.no_pin
    (quiet_updated g.W.World.files (sizes_of c.args.pool.now) (seat_id c.args.seat.now) c.args.key Clock m.0 c.tick-now.result (view c.args.seat.now) (view c.tick-now.new.seat) refl m.2).before

pub place-placed-requires-clause-known : goal.place-placed-requires-clause-known
place-placed-requires-clause-known g c =
    let m = c.tick-now.ensures.made in
    let key = buffer_key c.args.key in
    let first = no_pin_later key (view c.args.seat.now) (view c.tick-now.new.seat) c.requires.no_pin
    (quiet_updated g.W.World.files (sizes_of c.args.pool.now) (seat_id c.args.seat.now) c.args.key Clock m.0 c.tick-now.result (view c.args.seat.now) (view c.tick-now.new.seat) refl m.2).before in
    let l = c.in-Missing.ensures.looked in
    are_known key (view c.look_up.new.seat) (no_pin_later key (view c.tick-now.new.seat) (view c.look_up.new.seat) first l.1.leaves)

pub place-placed-requires-clause-wanted : goal.place-placed-requires-clause-wanted
place-placed-requires-clause-wanted g c =
    let P : Geometry → Type 0 = λ x. c.first_header-first.result + 8 ≤ 8 * x.sets in
    record {
      key = c.requires.key;
      order = order_is (sizes_of c.args.pool.now) c.geometry-geometry.result c.args.key.len c.order_for-order.result c.geometry-geometry.ensures.sizes c.requires.fits c.order_for-order.ensures.holds c.order_for-order.ensures.least;
      set = subst P c.geometry-geometry.ensures.sizes c.first_header-first.ensures.inside;
      range = range_is g.W.World.files c.args.key c.args.file c.requires.file c.requires.is_file;
      len = c.read_at-in-Missing.auto.into ∙ c.requires.scratch;
      content = content_is g.W.World.files c.args.key c.args.file c.read_at-in-Missing.new.into c.requires.file c.requires.is_file (c.read_at-in-Missing.auto.into ∙ c.requires.scratch) c.in_ok-read_at-in-Missing.ensures.bytes;
    }

pub returns-in-Hit-clause-got : goal.returns-in-Hit-clause-got
returns-in-Hit-clause-got g c =
    let t = c.touch.ensures.made in
    got c.args.pool.now c.look_up.new.seat c.touch.new.seat c.args.key c.in-Hit.pin Hit 0 c.pinned.result c.pinned.ensures tt c.in-Hit.ensures.token
    (touch_before g.W.World.files (sizes_of c.args.pool.now) (seat_id c.look_up.new.seat) c.args.key c.header.result c.tick-now.result t.0 t.1 (view c.look_up.new.seat) (view c.touch.new.seat) t.2)

pub returns-in-Hit-clause-fetched : goal.returns-in-Hit-clause-fetched
returns-in-Hit-clause-fetched g c =
    let files = g.W.World.files in
    let sizes = sizes_of c.args.pool.now in
    let id = seat_id c.args.seat.now in
    let key = c.args.key in
    let pin = c.in-Hit.pin in
    let v = view c.args.seat.now in
    let u0 = view c.tick-now.new.seat in
    let u1 = view c.look_up.new.seat in
    let x = view c.touch.new.seat in
    let m = c.tick-now.ensures.made in
    let l = looks files sizes id (seat_id c.tick-now.new.seat) key c.look_up.new.states u0 u1 (found.Hit pin) c.tick-now.ensures.seat.same c.in-Hit.ensures.looked in
    let t = touched files sizes id (seat_id c.look_up.new.seat) c.header.result c.tick-now.result m.0 pin u1 x (c.look_up.ensures.seat.same ∙ c.tick-now.ensures.seat.same) c.header.ensures m.1 c.touch.ensures.made in
    as_range files sizes id key v x c.pinned.result (ranged_by Hit 0 (grip.Pin pin)) c.pinned.ensures
    (_, hit files sizes id key m.0 v u0 (ticks files sizes id m.0 c.tick-now.result v u0 m.1 m.2) l.0 c.look_up.new.states u1 pin t.0 t.1 x l.1 t.2)

pub returns-in_ok-read_at-in-Busy-clause-fetched : goal.returns-in_ok-read_at-in-Busy-clause-fetched
returns-in_ok-read_at-in-Busy-clause-fetched g c =
    let files = g.W.World.files in
    let sizes = sizes_of c.args.pool.now in
    let id = seat_id c.args.seat.now in
    let key = c.args.key in
    let v = view c.args.seat.now in
    let u0 = view c.tick-now.new.seat in
    let u1 = view c.look_up.new.seat in
    let m = c.tick-now.ensures.made in
    let l = looks files sizes id (seat_id c.tick-now.new.seat) key c.look_up.new.states u0 u1 (found.Busy c.in-Busy.word) c.tick-now.ensures.seat.same c.in-Busy.ensures.looked in
    as_range files sizes id key v u1 c.bypassed.result _ c.bypassed.ensures
    (_, busy files sizes id key m.0 v u0 (ticks files sizes id m.0 c.tick-now.result v u0 m.1 m.2) l.0 c.look_up.new.states u1 c.in-Busy.word l.1)

pub returns-in-Filled-clause-got : goal.returns-in-Filled-clause-got
returns-in-Filled-clause-got g c =
    let t = c.touch-in-Filled.ensures.made in
    got c.args.pool.now c.place-placed.new.seat c.touch-in-Filled.new.seat c.args.key c.in-Filled.pin Filled c.place-placed.result.evicted c.pinned-in-Filled.result c.pinned-in-Filled.ensures tt
    (let P : Placed → Type 0 = λ r. HoldsPlaced c.args.pool.now c.place-placed.new.seat c.args.key r in subst P c.in-Filled.is c.place-placed.ensures.token)
    (touch_before g.W.World.files (sizes_of c.args.pool.now) (seat_id c.place-placed.new.seat) c.args.key c.header-in-Filled.result c.tick-now.result t.0 t.1 (view c.place-placed.new.seat) (view c.touch-in-Filled.new.seat) t.2)

pub returns-in-Filled-clause-fetched : goal.returns-in-Filled-clause-fetched
returns-in-Filled-clause-fetched g c =
    let files = g.W.World.files in
    let sizes = sizes_of c.args.pool.now in
    let id = seat_id c.args.seat.now in
    let key = c.args.key in
    let pin = c.in-Filled.pin in
    let order = c.order_for-order.result in
    let states = c.look_up.new.states in
    let n = c.place-placed.result.evicted in
    let v = view c.args.seat.now in
    let u0 = view c.tick-now.new.seat in
    let u1 = view c.look_up.new.seat in
    let w = view c.place-placed.new.seat in
    let x = view c.touch-in-Filled.new.seat in
    let m = c.tick-now.ensures.made in
    let e1 = c.tick-now.ensures.seat.same in
    let e2 = c.look_up.ensures.seat.same ∙ e1 in
    let e3 = c.place-placed.ensures.seat.same ∙ e2 in
    let l = looks files sizes id (seat_id c.tick-now.new.seat) key states u0 u1 found.Missing e1 c.in-Missing.ensures.looked in
    let R : Placed → Type 0 = λ r. IsRoom files sizes (seat_id c.look_up.new.seat) (record { key = key; order = order; first = c.first_header-first.result; states = states }) u1 w n r in
    let room = in_set files sizes id (seat_id c.look_up.new.seat) order c.first_header-first.result n c.geometry-geometry.result key states u1 w (placed.Filled pin) e2 c.first_header-first.ensures.first c.geometry-geometry.ensures.sizes (subst R c.in-Filled.is c.place-placed.ensures.room) in
    let t = touched files sizes id (seat_id c.place-placed.new.seat) c.header-in-Filled.result c.tick-now.result m.0 pin w x e3 c.header-in-Filled.ensures m.1 c.touch-in-Filled.ensures.made in
    let is = order_is sizes c.geometry-geometry.result key.len order c.geometry-geometry.ensures.sizes c.requires.fits c.order_for-order.ensures.holds c.order_for-order.ensures.least in
    as_range files sizes id key v x c.pinned-in-Filled.result (ranged_by Filled n (grip.Pin pin)) c.pinned-in-Filled.ensures
    (room_filled files sizes id key m.0 v u0 (ticks files sizes id m.0 c.tick-now.result v u0 m.1 m.2) l.0 states u1 l.1 order is c.look_up.auto.states w n c.place-placed.ensures.few pin t.0 t.1 x room t.2)

pub returns-in-Filled-clause-bytes : goal.returns-in-Filled-clause-bytes
returns-in-Filled-clause-bytes g c =
    inr (content_is g.W.World.files c.args.key c.args.file c.read_at-in-Missing.new.into c.requires.file c.requires.is_file (c.read_at-in-Missing.auto.into ∙ c.requires.scratch) c.in_ok-read_at-in-Missing.ensures.bytes)

pub returns-in-Bypass-clause-fetched : goal.returns-in-Bypass-clause-fetched
returns-in-Bypass-clause-fetched g c =
    let files = g.W.World.files in
    let sizes = sizes_of c.args.pool.now in
    let id = seat_id c.args.seat.now in
    let key = c.args.key in
    let why = c.in-Bypass.why in
    let order = c.order_for-order.result in
    let states = c.look_up.new.states in
    let n = c.place-placed.result.evicted in
    let v = view c.args.seat.now in
    let u0 = view c.tick-now.new.seat in
    let u1 = view c.look_up.new.seat in
    let w = view c.place-placed.new.seat in
    let m = c.tick-now.ensures.made in
    let e1 = c.tick-now.ensures.seat.same in
    let e2 = c.look_up.ensures.seat.same ∙ e1 in
    let l = looks files sizes id (seat_id c.tick-now.new.seat) key states u0 u1 found.Missing e1 c.in-Missing.ensures.looked in
    let R : Placed → Type 0 = λ r. IsRoom files sizes (seat_id c.look_up.new.seat) (record { key = key; order = order; first = c.first_header-first.result; states = states }) u1 w n r in
    let room = in_set files sizes id (seat_id c.look_up.new.seat) order c.first_header-first.result n c.geometry-geometry.result key states u1 w (placed.Bypass why) e2 c.first_header-first.ensures.first c.geometry-geometry.ensures.sizes (subst R c.in-Bypass.is c.place-placed.ensures.room) in
    let is = order_is sizes c.geometry-geometry.result key.len order c.geometry-geometry.ensures.sizes c.requires.fits c.order_for-order.ensures.holds c.order_for-order.ensures.least in
    as_range files sizes id key v w c.bypassed-in-Bypass.result (ranged_by (Bypass why) n (grip.Bypass key)) c.bypassed-in-Bypass.ensures
    (room_bypassed files sizes id key m.0 v u0 (ticks files sizes id m.0 c.tick-now.result v u0 m.1 m.2) l.0 states u1 l.1 order is c.look_up.auto.states w n c.place-placed.ensures.few why room)

pub returns-in_err-read_at-in-Busy-clause-failed : goal.returns-in_err-read_at-in-Busy-clause-failed
returns-in_err-read_at-in-Busy-clause-failed g c =
    let files = g.W.World.files in
    let sizes = sizes_of c.args.pool.now in
    let id = seat_id c.args.seat.now in
    let key = c.args.key in
    let v = view c.args.seat.now in
    let u0 = view c.tick-now.new.seat in
    let u1 = view c.look_up.new.seat in
    let m = c.tick-now.ensures.made in
    let l = looks files sizes id (seat_id c.tick-now.new.seat) key c.look_up.new.states u0 u1 (found.Busy c.in-Busy.word) c.tick-now.ensures.seat.same c.in-Busy.ensures.looked in
    let p = err_from_is_err_and c.from_residual.result c.from_residual.ensures.1 in
    let steps : List WordStep = Updated Clock m.0 (next_tick m.0) ∷ l.0 in
    let failed : (ss : List WordStep) × IsFailedFetch files sizes id key ss v u1 =
    (steps, busy_failed files sizes id key m.0 v u0 (ticks files sizes id m.0 c.tick-now.result v u0 m.1 m.2) l.0 c.look_up.new.states u1 c.in-Busy.word l.1) in
    rw p.1 failed

pub returns-in_err-read_at-in-Missing-clause-failed : goal.returns-in_err-read_at-in-Missing-clause-failed
returns-in_err-read_at-in-Missing-clause-failed g c =
    let files = g.W.World.files in
    let sizes = sizes_of c.args.pool.now in
    let id = seat_id c.args.seat.now in
    let key = c.args.key in
    let v = view c.args.seat.now in
    let u0 = view c.tick-now.new.seat in
    let u1 = view c.look_up.new.seat in
    let m = c.tick-now.ensures.made in
    let l = looks files sizes id (seat_id c.tick-now.new.seat) key c.look_up.new.states u0 u1 found.Missing c.tick-now.ensures.seat.same c.in-Missing.ensures.looked in
    let p = err_from_is_err_and c.from_residual-in_err-read_at-in-Missing.result c.from_residual-in_err-read_at-in-Missing.ensures.1 in
    let steps : List WordStep = Updated Clock m.0 (next_tick m.0) ∷ l.0 in
    let failed : (ss : List WordStep) × IsFailedFetch files sizes id key ss v u1 =
    (steps, missing_failed files sizes id key m.0 v u0 (ticks files sizes id m.0 c.tick-now.result v u0 m.1 m.2) l.0 c.look_up.new.states u1 l.1) in
    rw p.1 failed

pub returns-in-Hit-clause-victims : goal.returns-in-Hit-clause-victims
returns-in-Hit-clause-victims g c =
    let files = g.W.World.files in
    let sizes = sizes_of c.args.pool.now in
    let id = seat_id c.args.seat.now in
    let key = c.args.key in
    let pin = c.in-Hit.pin in
    let p = policy_of c.args.evictor.now in
    let v = view c.args.seat.now in
    let u0 = view c.tick-now.new.seat in
    let u1 = view c.look_up.new.seat in
    let x = view c.touch.new.seat in
    let m = c.tick-now.ensures.made in
    let l = looks files sizes id (seat_id c.tick-now.new.seat) key c.look_up.new.states u0 u1 (found.Hit pin) c.tick-now.ensures.seat.same c.in-Hit.ensures.looked in
    let t = touched files sizes id (seat_id c.look_up.new.seat) c.header.result c.tick-now.result m.0 pin u1 x (c.look_up.ensures.seat.same ∙ c.tick-now.ensures.seat.same) c.header.ensures m.1 c.touch.ensures.made in
    let end = touch_steps (pin_header pin) (next_tick m.0) t.0 t.1 in
    ranked_of files sizes id (first_way sizes key) p p v x c.pinned.result (ranged_by Hit 0 (grip.Pin pin)) c.pinned.ensures
    (unranked files sizes id m.0 c.tick-now.result v u0 u1 m.2 l.0 l.1.only (right_made files sizes id key (Unit {0}) u0 [] l.0 u0 u1 l.1.right) (first_way sizes key) p p None end (touch_evicts (pin_header pin) (next_tick m.0) t.0 t.1) x t.2 refl tt)

pub returns-in_ok-read_at-in-Busy-clause-victims : goal.returns-in_ok-read_at-in-Busy-clause-victims
returns-in_ok-read_at-in-Busy-clause-victims g c =
    let files = g.W.World.files in
    let sizes = sizes_of c.args.pool.now in
    let id = seat_id c.args.seat.now in
    let key = c.args.key in
    let word = c.in-Busy.word in
    let p = policy_of c.args.evictor.now in
    let v = view c.args.seat.now in
    let u0 = view c.tick-now.new.seat in
    let u1 = view c.look_up.new.seat in
    let m = c.tick-now.ensures.made in
    let l = looks files sizes id (seat_id c.tick-now.new.seat) key c.look_up.new.states u0 u1 (found.Busy word) c.tick-now.ensures.seat.same c.in-Busy.ensures.looked in
    ranked_of files sizes id (first_way sizes key) p p v u1 c.bypassed.result (ranged_by (Bypass (Busy word)) 0 (grip.Bypass key)) c.bypassed.ensures
    (unranked files sizes id m.0 c.tick-now.result v u0 u1 m.2 l.0 l.1.only (right_made files sizes id key ⊥ u0 [] l.0 u0 u1 l.1.right) (first_way sizes key) p p (Some (Busy word)) [] none_evicts u1 refl refl tt)

pub returns-in-Filled-clause-victims : goal.returns-in-Filled-clause-victims
returns-in-Filled-clause-victims g c =
    let files = g.W.World.files in
    let sizes = sizes_of c.args.pool.now in
    let id = seat_id c.args.seat.now in
    let key = c.args.key in
    let pin = c.in-Filled.pin in
    let n = c.place-placed.result.evicted in
    let p = policy_of c.args.evictor.now in
    let q = policy_of c.place-placed.new.self in
    let v = view c.args.seat.now in
    let u0 = view c.tick-now.new.seat in
    let u1 = view c.look_up.new.seat in
    let w = view c.place-placed.new.seat in
    let x = view c.touch-in-Filled.new.seat in
    let m = c.tick-now.ensures.made in
    let e1 = c.tick-now.ensures.seat.same in
    let e2 = c.look_up.ensures.seat.same ∙ e1 in
    let e3 = c.place-placed.ensures.seat.same ∙ e2 in
    let l = looks files sizes id (seat_id c.tick-now.new.seat) key c.look_up.new.states u0 u1 found.Missing e1 c.in-Missing.ensures.looked in
    let t = touched files sizes id (seat_id c.place-placed.new.seat) c.header-in-Filled.result c.tick-now.result m.0 pin w x e3 c.header-in-Filled.ensures m.1 c.touch-in-Filled.ensures.made in
    let end = touch_steps (pin_header pin) (next_tick m.0) t.0 t.1 in
    let r = ranked_in files sizes c.geometry-geometry.result id (seat_id c.look_up.new.seat) c.first_header-first.result key p q u1 w None (why_of c.place-placed.result.placed) e2 c.first_header-first.ensures.first c.geometry-geometry.ensures.sizes
    (ap why_of c.in-Filled.is) c.place-placed.ensures.ranked in
    ranked_of files sizes id (first_way sizes key) p q v x c.pinned-in-Filled.result (ranged_by Filled n (grip.Pin pin)) c.pinned-in-Filled.ensures
    (ranked_on files sizes id m.0 c.tick-now.result v u0 u1 m.2 l.0 l.1.only (right_made files sizes id key ⊥ u0 [] l.0 u0 u1 l.1.right) (first_way sizes key) p q None end (touch_evicts (pin_header pin) (next_tick m.0) t.0 t.1) w x t.2 r)

pub returns-in-Bypass-clause-victims : goal.returns-in-Bypass-clause-victims
returns-in-Bypass-clause-victims g c =
    let files = g.W.World.files in
    let sizes = sizes_of c.args.pool.now in
    let id = seat_id c.args.seat.now in
    let key = c.args.key in
    let why = c.in-Bypass.why in
    let n = c.place-placed.result.evicted in
    let p = policy_of c.args.evictor.now in
    let q = policy_of c.place-placed.new.self in
    let v = view c.args.seat.now in
    let u0 = view c.tick-now.new.seat in
    let u1 = view c.look_up.new.seat in
    let w = view c.place-placed.new.seat in
    let m = c.tick-now.ensures.made in
    let e1 = c.tick-now.ensures.seat.same in
    let e2 = c.look_up.ensures.seat.same ∙ e1 in
    let l = looks files sizes id (seat_id c.tick-now.new.seat) key c.look_up.new.states u0 u1 found.Missing e1 c.in-Missing.ensures.looked in
    let r = ranked_in files sizes c.geometry-geometry.result id (seat_id c.look_up.new.seat) c.first_header-first.result key p q u1 w (Some why) (why_of c.place-placed.result.placed) e2 c.first_header-first.ensures.first c.geometry-geometry.ensures.sizes
    (ap why_of c.in-Bypass.is) c.place-placed.ensures.ranked in
    ranked_of files sizes id (first_way sizes key) p q v w c.bypassed-in-Bypass.result (ranged_by (Bypass why) n (grip.Bypass key)) c.bypassed-in-Bypass.ensures
    (ranked_on files sizes id m.0 c.tick-now.result v u0 u1 m.2 l.0 l.1.only (right_made files sizes id key ⊥ u0 [] l.0 u0 u1 l.1.right) (first_way sizes key) p q (Some why) [] none_evicts w w refl r)

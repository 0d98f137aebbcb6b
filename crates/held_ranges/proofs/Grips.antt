-- What is held, over a get, a reading and a drop.
use Rattle.std.proofs.Common.{◌≡◌, ◌≢◌, ℕ, ◌+◌, ◌<◌, List, [], ◌∷◌, length, refl, sym, ap, ◌∙◌, subst}
use Rattle.std.specs.Prelude.{Option, Some}
use Rattle.std.proofs.lemmas.List.{get_or-set_same}
use Rattle.std.proofs.lemmas.Option.{none-some}
use Rattle.buffer_word.specs.declared.key_word.Key.{Key}
use Rattle.outside.specs.declared.file_ref.FileRange.{FileRange}
use Rattle.pool_model.specs.Content.{Files}
use Rattle.pool_rule.specs.declared.geometry.Geometry.{Geometry}
use Rattle.pool_rule.specs.declared.view.Hold.{Hold}
use Rattle.pool_rule.specs.declared.view.Hold.TheVariants.{Free, Bid, Pinned}
use Rattle.pool_rule.specs.declared.view.View.{View}
use Rattle.pool_rule.specs.declared.word_step.WordStep.TheVariants.{Uncounted}
use Rattle.pool_rule.specs.Seats.{clear_mark, mark_at, noted, with_mark, with_step}
use Rattle.pool_rule.specs.WordSteps.{dropping, made}
use Rattle.buffer_pool.specs.declared.pool.Pool.{Pool}
use Rattle.buffer_pool.specs.declared.seat.PoolSeat.{PoolSeat}
use Rattle.buffer_pool.specs.Callers.{AreApartFrom, all_mark, made_mark}
use Rattle.buffer_pool.specs.Made.{load_steps}
use Rattle.buffer_pool.specs.Pools.{IsSeatOf, pin_header, seat_id, sizes_of, view}
use Rattle.range_cache.specs.declared.ranged.Grip.{Grip}
use Rattle.range_cache.specs.declared.ranged.Grip.TheVariants as grip
use Rattle.range_cache.specs.declared.ranged.How.{How}
use Rattle.range_cache.specs.declared.ranged.How.TheVariants.{Hit, Filled, Bypass}
use Rattle.range_cache.specs.declared.ranged.Ranged.{Ranged}
use Rattle.range_cache.specs.Caches.{pool_of}
use Rattle.range_cache.specs.Ranges.{EndsGrip, IsGripOf, LeavesGrip, ReadsGrip}
use Rattle.held_ranges.specs.declared.desk.Desk.{Desk}
use Rattle.held_ranges.specs.Moments.{IsGot, IsReadOut, grip_header}
use Rattle.held_ranges.proofs.Holding.{hold_at}

some_is : {m n : ℕ} → Some m ≡ Some n → m ≡ n
some_is e = cc

leaves_others : (v w : View) (g : Grip) → LeavesGrip v w g → (header : ℕ) → grip_header g ≢ Some header → hold_at w header ≡ hold_at v header
leaves_others v w (grip.Pin pin) l header differs = l.others header (λ e. differs (ap Some (sym e)))
leaves_others v w (grip.Bypass key) l header differs = l.holds header

leaves_was : (v w : View) (g : Grip) → LeavesGrip v w g → (header : ℕ) → grip_header g ≡ Some header → hold_at v header ≡ Free
leaves_was v w (grip.Pin pin) l header e = subst (λ (n : ℕ). hold_at v n ≡ Free) (some_is e) l.was
leaves_was v w (grip.Bypass key) l header e = absurd (none-some header e)

loads_apart : (header cell : ℕ) (found : List ℕ) → AreApartFrom header (load_steps cell found)
loads_apart header cell [] = tt
loads_apart header cell (f ∷ found) = ((λ e. none-some header e), loads_apart header (cell + 1) found)

module _ (files : Option Files) {W : Type 0} (pool : Pool W) (old new : PoolSeat W) where
  grip_reads : (g : Grip) (at : ℕ) (bytes : List ℕ) → ReadsGrip files pool old new g at bytes → (header : ℕ) → hold_at (view new) header ≡ hold_at (view old) header
  grip_reads (grip.Pin pin) at bytes r header =
      ap (λ m. m.hold) (all_mark files (sizes_of pool) (seat_id old) (load_steps _ r.0) (view old) (view new) r.1.loads header (loads_apart header _ r.0))
  grip_reads (grip.Bypass key) at bytes r header = ap (λ (v : View). hold_at v header) r

  out_keeps : (ranged : Ranged) (how : How) → IsReadOut files pool old new ranged how → (header : ℕ) → hold_at (view new) header ≡ hold_at (view old) header
  out_keeps ranged Hit out header = grip_reads ranged.held 0 out.0 out.1 header
  out_keeps ranged Filled out header = ap (λ (s : PoolSeat W). hold_at (view s) header) out
  out_keeps ranged (Bypass why) out header = ap (λ (s : PoolSeat W). hold_at (view s) header) out

dropping_frees : (x : Hold) (id header : ℕ) (v : View) → hold_at v header ≡ x → header < length v.marks → hold_at (dropping x id header v) header ≡ Free
unfolding with_mark with_step
dropping_frees Free id header v is below = is
dropping_frees Bid id header v is below = ap (λ m. m.hold) (get_or-set_same v.marks header (record { hold = Free; claim = (mark_at v header).claim }) clear_mark below)
dropping_frees (Pinned b k) id header v is below = ap (λ m. m.hold) (get_or-set_same v.marks header (record { hold = Free; claim = (mark_at v header).claim }) clear_mark below)

uncounted_frees : (g : Geometry) (id header found : ℕ) (v : View) → header < length v.marks → hold_at (made g id (Uncounted header found) v) header ≡ Free
unfolding noted
uncounted_frees g id header found v below = dropping_frees (mark_at v header).hold id header v refl below

module _ (files : Option Files) {W : Type 0} (pool : Pool W) (old new : PoolSeat W) where
  pub done_others : (g : Grip) → EndsGrip files pool old new g → (header : ℕ) → grip_header g ≢ Some header → hold_at (view new) header ≡ hold_at (view old) header
  done_others (grip.Pin pin) d header differs =
      ap (λ m. m.hold) (made_mark files (sizes_of pool) (seat_id old) (Uncounted (pin_header pin) d.0) (view old) (view new) d.1 header differs)
  done_others (grip.Bypass key) d header differs = ap (λ (v : View). hold_at v header) d

  pub done_frees : (g : Grip) → IsSeatOf pool old → IsGripOf pool old g → EndsGrip files pool old new g → (header : ℕ) → grip_header g ≡ Some header → hold_at (view new) header ≡ Free
  done_frees (grip.Pin pin) of is d header e =
      let below : pin_header pin < length (view old).marks = subst (λ (n : ℕ). pin_header pin < n) (sym of.live.marks) is.header in
      let free = uncounted_frees (sizes_of pool) (seat_id old) (pin_header pin) d.0 (view old) below in
      subst (λ (n : ℕ). hold_at (view new) n ≡ Free) (some_is e) (ap (λ (v : View). hold_at v (pin_header pin)) d.1.view ∙ free)
  done_frees (grip.Bypass key) of is d header e = absurd (none-some header e)

module _ (files : Option Files) {W S : Type 0} (reads : S → Option (List FileRange)) (key : Key) (ranged : Ranged) (old new : Desk W S) where
  pub got_others : IsGot files reads key ranged old new → (header : ℕ) → grip_header ranged.held ≢ Some header → hold_at (view new.seat.now) header ≡ hold_at (view old.seat.now) header
  got_others got header differs =
      out_keeps files (pool_of old.cache.now) got.between new.seat.now ranged ranged.how got.out header
      ∙ leaves_others (view old.seat.now) (view got.between) ranged.held got.fetched.1.leaves header differs

  pub got_was : IsGot files reads key ranged old new → (header : ℕ) → grip_header ranged.held ≡ Some header → hold_at (view old.seat.now) header ≡ Free
  got_was got header e = leaves_was (view old.seat.now) (view got.between) ranged.held got.fetched.1.leaves header e

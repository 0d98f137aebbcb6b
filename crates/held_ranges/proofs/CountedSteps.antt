-- Hits, fills and evictions are counted, step by step of the seat.
use Rattle.std.proofs.Common.{◌≡◌, ℕ, ◌+◌, ◌*◌, ◌/◌, List, [], ◌∷◌, refl, sym, ap, ◌∙◌, subst, inl, inr, arith}
use Rattle.std.specs.Prelude.{◌≤◌, ◌^◌, ◌-◌, Option, ◌++◌, ◌⊎◌, min}
use Rattle.std.proofs.lemmas.Bool.{cases_lt}
use Rattle.buffer_word.specs.declared.key_word.Key.{Key}
use Rattle.outside.specs.declared.file_ref.FileRange.{FileRange}
use Rattle.pool_model.specs.Content.{Files}
use Rattle.pool_rule.specs.declared.geometry.Geometry.{Geometry}
use Rattle.pool_rule.specs.declared.view.View.{View}
use Rattle.pool_rule.specs.declared.word_step.WordStep.{WordStep}
use Rattle.pool_rule.specs.declared.word_step.WordStep.TheVariants.{Uncounted}
use Rattle.pool_rule.specs.Layout.{block_cells}
use Rattle.buffer_pool.specs.declared.pool.Pool.{Pool}
use Rattle.buffer_pool.specs.declared.seat.PoolSeat.{PoolSeat}
use Rattle.buffer_pool.specs.Callers.{all_then, one_made}
use Rattle.buffer_pool.specs.Made.{AreMade, load_steps}
use Rattle.buffer_pool.specs.Pools.{pin_block, pin_header, seat_id, sizes_of, view}
use Rattle.cache_lookup.specs.Callers.{right_made}
use Rattle.cache_lookup.specs.LookUps.{IsLookStep}
use Rattle.cache_lookup.specs.LookUps as look
use Rattle.cache_lookup.specs.Trails.{Among}
use Rattle.cache_placement.specs.Publications.{publications, publications-append}
use Rattle.cache_room.specs.TouchingLaws.{look_touchings}
use Rattle.cache_room.specs.Touchings.{touchings, touchings-append}
use Rattle.cache_room.specs.Tried.{released_by, releases}
use Rattle.evicting_fetch.specs.Fetches.{touched_for}
use Rattle.cache_room.specs.TriedLaws.{releases-append}
use Rattle.ledgers.specs.declared.cache_totals.CacheTotals.{CacheTotals}
use Rattle.ledgers.specs.CacheTotals.{more, noted}
use Rattle.range_cache.specs.declared.cache.Cache.{Cache}
use Rattle.range_cache.specs.declared.ranged.Grip.{Grip}
use Rattle.range_cache.specs.declared.ranged.Grip.TheVariants as grip
use Rattle.range_cache.specs.declared.ranged.How.{How}
use Rattle.range_cache.specs.declared.ranged.How.TheVariants.{Hit, Filled, Bypass}
use Rattle.range_cache.specs.declared.ranged.Ranged.{Ranged}
use Rattle.range_cache.specs.Caches.{pool_of}
use Rattle.range_cache.specs.Callers.{look_publishes}
use Rattle.range_cache.specs.Fetches.{made_by}
use Rattle.range_cache.specs.Ranges.{EndsGrip, IsHit, ReadsGrip}
use Rattle.held_ranges.specs.Counts.{AreSeatsSteps, EvictedBy, FilledBy, HitBy, last}
use Rattle.held_ranges.specs.Deeds.{Deed, gets, misses, drops, how_of}
use Rattle.held_ranges.specs.Moments.{Does, IsGot, IsMissed, IsReadOut, Moment, Ran, SameDesk}

-- counts that stand at their end stay there
record Stays (a b : CacheTotals) : Type 0 where
  hit : a.hit ≡ last → b.hit ≡ last
  filled : a.filled ≡ last → b.filled ≡ last
  evicted : a.evicted ≡ last → b.evicted ≡ last
  moved : a.moved ≤ last → b.moved ≡ a.moved

-- steps from a view to another, and what they count
record Step (files : Option Files) (g : Geometry) (id : ℕ) (v w : View) (a b : CacheTotals) : Type 0 where
  steps : List WordStep
  made : AreMade files g id steps v w
  hit : HitBy a b (touchings steps) (publications steps)
  filled : FilledBy a b (publications steps)
  evicted : EvictedBy a b (releases steps)
  stays : Stays a b

sum_or_last : (a b : ℕ) → (more a b ≡ a + b) ⊎ (more a b ≡ last)
sum_or_last a b =
    elim (cases_lt (a + b) (last + 1)) [
      | inl below ↦ inl (omega (arith, below))
      | inr past ↦ inr (omega (arith, past))
    ]

last_stays : (a b : ℕ) → a ≡ last → more a b ≡ last
last_stays a b e = omega (arith, e)

none_more : (a : ℕ) → a ≤ last → more a 0 ≡ a
none_more a le = omega (arith, le)

hit_then : (a b c : CacheTotals) (x y n p q m : ℕ) → n ≡ x + y → m ≡ p + q → HitBy a b x p → HitBy b c y q → Stays b c → HitBy a c n m
hit_then a b c x y n p q m e f one two s =
    elim two [
      | inl is ↦ elim one [
        | inl was ↦ inl (omega (arith, was, is, e, f))
        | inr full ↦ inr (s.hit full)
      ]
      | inr full ↦ inr full
    ]

filled_then : (a b c : CacheTotals) (x y n : ℕ) → n ≡ x + y → FilledBy a b x → FilledBy b c y → Stays b c → FilledBy a c n
filled_then a b c x y n e p q s =
    elim q [
      | inl two ↦ elim p [
        | inl one ↦ inl (omega (arith, one, two, e))
        | inr full ↦ inr (s.filled full)
      ]
      | inr full ↦ inr full
    ]

evicted_then : (a b c : CacheTotals) (x y n : ℕ) → n ≡ x + y → EvictedBy a b x → EvictedBy b c y → Stays b c → EvictedBy a c n
evicted_then a b c x y n e p q s =
    elim q [
      | inl two ↦ elim p [
        | inl one ↦ inl (omega (arith, one, two, e))
        | inr full ↦ inr (s.evicted full)
      ]
      | inr full ↦ inr full
    ]

stays_then : (a b c : CacheTotals) → Stays a b → Stays b c → Stays a c
stays_then a b c p q =
    record {
      hit = λ e. q.hit (p.hit e);
      filled = λ e. q.filled (p.filled e);
      evicted = λ e. q.evicted (p.evicted e);
      moved = λ le. (let same = p.moved le in q.moved (subst (λ (n : ℕ). n ≤ last) (sym same) le) ∙ same);
    }

module _ (files : Option Files) (g : Geometry) (id : ℕ) where
  step_then : (u v w : View) (a b c : CacheTotals) → Step files g id u v a b → Step files g id v w b c → Step files g id u w a c
  step_then u v w a b c p q =
      record {
        steps = p.steps ++ q.steps;
        made = all_then files g id p.steps q.steps u v w p.made q.made;
        hit = hit_then a b c (touchings p.steps) (touchings q.steps) (touchings (p.steps ++ q.steps)) (publications p.steps) (publications q.steps)
            (publications (p.steps ++ q.steps)) (touchings-append p.steps q.steps) (publications-append p.steps q.steps) p.hit q.hit q.stays;
        filled = filled_then a b c (publications p.steps) (publications q.steps) (publications (p.steps ++ q.steps)) (publications-append p.steps q.steps)
            p.filled q.filled q.stays;
        evicted = evicted_then a b c (releases p.steps) (releases q.steps) (releases (p.steps ++ q.steps)) (releases-append p.steps q.steps)
            p.evicted q.evicted q.stays;
        stays = stays_then a b c p.stays q.stays;
      }

  -- steps that touch, publish and release nothing, and are counted as nothing
  plain : (ss : List WordStep) (v w : View) (a : CacheTotals) → AreMade files g id ss v w → touchings ss ≡ 0 → publications ss ≡ 0 → releases ss ≡ 0 → Step files g id v w a a
  plain ss v w a made bare none gone =
      record {
        steps = ss;
        made = made;
        hit = inl (omega (arith, bare, none));
        filled = inl (omega (arith, none));
        evicted = inl (omega (arith, gone));
        stays = record { hit = λ e. e; filled = λ e. e; evicted = λ e. e; moved = λ le. refl };
      }

  same_view : (v w : View) (a : CacheTotals) → w ≡ v → Step files g id v w a a
  same_view v w a e = plain [] v w a e refl refl refl

loads_publish : (cell : ℕ) (found : List ℕ) → publications (load_steps cell found) ≡ 0
loads_publish cell [] = refl
loads_publish cell (f ∷ found) = let rest = loads_publish (cell + 1) found in omega (arith, rest)

loads_touch : (cell : ℕ) (found : List ℕ) → touchings (load_steps cell found) ≡ 0
loads_touch cell [] = refl
loads_touch cell (f ∷ found) = let rest = loads_touch (cell + 1) found in omega (arith, rest)

loads_release : (cell : ℕ) (found : List ℕ) → releases (load_steps cell found) ≡ 0
loads_release cell [] = refl
loads_release cell (f ∷ found) = let rest = loads_release (cell + 1) found in omega (arith, rest)

look_released : (s : WordStep) → IsLookStep s → released_by s ≡ 0
look_released s (look.load word found) = refl
look_released s (look.count header found) = refl
look_released s (look.back header found) = refl

look_releases : (ss : List WordStep) → ((s : WordStep) → Among s ss → IsLookStep s) → releases ss ≡ 0
look_releases [] only = refl
look_releases (s ∷ ss) only =
    let here = look_released s (only s (inl refl)) in
    let rest = look_releases ss (λ t there. only t (inr there)) in
    omega (arith, here, rest)

-- ---- a range that was got

filled_noted : (how : How) (evicted moved : ℕ) (a : CacheTotals) (n : ℕ) → n ≡ made_by how → FilledBy a (noted (how_of how) evicted moved a) n
filled_noted Hit evicted moved a n e =
    elim (sum_or_last a.filled 0) [
      | inl is ↦ inl (omega (arith, is, e))
      | inr full ↦ inr full
    ]
filled_noted Filled evicted moved a n e =
    elim (sum_or_last a.filled 1) [
      | inl is ↦ inl (omega (arith, is, e))
      | inr full ↦ inr full
    ]
filled_noted (Bypass why) evicted moved a n e =
    elim (sum_or_last a.filled 0) [
      | inl is ↦ inl (omega (arith, is, e))
      | inr full ↦ inr full
    ]

hit_noted : (how : How) (evicted moved : ℕ) (a : CacheTotals) (n p : ℕ) → n ≡ touched_for how → p ≡ made_by how → HitBy a (noted (how_of how) evicted moved a) n p
hit_noted Hit evicted moved a n p e f =
    elim (sum_or_last a.hit 1) [
      | inl is ↦ inl (omega (arith, is, e, f))
      | inr full ↦ inr full
    ]
hit_noted Filled evicted moved a n p e f =
    elim (sum_or_last a.hit 0) [
      | inl is ↦ inl (omega (arith, is, e, f))
      | inr full ↦ inr full
    ]
hit_noted (Bypass why) evicted moved a n p e f =
    elim (sum_or_last a.hit 0) [
      | inl is ↦ inl (omega (arith, is, e, f))
      | inr full ↦ inr full
    ]

evicted_sum : (x count n : ℕ) → count ≡ n → (more x count ≡ x + n) ⊎ (more x count ≡ last)
evicted_sum x count n e =
    elim (sum_or_last x count) [
      | inl is ↦ inl (omega (arith, is, e))
      | inr full ↦ inr full
    ]

evicted_noted : (how : How) (evicted moved : ℕ) (a : CacheTotals) (n : ℕ) → evicted ≡ n → EvictedBy a (noted (how_of how) evicted moved a) n
evicted_noted Hit evicted moved a n e = evicted_sum a.evicted evicted n e
evicted_noted Filled evicted moved a n e = evicted_sum a.evicted evicted n e
evicted_noted (Bypass why) evicted moved a n e = evicted_sum a.evicted evicted n e

moved_noted : (how : How) (evicted moved : ℕ) (a : CacheTotals) → moved ≡ 0 → a.moved ≤ last → (noted (how_of how) evicted moved a).moved ≡ a.moved
moved_noted Hit evicted moved a e le = omega (arith, e, le)
moved_noted Filled evicted moved a e le = omega (arith, e, le)
moved_noted (Bypass why) evicted moved a e le = omega (arith, e, le)

stays_noted : (how : How) (evicted moved : ℕ) (a : CacheTotals) → moved ≡ 0 → Stays a (noted (how_of how) evicted moved a)
stays_noted Hit evicted moved a e =
    record { hit = last_stays a.hit 1; filled = last_stays a.filled 0; evicted = last_stays a.evicted evicted; moved = moved_noted Hit evicted moved a e }
stays_noted Filled evicted moved a e =
    record { hit = last_stays a.hit 0; filled = last_stays a.filled 1; evicted = last_stays a.evicted evicted; moved = moved_noted Filled evicted moved a e }
stays_noted (Bypass why) evicted moved a e =
    record { hit = last_stays a.hit 0; filled = last_stays a.filled 0; evicted = last_stays a.evicted evicted; moved = moved_noted (Bypass why) evicted moved a e }

module _ (files : Option Files) {W : Type 0} (pool : Pool W) (id : ℕ) (old new : PoolSeat W) (a : CacheTotals) where
  grip_step : (k : Grip) (at : ℕ) (bytes : List ℕ) → seat_id old ≡ id → ReadsGrip files pool old new k at bytes → Step files (sizes_of pool) id (view old) (view new) a a
  grip_step (grip.Pin pin) at bytes same r =
      let cell : ℕ = (pin_block pin).place * block_cells (sizes_of pool) + at / 8 in
      let made = subst (λ (i : ℕ). AreMade files (sizes_of pool) i (load_steps cell r.0) (view old) (view new)) same r.1.loads in
      plain files (sizes_of pool) id (load_steps cell r.0) (view old) (view new) a made (loads_touch cell r.0) (loads_publish cell r.0) (loads_release cell r.0)
  grip_step (grip.Bypass key) at bytes same r = same_view files (sizes_of pool) id (view old) (view new) a r

  out_step : (ranged : Ranged) (how : How) → seat_id old ≡ id → IsReadOut files pool old new ranged how → Step files (sizes_of pool) id (view old) (view new) a a
  out_step ranged Hit same out = grip_step ranged.held 0 out.0 same out.1
  out_step ranged Filled same out = same_view files (sizes_of pool) id (view old) (view new) a (ap (λ (s : PoolSeat W). view s) out)
  out_step ranged (Bypass why) same out = same_view files (sizes_of pool) id (view old) (view new) a (ap (λ (s : PoolSeat W). view s) out)

  done_step : (k : Grip) → seat_id old ≡ id → EndsGrip files pool old new k → Step files (sizes_of pool) id (view old) (view new) a a
  done_step (grip.Pin pin) same d =
      let back : WordStep = Uncounted (pin_header pin) d.0 in
      let one = one_made files (sizes_of pool) (seat_id old) back (view old) (view new) d.1 in
      let made = subst (λ (i : ℕ). AreMade files (sizes_of pool) i (back ∷ []) (view old) (view new)) same one in
      plain files (sizes_of pool) id (back ∷ []) (view old) (view new) a made refl refl refl
  done_step (grip.Bypass key) same d = same_view files (sizes_of pool) id (view old) (view new) a d

module _ (files : Option Files) {W S : Type 0} (reads : S → Option (List FileRange)) where
  abbrev Stepped : Pool W → ℕ → Moment W S → Moment W S → Type 0
  Stepped pool id m n = Step files (sizes_of pool) id (view m.desk.seat.now) (view n.desk.seat.now) m.desk.totals.now n.desk.totals.now

  -- the same, where the count is called otherwise
  counted_as : (pool : Pool W) (id : ℕ) (v w : View) (a b c : CacheTotals) → b ≡ c → Step files (sizes_of pool) id v w a c → Step files (sizes_of pool) id v w a b
  counted_as pool id v w a b c e s = subst (λ (t : CacheTotals). Step files (sizes_of pool) id v w a t) (sym e) s

  got_steps : (key : Key) (ranged : Ranged) (m n : Moment W S) → IsGot files reads key ranged m.desk n.desk → Stepped (pool_of m.desk.cache.now) (seat_id m.desk.seat.now) m n
  got_steps key ranged m n got =
      let pool = pool_of m.desk.cache.now in
      let id = seat_id m.desk.seat.now in
      let a = m.desk.totals.now in
      let b = noted (how_of ranged.how) ranged.evicted ranged.moved a in
      let v = view m.desk.seat.now in
      let u = view got.between in
      let w = view n.desk.seat.now in
      let ss = got.fetched.0 in
      let fetch = got.fetched.1 in
      let first : Step files (sizes_of pool) id v u a b = record {
        steps = ss;
        made = right_made files (sizes_of pool) id key (IsHit ranged.how) v [] ss v u fetch.right;
        hit = hit_noted ranged.how ranged.evicted ranged.moved a (touchings ss) (publications ss) fetch.touched fetch.published;
        filled = filled_noted ranged.how ranged.evicted ranged.moved a (publications ss) fetch.published;
        evicted = evicted_noted ranged.how ranged.evicted ranged.moved a (releases ss) fetch.evicted;
        stays = stays_noted ranged.how ranged.evicted ranged.moved a got.unmoved;
      } in
      let out = out_step files pool id got.between n.desk.seat.now b ranged ranged.how got.id got.out in
      counted_as pool id v w a n.desk.totals.now b got.counted (step_then files (sizes_of pool) id v u w a b b first out)

  missed_steps : (key : Key) (m n : Moment W S) → IsMissed files reads key m.desk n.desk → Stepped (pool_of m.desk.cache.now) (seat_id m.desk.seat.now) m n
  missed_steps key m n missed =
      let pool = pool_of m.desk.cache.now in
      let id = seat_id m.desk.seat.now in
      let a = m.desk.totals.now in
      let v = view m.desk.seat.now in
      let w = view n.desk.seat.now in
      let ss = missed.failed.0 in
      let fetch = missed.failed.1 in
      let bare : touchings ss ≡ 0 = (let e = ap touchings fetch.steps in let r = look_touchings fetch.rest fetch.only in omega (arith, e, r)) in
      let none : publications ss ≡ 0 = (let e = ap publications fetch.steps in let r = look_publishes fetch.rest fetch.only in omega (arith, e, r)) in
      let gone : releases ss ≡ 0 = (let e = ap releases fetch.steps in let r = look_releases fetch.rest fetch.only in omega (arith, e, r)) in
      counted_as pool id v w a n.desk.totals.now a missed.uncounted
      (plain files (sizes_of pool) id ss v w a (right_made files (sizes_of pool) id key ⊥ v [] ss v w fetch.right) bare none gone)

  deed_steps : (d : Deed) (m n : Moment W S) → Does files reads d m n → Stepped (pool_of m.desk.cache.now) (seat_id m.desk.seat.now) m n × SameDesk m.desk n.desk
  deed_steps (gets slot key) m n d = (got_steps key d.0 m n d.1, d.1.same)
  deed_steps (misses key) m n d = (missed_steps key m n d.0, d.0.same)
  deed_steps (drops slot key) m n d =
      let pool = pool_of m.desk.cache.now in
      let id = seat_id m.desk.seat.now in
      let a = m.desk.totals.now in (
        counted_as pool id (view m.desk.seat.now) (view n.desk.seat.now) a n.desk.totals.now a d.3.uncounted
            (done_step files pool id m.desk.seat.now n.desk.seat.now a (d.0).ranged.held refl d.3.done),
        d.3.same,
      )

  all_steps : (ds : List Deed) (m n : Moment W S) → Ran files reads m ds n → Stepped (pool_of m.desk.cache.now) (seat_id m.desk.seat.now) m n
  all_steps [] m n e =
      let P : Moment W S → Type 0 = λ x. Stepped (pool_of m.desk.cache.now) (seat_id m.desk.seat.now) m x in
      subst P (sym e) (same_view files (sizes_of (pool_of m.desk.cache.now)) (seat_id m.desk.seat.now) (view m.desk.seat.now) (view m.desk.seat.now) m.desk.totals.now refl)
  all_steps (d ∷ ds) m n r =
      let pool = pool_of m.desk.cache.now in
      let id = seat_id m.desk.seat.now in
      let one = deed_steps d m r.0 r.1 in
      let rest = all_steps ds r.0 n r.2 in
      let same = one.1 in
      let rest' = subst (λ (i : ℕ). Stepped (pool_of r.0.desk.cache.now) i r.0 n) same.id rest in
      let rest'' = subst (λ (c : Cache W). Stepped (pool_of c) id r.0 n) same.cache rest' in
      step_then files (sizes_of pool) id (view m.desk.seat.now) (view r.0.desk.seat.now) (view n.desk.seat.now) m.desk.totals.now r.0.desk.totals.now n.desk.totals.now
      one.0 rest''

  -- it is the same seat
  all_ids : (ds : List Deed) (m n : Moment W S) → Ran files reads m ds n → seat_id n.desk.seat.now ≡ seat_id m.desk.seat.now
  all_ids [] m n e = ap (λ (x : Moment W S). seat_id x.desk.seat.now) e
  all_ids (d ∷ ds) m n r = all_ids ds r.0 n r.2 ∙ (deed_steps d m r.0 r.1).1.id

  pub steps_counted : (m n : Moment W S) (ds : List Deed) → Ran files reads m ds n → AreSeatsSteps files m n
  steps_counted m n ds r =
      let s = all_steps ds m n r in
      record { steps = s.steps; made = s.made; same = all_ids ds m n r; hit = s.hit; filled = s.filled; evicted = s.evicted; moved = s.stays.moved }

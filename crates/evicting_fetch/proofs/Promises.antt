-- A fetch by its parts: what its answers tell, and what they leave.
use Rattle.std.proofs.Common.{◌≡◌, ◌≢◌, ℕ, ◌+◌, ◌-◌, ◌^◌, ◌<◌, min, List, [], ◌∷◌, ◌++◌, length, refl, sym, ap, ◌∙◌, subst, inl, inr, arith}
use Rattle.std.specs.Prelude.{Option, Some, IsSomeAnd, ◌⊎◌, slice_index, slice_set}
use Rattle.std.proofs.lemmas.Bool.{cases_eq}
use Rattle.std.proofs.lemmas.List.{append_assoc, append-nil, get_or-set_other, get_or-set_same}
use Rattle.buffer_word.specs.declared.key_word.Key.{Key}
use Rattle.pool_model.specs.declared.block.Block.{Block}
use Rattle.pool_model.specs.Content.{Files}
use Rattle.pool_rule.specs.declared.geometry.Geometry.{Geometry}
use Rattle.pool_rule.specs.declared.geometry.WordName.TheVariants.{Arena, Clock, State}
use Rattle.pool_rule.specs.declared.view.View.{View}
use Rattle.pool_rule.specs.declared.word_step.WordStep.{WordStep}
use Rattle.pool_rule.specs.declared.word_step.WordStep.TheVariants.{EvictBegun, Granted, HeaderReleased, Missed, Opened, Updated}
use Rattle.pool_rule.specs.Layout.{clock_word, header_word, headers_of}
use Rattle.pool_rule.specs.WordSteps.{IsMade}
use Rattle.buffer_pool.specs.declared.token.Pin.{Pin}
use Rattle.buffer_pool.specs.Made.{AreMade, touch_steps}
use Rattle.buffer_pool.specs.Pools.{pin_header}
use Rattle.cache_lookup.specs.declared.ways.Found.TheVariants as found
use Rattle.cache_lookup.specs.Before.{HasHoldMore, IsAsBefore}
use Rattle.cache_lookup.specs.Callers.{before_then, known_found, known_left, right_any, right_parts, right_then}
use Rattle.cache_lookup.specs.LookUps.{IsBusy, IsLookStep, IsLookUp, IsMissing, new_way, no_buffer, other_key}
use Rattle.cache_lookup.specs.LookUps as look
use Rattle.cache_lookup.specs.Right.{AreRight}
use Rattle.cache_lookup.specs.Sets.{IsWay, first_way}
use Rattle.cache_lookup.specs.Trails.{Among, events, first_load, last_left, last_load}
use Rattle.cache_lookup.specs.TrailLaws.{among_back, among_either, among_front, events-append, first_load-front, last_left-back, last_load-back}
use Rattle.cache_placement.specs.declared.why.Placed.TheVariants as placed
use Rattle.cache_placement.specs.declared.why.Why.{Why}
use Rattle.cache_placement.specs.declared.why.Why.TheVariants.{NoRoom, Raced, Busy, SetFull, PolicyOut}
use Rattle.cache_placement.specs.Free.{IsFirstFree, IsOrder, NoneFree}
use Rattle.cache_placement.specs.Placements.{HasNoRoom, IsArenaRaced, IsHeaderRaced, IsPlaceStep, IsPlacement}
use Rattle.cache_placement.specs.Placements as placement
use Rattle.cache_room.specs.declared.wanted.Wanted.{Wanted}
use Rattle.cache_room.specs.Quiet.{IsQuiet}
use Rattle.cache_room.specs.QuietLaws.{quiet_then, quiet_updated, touch_before, touch_right}
use Rattle.cache_room.specs.Rooms.{IfNoRoom, IsRoom, IsSetTried, IsWayFreed, counted, in_free, in_freed, in_none}
use Rattle.cache_room.specs.TouchingLaws.{look_touchings, place_touchings}
use Rattle.cache_room.specs.Touchings.{touchings-append}
use Rattle.cache_room.specs.Tried.{IsTried, last_saw, releases}
use Rattle.cache_room.specs.TriedLaws.{last_saw-back, no_releases, place_releases, releases-append, tried_back, tried_front}
use Rattle.range_cache.specs.declared.ranged.Grip.TheVariants as grip
use Rattle.range_cache.specs.declared.ranged.How.TheVariants.{Hit, Filled, Bypass}
use Rattle.cache_placement.specs.Publications.{publications-append}
use Rattle.range_cache.specs.Callers.{leaves_then, look_publishes, right_trail}
use Rattle.range_cache.specs.Exact.{IsInNoWay}
use Rattle.range_cache.specs.Fetches.{IsLost, IsNowhere}
use Rattle.range_cache.specs.Ranges.{ranged_by}
use Rattle.cache_placement.specs.Asking.{AsksNone, asked_by}
use Rattle.cache_room.specs.Seeking.{SeeksRoom}
use Rattle.cache_room.specs.SeekingLaws.{seeks_before, seeks_only}
use Rattle.evicting_fetch.specs.Needs.{IsNeeded}
use Rattle.evicting_fetch.specs.Fetches.{IsEarly, IsFailedFetch, IsFetch, IsLooked, IsWayRaced, Tells, next_tick, ticked}

-- ---- the steps of a look-up

no_grant : (b : Block) (f : ℕ) → IsLookStep (Granted b f) → ⊥
no_grant b f h = elim h [ ]

no_open : (header : ℕ) (b : Block) (cells : List ℕ) → IsLookStep (Opened header b cells) → ⊥
no_open header b cells h = elim h [ ]

no_evict : (header f : ℕ) → IsLookStep (EvictBegun header f) → ⊥
no_evict header f h = elim h [ ]

no_release : (header : ℕ) (b : Block) (f : ℕ) → IsLookStep (HeaderReleased header b f) → ⊥
no_release header b f h = elim h [ ]

-- those of a touch
touch_grants : (b : Block) (f header tick touches last : ℕ) → Among (Granted b f) (touch_steps header tick touches last) → ⊥
touch_grants b f header tick touches last there = elim there [ inl e ↦ (let clash : ⊥ = cc in clash) | inr more ↦ elim more [ inl e ↦ (let clash : ⊥ = cc in clash) | inr ended ↦ ended ] ]

touch_opens : (h : ℕ) (b : Block) (cells : List ℕ) (header tick touches last : ℕ) → Among (Opened h b cells) (touch_steps header tick touches last) → ⊥
touch_opens h b cells header tick touches last there = elim there [ inl e ↦ (let clash : ⊥ = cc in clash) | inr more ↦ elim more [ inl e ↦ (let clash : ⊥ = cc in clash) | inr ended ↦ ended ] ]

touch_asks : (header tick touches last : ℕ) → AsksNone (touch_steps header tick touches last)
touch_asks header tick touches last s there =
    elim there [
      | inl e ↦ ap asked_by (sym e)
      | inr more ↦ elim more [ inl e ↦ ap asked_by (sym e) | inr ended ↦ absurd ended ]
    ]

-- no header was released
none_needed : (g : Geometry) (key : Key) (ss : List WordStep) → releases ss ≡ 0 → IsNeeded g key ss
none_needed g key ss none =
    record { front = []; back = ss; parts = refl; for_way = inl refl; for_block = seeks_only g key.len ss none }

-- none was behind those that were needed
needed_before : (g : Geometry) (key : Key) (ss end : List WordStep) → IsNeeded g key ss → releases end ≡ 0 → AsksNone end → IsNeeded g key (ss ++ end)
needed_before g key ss end h none quiet =
    record {
      front = h.front;
      back = h.back ++ end;
      parts = ap (λ x. x ++ end) h.parts ∙ append_assoc h.front h.back end;
      for_way = h.for_way;
      for_block = seeks_before g key.len h.back end h.for_block none quiet;
    }

hold_since : (header : ℕ) (v u w : View) → IsAsBefore v u → HasHoldMore u w header → HasHoldMore v w header
hold_since header v u w c h =
    record {
      claims = λ x. h.claims x ∙ c.claims x;
      grants = λ p. h.grants p ∙ c.grants p;
      others = λ x apart. h.others x apart ∙ c.holds x;
      was = sym (c.holds header) ∙ h.was;
    }

module _ (files : Option Files) (g : Geometry) (id : ℕ) (key : Key) (clock : ℕ) (v u0 : View) (t : IsMade files g id (Updated Clock clock (next_tick clock)) v u0) where
  abbrev pub tick : WordStep
  tick = Updated Clock clock (next_tick clock)

  tick_quiet : IsQuiet files g id key v (tick ∷ []) u0
  tick_quiet = quiet_updated files g id key Clock clock (next_tick clock) v u0 refl t

  tick_known : (words : List ℕ) → v.known ≡ Some words → u0.known ≡ Some (ticked g words)
  tick_known words e =
      known_left files g id tick v u0 words e t ∙ ap (λ n. Some (slice_set words (clock_word g) (next_tick n))) (sym (known_found files g id tick v u0 words e t))

  module _ (ss : List WordStep) (states : List ℕ) (u1 : View) where
    look_releases : ((s : WordStep) → Among s ss → IsLookStep s) → releases ss ≡ 0
    look_releases only = no_releases ss (λ header b f there. no_release header b f (only (HeaderReleased header b f) there))

    look_early : ((s : WordStep) → Among s ss → IsLookStep s) → (header f : ℕ) → Among (EvictBegun header f) (tick ∷ ss) → ⊥
    look_early only header f (inl e) = let clash : ⊥ = cc in clash
    look_early only header f (inr there) = no_evict header f (only (EvictBegun header f) there)

    look_grants : ((s : WordStep) → Among s ss → IsLookStep s) → (b : Block) (f : ℕ) → Among (Granted b f) (tick ∷ ss) → ⊥
    look_grants only b f (inl e) = let clash : ⊥ = cc in clash
    look_grants only b f (inr there) = no_grant b f (only (Granted b f) there)

    look_opens : ((s : WordStep) → Among s ss → IsLookStep s) → (header : ℕ) (b : Block) (cells : List ℕ) → Among (Opened header b cells) (tick ∷ ss) → ⊥
    look_opens only header b cells (inl e) = let clash : ⊥ = cc in clash
    look_opens only header b cells (inr there) = no_open header b cells (only (Opened header b cells) there)

    pub hit : (pin : Pin) (touches last : ℕ) (x : View) → IsLookUp files g id key ss states u0 u1 (found.Hit pin) → AreMade files g id (touch_steps (pin_header pin) (next_tick clock) touches last) u1 x → IsFetch files g id key (tick ∷ (ss ++ touch_steps (pin_header pin) (next_tick clock) touches last)) v x (ranged_by Hit 0 (grip.Pin pin))
    hit pin touches last x l made =
        let end = touch_steps (pin_header pin) (next_tick clock) touches last in
        let whole = right_parts files g id key (Unit {0}) v u0 u1 (tick ∷ []) ss (tick_hit (Unit {0})) tick_quiet.before l.right in
        let sum = releases-append ss end in
        let none = look_releases l.only in
        record {
          right = right_then files g id key (Unit {0}) v [] (tick ∷ ss) end v u1 x whole (touch_right files g id key (Unit {0}) v (tick ∷ ss) (pin_header pin) (next_tick clock) touches last u1 x made);
          leaves = leaves_then v u1 x (ranged_by Hit 0 (grip.Pin pin)) (hold_since (pin_header pin) v u0 u1 tick_quiet.before l.leaves) (touch_before files g id key (pin_header pin) (next_tick clock) touches last u1 x made);
          tells = omega (arith, sum, none);
          granted = λ b f there.
              absurd
              (elim (among_either (Granted b f) (tick ∷ ss) end there) [
                | inl front ↦ look_grants l.only b f front
                | inr rest ↦ touch_grants b f (pin_header pin) (next_tick clock) touches last rest
              ]);
          opened = λ h b cells there.
              absurd
              (elim (among_either (Opened h b cells) (tick ∷ ss) end there) [
                | inl front ↦ look_opens l.only h b cells front
                | inr rest ↦ touch_opens h b cells (pin_header pin) (next_tick clock) touches last rest
              ]);
          published = (let made = publications-append ss end in let no = look_publishes ss l.only in omega (arith, made, no));
          touched = (let made = touchings-append ss end in let no = look_touchings ss l.only in omega (arith, made, no));
          trail = right_trail files g id key (Unit {0}) v [] (tick ∷ (ss ++ end)) v x
              (right_then files g id key (Unit {0}) v [] (tick ∷ ss) end v u1 x whole (touch_right files g id key (Unit {0}) v (tick ∷ ss) (pin_header pin) (next_tick clock) touches last u1 x made));
          clock = record { clock = clock; between = ss; end = end; steps = refl; touch = (touches, last, refl) };
          evicted = omega (arith, sum, none);
          needed = none_needed g key (tick ∷ (ss ++ end)) (omega (arith, sum, none));
          looked = λ words known. let e = l.exact (ticked g words) (tick_known words known) in (e.0, e.1, e.3);
        }
      where
        tick_hit : (is_hit : Type 0) → AreRight files g id key is_hit v [] v (tick ∷ []) u0
        tick_hit is_hit = right_any files g id key ⊥ is_hit (λ clash. absurd clash) v [] (tick ∷ []) v u0 tick_quiet.right

    look_quiet : IsAsBefore u0 u1 → AreRight files g id key ⊥ u0 [] u0 ss u1 → ((s : WordStep) → Among s ss → IsLookStep s) → IsQuiet files g id key v (tick ∷ ss) u1
    look_quiet before right only =
        quiet_then files g id key v u0 u1 (tick ∷ []) ss tick_quiet
        (record {
          right = right;
          before = before;
          ungranted = λ b f there. no_grant b f (only (Granted b f) there);
          unopened = λ h b cells there. no_open h b cells (only (Opened h b cells) there);
          unpublished = look_publishes ss only;
          untouched = look_touchings ss only;
        })

    pub busy : (word : ℕ) → IsLookUp files g id key ss states u0 u1 (found.Busy word) → IsFetch files g id key (tick ∷ ss) v u1 (ranged_by (Bypass (Busy word)) 0 (grip.Bypass key))
    busy word l =
        let q = look_quiet l.leaves l.right l.only in
        let none = look_releases l.only in
        record {
          right = q.right;
          leaves = q.before;
          tells = (omega (arith, none), record { front = tick ∷ ss; back = []; parts = sym (append-nil (tick ∷ ss)); early = look_early l.only; told = busy_later l.tells });
          granted = λ b f there. absurd (q.ungranted b f there);
          opened = λ h b cells there. absurd (q.unopened h b cells there);
          published = q.unpublished;
          touched = q.untouched;
          trail = right_trail files g id key ⊥ v [] (tick ∷ ss) v u1 q.right;
          clock = record { clock = clock; between = ss; end = []; steps = ap (λ x. tick ∷ x) (sym (append-nil ss)); touch = refl };
          evicted = omega (arith, none);
          needed = none_needed g key (tick ∷ ss) (omega (arith, none));
          looked = λ words known. l.exact (ticked g words) (tick_known words known);
        }
      where
        busy_later : IsBusy g key ss word → IsBusy g key (tick ∷ ss) word
        busy_later (new_way header way shown new state) = new_way header way (inr shown) new (inr state)
        busy_later (look.counted header way shown dead count) = look.counted header way (inr shown) dead (inr count)

    failed : IsAsBefore u0 u1 → AreRight files g id key ⊥ u0 [] u0 ss u1 → ((s : WordStep) → Among s ss → IsLookStep s) → ((words : List ℕ) → u0.known ≡ Some words → u1.known ≡ Some words) → IsFailedFetch files g id key (tick ∷ ss) v u1
    failed before right only words =
        let q = look_quiet before right only in
        record { right = q.right; clock = clock; rest = ss; steps = refl; only = only; trail = right_trail files g id key ⊥ v [] (tick ∷ ss) v u1 q.right; leaves = q.before; words = λ ws known. words (ticked g ws) (tick_known ws known) }

    pub busy_failed : (word : ℕ) → IsLookUp files g id key ss states u0 u1 (found.Busy word) → IsFailedFetch files g id key (tick ∷ ss) v u1
    busy_failed word l = failed l.leaves l.right l.only (λ words known. (l.exact words known).4)

    pub missing_failed : IsLookUp files g id key ss states u0 u1 found.Missing → IsFailedFetch files g id key (tick ∷ ss) v u1
    missing_failed l = failed l.leaves l.right l.only (λ words known. (l.exact words known).1)

    -- ---- no way has the key

    module _ (l : IsLookUp files g id key ss states u0 u1 found.Missing) where
      abbrev pub pre : List WordStep
      pre = tick ∷ ss

      pre_quiet : IsQuiet files g id key v pre u1
      pre_quiet = look_quiet l.leaves l.right l.only

      passed : (header : ℕ) → IsWay g key header → (way : ℕ) × (way < 8) × (header ≡ first_way g key + way)
      passed header way = let a = way.0 in let b = way.1 in (header - first_way g key, omega (arith, a, b), omega (arith, a))

      missing_later : (header : ℕ) → IsMissing key ss header → IsMissing key pre header
      missing_later header (other_key shown ne at) = other_key shown ne (inr at)
      missing_later header (no_buffer word gone at) = no_buffer word gone (inr at)

      nowhere : IsNowhere g key pre
      nowhere header way =
          let p = passed header way in
          let P : ℕ → Type 0 = λ n. IsMissing key pre n in
          subst P (sym p.2) (missing_later (first_way g key + p.0) (l.tells p.0 p.1).missing)

      nowhere_early : (all back : List WordStep) → all ≡ pre ++ back → IsEarly (IsNowhere g key) all
      nowhere_early all back e = record { front = pre; back = back; parts = e; early = look_early l.only; told = nowhere }

      first_state : (all back : List WordStep) → all ≡ pre ++ back → (way : ℕ) → way < 8 → first_load (header_word g (first_way g key + way)) (events g all) ≡ Some (slice_index states way)
      first_state all back e way lt =
          let word : ℕ = header_word g (first_way g key + way) in
          ap (λ x. first_load word (events g x)) e
          ∙ (ap (first_load word) (events-append g pre back) ∙ first_load-front word (slice_index states way) (events g pre) (events g back) (l.tells way lt).first)

      in_no_way : (words : List ℕ) → v.known ≡ Some words → IsInNoWay g key (ticked g words)
      in_no_way words known way lt = ((l.exact (ticked g words) (tick_known words known)).0 way (omega arith) lt).0

      none_before : (more : List WordStep) → releases (pre ++ more) ≡ releases more
      none_before more =
          let sum = releases-append ss more in
          let none = look_releases l.only in
          omega (arith, sum, none)

      -- the set is full
      pub full : (seen : List ℕ) (w : View) → NoneFree states → IsSetTried files g id key (first_way g key) u1 seen w → (all : List WordStep) × IsFetch files g id key all v w (ranged_by (Bypass (SetFull seen)) 0 (grip.Bypass key))
      full seen w none s =
          let q = quiet_then files g id key v u1 w pre s.ss pre_quiet s.quiet in
          let zero = s.none in
          let sum = none_before s.ss in
          let all : List WordStep = pre ++ s.ss in
          let P : Option ℕ → Type 0 = λ o. IsSomeAnd o (λ word. word ≢ 8) in (
            all,
            record {
              right = q.right;
              leaves = q.before;
              tells = (
                nowhere_early all s.ss refl,
                record {
                  first = λ way lt. subst P (sym (first_state all s.ss refl way lt)) (none way lt);
                  none = omega (arith, sum, zero);
                  last = λ way lt.
                      let word : ℕ = header_word g (first_way g key + way) in
                      ap (last_saw word) (events-append g pre s.ss) ∙ last_saw-back word (slice_index seen way) (events g pre) (events g s.ss) (s.last way lt);
                  tried = λ way lt. tried_back (first_way g key + way) pre s.ss (s.tried way lt);
                },
              );
              granted = λ b f there. absurd (q.ungranted b f there);
              opened = λ h b cells there. absurd (q.unopened h b cells there);
              published = q.unpublished;
              touched = q.untouched;
              trail = right_trail files g id key ⊥ v [] all v w q.right;
              clock = record { clock = clock; between = ss ++ s.ss; end = []; steps = ap (λ x. tick ∷ x) (sym (append-nil (ss ++ s.ss))); touch = refl };
              evicted = omega (arith, sum, zero);
              needed = none_needed g key all (omega (arith, sum, zero));
              looked = λ words known. in_no_way words known;
            },
          )

      -- the range was placed, behind quiet steps
      module _ (order : ℕ) (is : IsOrder g key.len order) (states' : List ℕ) (from until n : ℕ) (more ts : List WordStep) (mid w : View) (q : IsQuiet files g id key v (pre ++ more) mid) (count : n ≡ releases more)
          (free : (way : ℕ) → IsFirstFree states' way → (slice_index states way ≡ 8) ⊎ ((b : Block) × (f : ℕ) × Among (HeaderReleased (first_way g key + way) b f) more)) (need : IsNeeded g key ((pre ++ more) ++ ts)) where
        abbrev pub all : List WordStep
        all = (pre ++ more) ++ ts

        parts : all ≡ pre ++ (more ++ ts)
        parts = append_assoc pre more ts

        released : ((s : WordStep) → Among s ts → IsPlaceStep s) → n ≡ releases all
        released only =
            let sum = releases-append (pre ++ more) ts in
            let front = none_before more in
            let none = place_releases ts only in
            omega (arith, sum, front, none, count)

        pub filled : (pin : Pin) (touches last : ℕ) (x : View) → IsPlacement files g id key order (first_way g key) states' from until ts mid w (placed.Filled pin) → AreMade files g id (touch_steps (pin_header pin) (next_tick clock) touches last) w x → (steps : List WordStep) × IsFetch files g id key steps v x (ranged_by Filled n (grip.Pin pin))
        filled pin touches last x p made =
            let end = touch_steps (pin_header pin) (next_tick clock) touches last in
            let whole = right_parts files g id key ⊥ v mid w (pre ++ more) ts q.right q.before p.right in
            let sum = releases-append all end in
            let count' = released p.only in (
              all ++ end,
              record {
                right = right_then files g id key ⊥ v [] all end v w x whole (touch_right files g id key ⊥ v all (pin_header pin) (next_tick clock) touches last w x made);
                leaves = leaves_then v w x (ranged_by Filled n (grip.Pin pin)) (hold_since (pin_header pin) v mid w q.before p.leaves) (touch_before files g id key (pin_header pin) (next_tick clock) touches last w x made);
                tells = nowhere_early (all ++ end) ((more ++ ts) ++ end) (ap (λ z. z ++ end) parts ∙ append_assoc pre (more ++ ts) end);
                granted = λ b f there. inl tt;
                opened = λ h b cells there. tt;
                published = (let one = publications-append (pre ++ more) ts in let two = publications-append all end in let no = q.unpublished in let is_one = p.published in omega (arith, one, two, no, is_one));
                touched = (let one = touchings-append (pre ++ more) ts in let two = touchings-append all end in let no = q.untouched in let none = place_touchings ts p.only in omega (arith, one, two, no, none));
                trail = right_trail files g id key ⊥ v [] (all ++ end) v x
                    (right_then files g id key ⊥ v [] all end v w x whole (touch_right files g id key ⊥ v all (pin_header pin) (next_tick clock) touches last w x made));
                clock = record { clock = clock; between = (ss ++ more) ++ ts; end = end; steps = refl; touch = (touches, last, refl) };
                evicted = omega (arith, sum, count');
                needed = needed_before g key all end need (omega arith) (touch_asks (pin_header pin) (next_tick clock) touches last);
                looked = λ words known. in_no_way words known;
              },
            )

        arena_raced : (saw : ℕ) → IsArenaRaced g ts saw → IsArenaRaced g all saw
        arena_raced saw r =
            record {
              arena = r.arena;
              inside = r.inside;
              earlier = (pre ++ more) ++ r.earlier;
              later = r.later;
              parts = ap (λ x. (pre ++ more) ++ x) r.parts ∙ sym (append_assoc (pre ++ more) r.earlier (Missed (Arena r.arena) saw ∷ r.later));
              word = r.word;
              left = ap (last_left r.arena) (events-append g (pre ++ more) r.earlier) ∙ last_left-back r.arena r.word (events g (pre ++ more)) (events g r.earlier) r.left;
              other = r.other;
            }

        way_raced : (saw way : ℕ) → IsFirstFree states' way → IsHeaderRaced (first_way g key + way) ts saw → IsWayRaced g key all saw
        way_raced saw way first r =
            let lt = first.inside in
            let header : ℕ = first_way g key + way in
            record {
              header = header;
              way = (omega arith, omega (arith, lt));
              raced = record { missed = among_back (Missed (State header) saw) (pre ++ more) ts r.missed; other = r.other };
              free = elim (free way first) [
                | inl eight ↦ inl (first_state all (more ++ ts) parts way lt ∙ ap Some eight)
                | inr out ↦ inr (out.0, out.1, among_front (HeaderReleased header out.0 out.1) (pre ++ more) ts (among_back (HeaderReleased header out.0 out.1) pre more out.2))
              ];
            }

        why_tells : (some : (way : ℕ) × IsFirstFree states' way) → (why : Why) → IfNoRoom (placed.Bypass why) ((from ≡ 0) × (until ≡ g.arenas) × ((header : ℕ) → header < headers_of g → IsTried header more)) → releases ts ≡ 0 → placement.Tells g order (first_way g key) states' from until ts (placed.Bypass why) → Tells g key all (Bypass why)
        why_tells some (NoRoom words) tried none t =
            let P : ℕ × ℕ → Type 0 = λ z. HasNoRoom g order z.0 z.1 ts words in
            let a = tried.0 in
            let b = tried.1 in (
              nowhere_early all (more ++ ts) parts,
              record {
                order = order;
                is_order = is;
                earlier = pre ++ more;
                later = ts;
                parts = refl;
                none = none;
                room = subst P (λ i. (a i, b i)) t;
                tried = λ header lt. tried_front header (pre ++ more) ts (tried_back header pre more (tried.2 header lt));
              },
            )
        why_tells some (Raced saw) tried none t = (
          nowhere_early all (more ++ ts) parts,
          elim t [ inl arena ↦ inl (arena_raced saw arena) | inr way ↦ inr (way_raced saw way.0 way.1 way.2) ],
        )
        why_tells some (Busy word) tried none t = absurd t
        why_tells some (SetFull seen) tried none t = absurd (t.0 some.0 some.1.inside some.1.free)
        why_tells some PolicyOut tried none t = t

        lost_later : (why : Why) → placement.IsLost ts (placed.Bypass why) → IsLost all (Bypass why)
        lost_later why h = (h.0, h.1, ap Bypass (let e : why ≡ Raced h.1 = cc in e), among_back (Missed (State h.0) h.1) (pre ++ more) ts h.3)

        looked_why : (why : Why) → placement.Tells g order (first_way g key) states' from until ts (placed.Bypass why) → (words : List ℕ) → v.known ≡ Some words → IsLooked g key (ticked g words) w (Bypass why)
        looked_why (NoRoom seen) t words known = in_no_way words known
        looked_why (Raced saw) t words known = in_no_way words known
        looked_why (Busy word) t words known = absurd t
        looked_why (SetFull seen) t words known = in_no_way words known
        looked_why PolicyOut t words known = t

        pub bypassed : (some : (way : ℕ) × IsFirstFree states' way) → (why : Why) → IfNoRoom (placed.Bypass why) ((from ≡ 0) × (until ≡ g.arenas) × ((header : ℕ) → header < headers_of g → IsTried header more)) → IsPlacement files g id key order (first_way g key) states' from until ts mid w (placed.Bypass why) → (steps : List WordStep) × IsFetch files g id key steps v w (ranged_by (Bypass why) n (grip.Bypass key))
        bypassed some why tried p = (
          all,
          record {
            right = right_parts files g id key ⊥ v mid w (pre ++ more) ts q.right q.before p.right;
            leaves = before_then v mid w q.before p.leaves;
            tells = why_tells some why tried (place_releases ts p.only) p.tells;
            granted = λ b f there.
                elim (among_either (Granted b f) (pre ++ more) ts there) [
                  | inl front ↦ absurd (q.ungranted b f front)
                  | inr rest ↦ elim (p.granted b f rest) [ inl not ↦ absurd not | inr lost ↦ inr (lost_later why lost) ]
                ];
            opened = λ h b cells there.
                elim (among_either (Opened h b cells) (pre ++ more) ts there) [
                  | inl front ↦ absurd (q.unopened h b cells front)
                  | inr rest ↦ p.opened h b cells rest
                ];
            published = (let one = publications-append (pre ++ more) ts in let no = q.unpublished in let is_none = p.published in omega (arith, one, no, is_none));
            touched = (let one = touchings-append (pre ++ more) ts in let no = q.untouched in let none = place_touchings ts p.only in omega (arith, one, no, none));
            trail = right_trail files g id key ⊥ v [] all v w (right_parts files g id key ⊥ v mid w (pre ++ more) ts q.right q.before p.right);
            clock = record { clock = clock; between = (ss ++ more) ++ ts; end = []; steps = ap (λ x. tick ∷ x) (sym (append-nil ((ss ++ more) ++ ts))); touch = refl };
            evicted = released p.only;
            needed = need;
            looked = looked_why why p.tells;
          },
        )

      -- ---- by the room that was made

      set_is : (way other : ℕ) → NoneFree states → IsFirstFree (slice_set states way 8) other → other ≡ way
      set_is way other none first =
          elim (cases_eq other way) [
            | inl same ↦ same
            | inr apart ↦ absurd (none other first.inside (sym (get_or-set_other states way other 8 0 apart) ∙ first.free))
          ]

      freed_first : (way : ℕ) → way < 8 → length states ≡ 8 → NoneFree states → IsFirstFree (slice_set states way 8) way
      freed_first way lt len none =
          record {
            inside = lt;
            free = get_or-set_same states way 8 0 (omega (arith, lt, len));
            lowest = λ lower less eight. none lower (omega (arith, less, lt)) (sym (get_or-set_other states way lower 8 0 (λ e. omega (arith, e, less))) ∙ eight);
          }

      tried_all : (why : Why) (xs ms : List WordStep) (from until : ℕ) → IfNoRoom (placed.Bypass why) ((from ≡ 0) × (until ≡ g.arenas) × ((header : ℕ) → header < headers_of g → IsTried header ms)) → IfNoRoom (placed.Bypass why) ((from ≡ 0) × (until ≡ g.arenas) × ((header : ℕ) → header < headers_of g → IsTried header (xs ++ ms)))
      tried_all (NoRoom words) xs ms from until h = (h.0, h.1, λ header lt. tried_back header xs ms (h.2 header lt))
      tried_all (Raced saw) xs ms from until h = tt
      tried_all (Busy word) xs ms from until h = tt
      tried_all (SetFull seen) xs ms from until h = tt
      tried_all PolicyOut xs ms from until h = tt

      module _ (order : ℕ) (is : IsOrder g key.len order) (len : length states ≡ 8) (w : View) (evicted : ℕ) (few : evicted < 2 ^ 32 - 1) where
        abbrev pub wanted : Wanted
        wanted = record { key = key; order = order; first = first_way g key; states = states }

        free_now : (more : List WordStep) (way : ℕ) → IsFirstFree states way → (slice_index states way ≡ 8) ⊎ ((b : Block) × (f : ℕ) × Among (HeaderReleased (first_way g key + way) b f) more)
        free_now more way first = inl first.free

        free_then : (way : ℕ) (more ms : List WordStep) → NoneFree states → ((b : Block) × (f : ℕ) × Among (HeaderReleased (first_way g key + way) b f) more) → (other : ℕ) → IsFirstFree (slice_set states way 8) other → (slice_index states other ≡ 8) ⊎ ((b : Block) × (f : ℕ) × Among (HeaderReleased (first_way g key + other) b f) (more ++ ms))
        free_then way more ms none out other first =
            let P : ℕ → Type 0 = λ k. (b : Block) × (f : ℕ) × Among (HeaderReleased (first_way g key + k) b f) (more ++ ms) in
            inr (subst P (sym (set_is way other none first)) (out.0, out.1, among_front (HeaderReleased (first_way g key + way) out.0 out.1) more ms out.2))

        freed_quiet : (way : ℕ) (mid end : View) (ms : List WordStep) (f : IsWayFreed files g id key (first_way g key) u1 way mid) → IsQuiet files g id key mid ms end → IsQuiet files g id key v (pre ++ (f.ss ++ ms)) end
        freed_quiet way mid end ms f q = quiet_then files g id key v u1 end pre (f.ss ++ ms) pre_quiet (quiet_then files g id key u1 mid end f.ss ms f.quiet q)

        -- so few that the count doesn't stop
        free_count : (ms : List WordStep) → evicted < 2 ^ 32 - 1 → evicted ≡ counted ms → evicted ≡ releases ms
        free_count ms few e = omega (arith, few, e)

        freed_count : (way k : ℕ) (mid : View) (ms : List WordStep) (f : IsWayFreed files g id key (first_way g key) u1 way mid) → evicted < 2 ^ 32 - 1 → k ≡ counted ms → evicted ≡ min (k + 1) (2 ^ 32 - 1) → evicted ≡ releases (f.ss ++ ms)
        freed_count way k mid ms f few a b =
            let sum = releases-append f.ss ms in
            let one = f.one in
            omega (arith, sum, one, a, b, few)

        -- no header was released for a way
        free_needed : (ms ts : List WordStep) → SeeksRoom g key.len (ms ++ ts) → IsNeeded g key ((pre ++ ms) ++ ts)
        free_needed ms ts s =
            let none = look_releases l.only in
            record { front = pre; back = ms ++ ts; parts = append_assoc pre ms ts; for_way = inl (omega (arith, none)); for_block = s }

        -- one was
        freed_needed : (way : ℕ) (mid : View) (ms ts : List WordStep) → NoneFree states → (f : IsWayFreed files g id key (first_way g key) u1 way mid) → SeeksRoom g key.len (ms ++ ts) → IsNeeded g key ((pre ++ (f.ss ++ ms)) ++ ts)
        freed_needed way mid ms ts none f s =
            let lt = f.inside in
            let header : ℕ = first_way g key + way in
            let front : List WordStep = pre ++ f.ss in
            let P : Option ℕ → Type 0 = λ o. IsSomeAnd o (λ word. word ≢ 8) in
            let sum = none_before f.ss in
            let one = f.one in
            record {
              front = front;
              back = ms ++ ts;
              parts = ap (λ x. x ++ ts) (sym (append_assoc pre f.ss ms)) ∙ append_assoc front ms ts;
              for_way = inr
                  (record {
                    header = header;
                    way = (omega arith, omega (arith, lt));
                    released = (f.released.0, f.released.1, among_back (HeaderReleased header f.released.0 f.released.1) pre f.ss f.released.2);
                    one = omega (arith, sum, one);
                    taken = λ w less. subst P (sym (first_state front f.ss refl w less)) (none w less);
                  });
              for_block = s;
            }

        pub room_filled : (pin : Pin) (touches last : ℕ) (x : View) → IsRoom files g id wanted u1 w evicted (placed.Filled pin) → AreMade files g id (touch_steps (pin_header pin) (next_tick clock) touches last) w x → (steps : List WordStep) × IsFetch files g id key steps v x (ranged_by Filled evicted (grip.Pin pin))
        room_filled pin touches last x (in_free way _ first made_room) made =
            let m = made_room.0 in
            filled order is states m.from m.until evicted m.ss m.ts m.mid w (quiet_then files g id key v u1 m.mid pre m.ss pre_quiet m.quiet) (free_count m.ss few m.count) (free_now m.ss) (free_needed m.ss m.ts made_room.1) pin touches last x m.places made
        room_filled pin touches last x (in_freed way k mid _ none f made_room count) made =
            let m = made_room.0 in
            filled order is (slice_set states way 8) m.from m.until evicted (f.ss ++ m.ss) m.ts m.mid w (freed_quiet way mid m.mid m.ss f m.quiet) (freed_count way k mid m.ss f few m.count count) (free_then way f.ss m.ss none f.released) (freed_needed way mid m.ss m.ts none f made_room.1) pin touches last x m.places made

        pub room_bypassed : (why : Why) → IsRoom files g id wanted u1 w evicted (placed.Bypass why) → (steps : List WordStep) × IsFetch files g id key steps v w (ranged_by (Bypass why) evicted (grip.Bypass key))
        room_bypassed why (in_free way _ first made_room) =
            let m = made_room.0 in
            bypassed order is states m.from m.until evicted m.ss m.ts m.mid w (quiet_then files g id key v u1 m.mid pre m.ss pre_quiet m.quiet) (free_count m.ss few m.count) (free_now m.ss) (free_needed m.ss m.ts made_room.1) (way, first) why m.tried m.places
        room_bypassed why (in_freed way k mid _ none f made_room count) =
            let m = made_room.0 in
            bypassed order is (slice_set states way 8) m.from m.until evicted (f.ss ++ m.ss) m.ts m.mid w (freed_quiet way mid m.mid m.ss f m.quiet) (freed_count way k mid m.ss f few m.count count) (free_then way f.ss m.ss none f.released) (freed_needed way mid m.ss m.ts none f made_room.1)
            (way, freed_first way f.inside len none) why (tried_all why f.ss m.ss m.from m.until m.tried) m.places
        room_bypassed why (in_none seen none s zero) =
            let P : ℕ → Type 0 = λ n. (steps : List WordStep) × IsFetch files g id key steps v w (ranged_by (Bypass (SetFull seen)) n (grip.Bypass key)) in
            subst P (sym zero) (full seen w none s)

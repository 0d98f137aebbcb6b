-- Each step of a look-up is right, and what the look-up leaves.
use Rattle.std.proofs.Common.{◌≡◌, ℕ, ◌+◌, ◌<◌, ◌≤◌, List, [], ◌∷◌, ◌++◌, length, refl, sym, subst, inl, inr, arith}
use Rattle.std.specs.Prelude.{Option, ◌⊎◌}
use Rattle.buffer_word.specs.declared.key_word.Key.{Key}
use Rattle.buffer_word.specs.Changes.{WordTellsKey}
use Rattle.buffer_word.specs.KeyWord.{IsKey, key_word}
use Rattle.pool_model.specs.Content.{Files}
use Rattle.pool_rule.specs.declared.geometry.Geometry.{Geometry}
use Rattle.pool_rule.specs.declared.geometry.WordName.TheVariants.{State, KeyOf}
use Rattle.pool_rule.specs.declared.view.Hold.TheVariants.{Free, Bid}
use Rattle.pool_rule.specs.declared.view.View.{View}
use Rattle.pool_rule.specs.declared.word_step.WordStep.{WordStep}
use Rattle.pool_rule.specs.declared.word_step.WordStep.TheVariants.{Looked, Counted, Uncounted}
use Rattle.pool_rule.specs.Seats.{mark_at}
use Rattle.pool_rule.specs.WordSteps.{IsMade}
use Rattle.buffer_pool.specs.Made.{AreMade}
use Rattle.buffer_pool.specs.Pools.{buffer_key, pin_header}
use Rattle.cache_lookup.specs.declared.ways.Found.{Found}
use Rattle.cache_lookup.specs.declared.ways.Found.TheVariants as found
use Rattle.cache_lookup.specs.declared.ways.Tried.{Tried}
use Rattle.cache_lookup.specs.declared.ways.Tried.TheVariants.{Hit, Busy, Passed}
use Rattle.cache_lookup.specs.Before.{HasHoldMore, HasNoPinOf, IsAsBefore}
use Rattle.cache_lookup.specs.Callers.{right_then}
use Rattle.cache_lookup.specs.LookUps.{IsHit, Leaves}
use Rattle.cache_lookup.specs.Right.{AreRight, IsRight, IsShown}
use Rattle.cache_lookup.specs.Sets.{IsWay, first_way}
use Rattle.cache_lookup.specs.TrailLaws.{among_back, among_front}
use Rattle.cache_lookup.specs.Tries.{LookSteps, PinSteps, TrySteps, held, refused, changed, has_not, is_new, pins, past, passed, hit, busy}
use Rattle.cache_lookup.proofs.Keeping.{IsKept, IsKnownHold, count_key, free_by_load, has_count, kept_back, kept_key, kept_state, known_holds}

abbrev pub IsTriedHit : Tried → Type 0
IsTriedHit (Hit pin) = Unit {0}
IsTriedHit (Busy word) = ⊥
IsTriedHit (Passed seen) = ⊥

abbrev pub KeepsTried : View → View → Tried → Type 0
KeepsTried start w (Hit pin) = HasHoldMore start w (pin_header pin)
KeepsTried start w (Busy word) = IsKept start w
KeepsTried start w (Passed seen) = IsKept start w

abbrev pub KeepsFound : View → View → Found → Type 0
KeepsFound start w (found.Hit pin) = HasHoldMore start w (pin_header pin)
KeepsFound start w (found.Busy word) = IsKept start w
KeepsFound start w found.Missing = IsKept start w

end_kept : (start x w : View) → w ≡ x → IsKept start x → IsKept start w
end_kept start x w e k = let P : View → Type 0 = λ z. IsKept start z in subst P (sym e) k

-- ---- one step

module _ (g : Geometry) (key : Key) (is_hit : Type 0) (start : View) (before : List WordStep) (v : View) where
  right_state : (header seen : ℕ) → IsAsBefore start v → IsRight g key is_hit start before (Looked (State header) seen) v
  right_state header seen c =
      record {
        arena_load = λ a f e. absurd (let no : ⊥ = cc in no);
        state_load = λ h f e. c.claims;
        count = λ h f e. absurd (let no : ⊥ = cc in no);
        pinned = λ h e. absurd (let no : ⊥ = cc in no);
      }

  right_key : (header shown : ℕ) → ((h : ℕ) → shown ≡ key_word key → h ≡ header → ((mark_at v h).hold ≡ (mark_at start h).hold) ⊎ is_hit) → IsRight g key is_hit start before (Looked (KeyOf header) shown) v
  right_key header shown at =
      record {
        arena_load = λ a f e. absurd (let no : ⊥ = cc in no);
        state_load = λ h f e. absurd (let no : ⊥ = cc in no);
        count = λ h f e. absurd (let no : ⊥ = cc in no);
        pinned = λ h e. at h (let s : shown ≡ key_word key = cc in s) (let s : h ≡ header = cc in s);
      }

  right_count : (header word : ℕ) → IsAsBefore start v → IsWay g key header → IsShown key before header → IsRight g key is_hit start before (Counted header word) v
  right_count header word c way shown =
      let P : ℕ → Type 0 = λ n. IsWay g key n × IsShown key before n in
      record {
        arena_load = λ a f e. absurd (let no : ⊥ = cc in no);
        state_load = λ h f e. absurd (let no : ⊥ = cc in no);
        count = λ h f e. let same : header ≡ h = cc in let at = subst P same (way, shown) in (c.claims, at.0, at.1);
        pinned = λ h e. absurd (let no : ⊥ = cc in no);
      }

  right_back : (header left : ℕ) → IsRight g key is_hit start before (Uncounted header left) v
  right_back header left =
      record {
        arena_load = λ a f e. absurd (let no : ⊥ = cc in no);
        state_load = λ h f e. absurd (let no : ⊥ = cc in no);
        count = λ h f e. absurd (let no : ⊥ = cc in no);
        pinned = λ h e. absurd (let no : ⊥ = cc in no);
      }

-- ---- a way

module _ (files : Option Files) (g : Geometry) (id : ℕ) (key : Key) (is_hit : Type 0) (start : View) where
  pub record TryWalk (before : List WordStep) (v : View) (ss : List WordStep) (w : View) (r : Tried) : Type 0 where
    pub right : AreRight files g id key is_hit start before v ss w
    pub keeps : KeepsTried start w r

  module _ (header : ℕ) (way : IsWay g key header) (inside : header < length start.marks) (known : (h : ℕ) → IsKnownHold (mark_at start h).hold) where
    pin_walk : (seen : ℕ) (before : List WordStep) (v w : View) (ss : List WordStep) (r : Tried) → IsKept start v → IsShown key before header → (mark_at start header).hold ≡ Free → (IsTriedHit r → is_hit) → AreMade files g id ss v w → PinSteps key header seen ss r → TryWalk before v ss w r
    pin_walk seen before v w ss r c shown free so all (held word pin live is) =
        let one = has_count files g id start header word inside v all.0 free all.1 c in
        let two = count_key files g id start header (key_word key) inside all.0 all.2.0 all.2.1 one in
        let P : View × ℕ → Type 0 = λ z. HasHoldMore start z.0 z.1 in
        let e = sym all.2.2 in
        let h = sym is in
        record {
          right = (all.0, all.1, right_count g key is_hit start before v header word c.same way shown, (all.2.0, all.2.1, right_key g key is_hit start _ all.0 header (key_word key) (λ n s k. inr (so tt)), all.2.2));
          keeps = subst P (λ i. (e i, h i)) two.more;
        }
    pin_walk seen before v w ss r c shown free so all (refused word left dead) =
        let one = has_count files g id start header word inside v all.0 free all.1 c in
        let two = kept_back files g id start header left inside all.0 all.2.0 all.2.1 one in
        record {
          right = (all.0, all.1, right_count g key is_hit start before v header word c.same way shown, (all.2.0, all.2.1, right_back g key is_hit start _ all.0 header left, all.2.2));
          keeps = end_kept start all.2.0 w all.2.2 two;
        }
    pin_walk seen before v w ss r c shown free so all (changed word other left live differs) =
        let one = has_count files g id start header word inside v all.0 free all.1 c in
        let two = count_key files g id start header other inside all.0 all.2.0 all.2.1 one in
        let three = kept_back files g id start header left inside all.2.0 all.2.2.0 all.2.2.1 two in
        record {
          right = (
            all.0,
            all.1,
            right_count g key is_hit start before v header word c.same way shown,
            (
              all.2.0,
              all.2.1,
              right_key g key is_hit start _ all.0 header other (λ n s k. absurd (differs s)),
              (all.2.2.0, all.2.2.1, right_back g key is_hit start _ all.2.0 header left, all.2.2.2),
            ),
          );
          keeps = end_kept start all.2.2.0 w all.2.2.2 three;
        }

    -- the two loads of a way, and what comes then
    module _ (law : WordTellsKey) (good : IsKey key) (no_pin : HasNoPinOf (buffer_key key) start) (no_bid : (h : ℕ) → (mark_at start h).hold ≡ Bid → ⊥) where
      first_look : (before : List WordStep) (v u : View) (seen : ℕ) → IsKept start v → IsMade files g id (Looked (State header) seen) v u → IsKept start u × IsRight g key is_hit start before (Looked (State header) seen) v
      first_look before v u seen c m = (kept_state files g id start header seen inside v u m c, right_state g key is_hit start before v header seen c.same)

      second_look : (before : List WordStep) (v u : View) (shown : ℕ) → IsKept start v → IsMade files g id (Looked (KeyOf header) shown) v u → IsKept start u × IsRight g key is_hit start before (Looked (KeyOf header) shown) v
      second_look before v u shown c m = (kept_key files g id start header shown inside v u known m c, right_key g key is_hit start before v header shown (λ n s k. inl (c.same.holds n)))

      pub try_walk : (before : List WordStep) (v w : View) (ss : List WordStep) (r : Tried) → IsKept start v → (IsTriedHit r → is_hit) → AreMade files g id ss v w → TrySteps key header ss r → TryWalk before v ss w r
      try_walk before v w ss r c so all (has_not seen shown why) =
          let a = first_look before v all.0 seen c all.1 in
          let b = second_look (before ++ Looked (State header) seen ∷ []) all.0 all.2.0 shown a.0 all.2.1 in
          record { right = (all.0, all.1, a.1, (all.2.0, all.2.1, b.1, all.2.2)); keeps = end_kept start all.2.0 w all.2.2 b.0 }
      try_walk before v w ss r c so all (is_new seen new) =
          let a = first_look before v all.0 seen c all.1 in
          let b = second_look (before ++ Looked (State header) seen ∷ []) all.0 all.2.0 (key_word key) a.0 all.2.1 in
          record { right = (all.0, all.1, a.1, (all.2.0, all.2.1, b.1, all.2.2)); keeps = end_kept start all.2.0 w all.2.2 b.0 }
      try_walk before v w ss r c so all (pins seen ts _ may p) =
          let a = first_look before v all.0 seen c all.1 in
          let before' = before ++ Looked (State header) seen ∷ [] in
          let b = second_look before' all.0 all.2.0 (key_word key) a.0 all.2.1 in
          let before'' = before' ++ Looked (KeyOf header) (key_word key) ∷ [] in
          let free = free_by_load law files g id key header (key_word key) start all.0 all.2.0 good refl no_pin no_bid a.0 all.2.1 in
          let shown : IsShown key before'' header =
          record {
            key_load = among_back (Looked (KeyOf header) (key_word key)) before' (Looked (KeyOf header) (key_word key) ∷ []) (inl refl);
            word = seen;
            can_pin = may;
            state_load = among_front (Looked (State header) seen) before' (Looked (KeyOf header) (key_word key) ∷ []) (among_back (Looked (State header) seen) before (Looked (State header) seen ∷ []) (inl refl));
          } in
          let rest = pin_walk seen before'' all.2.0 w ts r b.0 shown free so all.2.2 p in
          record { right = (all.0, all.1, a.1, (all.2.0, all.2.1, b.1, rest.right)); keeps = rest.keeps }

-- ---- the ways in order

module _ (files : Option Files) (g : Geometry) (id : ℕ) (key : Key) (start : View) (first : ℕ) (states : List ℕ) (law : WordTellsKey) (good : IsKey key) (no_pin : HasNoPinOf (buffer_key key) start) (no_bid : (h : ℕ) → (mark_at start h).hold ≡ Bid → ⊥) (inside : first + 8 ≤ length start.marks) (first_is : first ≡ first_way g key) where
  pub record LookWalk (is_hit : Type 0) (before : List WordStep) (v : View) (ss : List WordStep) (w : View) (r : Found) : Type 0 where
    pub right : AreRight files g id key is_hit start before v ss w
    pub keeps : KeepsFound start w r

  way_of : (way : ℕ) → way < 8 → IsWay g key (first + way)
  way_of way lt = (omega (arith, first_is), omega (arith, first_is, lt))

  tried : (is_hit : Type 0) (way : ℕ) (before : List WordStep) (v w : View) (ss : List WordStep) (r : Tried) → way < 8 → IsKept start v → (IsTriedHit r → is_hit) → AreMade files g id ss v w → TrySteps key (first + way) ss r → TryWalk files g id key is_hit start before v ss w r
  tried is_hit way before v w ss r lt c so all t =
      try_walk files g id key is_hit start (first + way) (way_of way lt) (omega (arith, inside, lt)) (known_holds (buffer_key key) start no_pin) law good no_pin no_bid before v w ss r c so all t

  parts : (ss ts : List WordStep) (v w : View) → AreMade files g id (ss ++ ts) v w → (u : View) × AreMade files g id ss v u × AreMade files g id ts u w
  parts [] ts v w all = (v, refl, all)
  parts (s ∷ ss) ts v w all = let rest = parts ss ts all.0 w all.2 in (rest.0, (all.0, all.1, rest.1), rest.2)

  pub look_walk : (is_hit : Type 0) (way : ℕ) (before : List WordStep) (v w : View) (ss : List WordStep) (r : Found) → IsKept start v → (IsHit r → is_hit) → AreMade files g id ss v w → LookSteps key first states way ss r → LookWalk is_hit before v ss w r
  look_walk is_hit way before v w ss r c so all (past _ e) = record { right = all; keeps = end_kept start v w all c }
  look_walk is_hit way before v w ss r c so all (passed _ seen xs ts _ lt t at more) =
      let p = parts xs ts v w all in
      let one = tried is_hit way before v p.0 xs (Passed seen) lt c (λ no. absurd no) p.1 t in
      let two = look_walk is_hit (way + 1) (before ++ xs) p.0 w ts r one.keeps so p.2 more in
      record { right = right_then files g id key is_hit start before xs ts v p.0 w one.right two.right; keeps = two.keeps }
  look_walk is_hit way before v w ss r c so all (hit _ _ pin lt t) =
      let one = tried is_hit way before v w ss (Hit pin) lt c so all t in record { right = one.right; keeps = one.keeps }
  look_walk is_hit way before v w ss r c so all (busy _ word _ lt t) =
      let one = tried is_hit way before v w ss (Busy word) lt c (λ no. absurd no) all t in record { right = one.right; keeps = one.keeps }

  pub leaves : (w : View) (r : Found) → KeepsFound start w r → Leaves start w r
  leaves w (found.Hit pin) k = k
  leaves w (found.Busy word) k = k.same
  leaves w found.Missing k = k.same

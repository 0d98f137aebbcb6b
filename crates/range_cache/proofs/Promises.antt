-- A fetch by its parts: what its answers tell, and what they leave.
use Rattle.std.proofs.Common.{◌≡◌, ◌≢◌, ℕ, ◌+◌, ◌-◌, ◌<◌, ◌≤◌, List, [], ◌∷◌, ◌++◌, length, refl, sym, ap, ◌∙◌, subst, inl, inr, arith}
use Rattle.std.specs.Prelude.{Option, Some, None, IsSome, IsSomeAnd, ◌⊎◌, slice_index, slice_range}
use Rattle.std.proofs.lemmas.List.{append_assoc, append-nil}
use Rattle.buddy_arena.specs.Buddy.{IsBuddyAnswer}
use Rattle.buffer_word.specs.declared.key_word.Key.{Key}
use Rattle.outside.specs.declared.file_ref.FileRef.{FileRef}
use Rattle.outside.specs.Files.{HasBytes, IsFile}
use Rattle.pool_model.specs.declared.block.Block.{Block}
use Rattle.pool_model.specs.Content.{Files, IsRange, told_bytes}
use Rattle.pool_rule.specs.declared.geometry.Geometry.{Geometry}
use Rattle.pool_rule.specs.declared.geometry.WordName.TheVariants.{State, KeyOf, Arena}
use Rattle.pool_rule.specs.declared.view.View.{View}
use Rattle.pool_rule.specs.declared.word_step.WordStep.{WordStep}
use Rattle.pool_rule.specs.declared.word_step.WordStep.TheVariants.{Looked, Missed, Granted, Opened}
use Rattle.pool_rule.specs.Layout.{header_word}
use Rattle.buffer_pool.specs.declared.token.Pin.{Pin}
use Rattle.buffer_pool.specs.Pools.{IsContentOf, buffer_key, pin_header}
use Rattle.cache_lookup.specs.declared.ways.Found.TheVariants as found
use Rattle.cache_lookup.specs.Before.{HasHoldMore}
use Rattle.cache_lookup.specs.Callers.{before_then, right_any, right_parts}
use Rattle.cache_lookup.specs.Exact.{state_in}
use Rattle.cache_lookup.specs.LookUps.{IsLookStep, IsLookUp, IsMissing, other_key, no_buffer}
use Rattle.cache_lookup.specs.Right.{AreRight}
use Rattle.cache_lookup.specs.Sets.{IsWay, first_way}
use Rattle.cache_lookup.specs.Trails.{Among, events, first_load, last_left, last_load}
use Rattle.cache_lookup.specs.TrailLaws.{among_back, among_either, among_front, events-append, first_load-front, last_left-back, last_load-back}
use Rattle.cache_placement.specs.declared.why.Placed.TheVariants as placed
use Rattle.cache_placement.specs.declared.why.Why.{Why}
use Rattle.cache_placement.specs.declared.why.Why.TheVariants.{NoRoom, Raced, Busy, SetFull, PolicyOut}
use Rattle.cache_placement.specs.Exact.{AreStates}
use Rattle.cache_placement.specs.Free.{IsFirstFree, IsOrder, NoneFree}
use Rattle.cache_placement.specs.Placements.{HasNoRoom, IsArenaRaced, IsHeaderRaced, IsPlacement, IsRaced}
use Rattle.cache_placement.specs.Placements as placement
use Rattle.range_cache.specs.declared.ranged.Grip.TheVariants as grip
use Rattle.range_cache.specs.declared.ranged.How.TheVariants.{Hit, Filled, Bypass}
use Rattle.cache_placement.specs.Publications.{publications-append}
use Rattle.range_cache.specs.Callers.{look_publishes, right_trail}
use Rattle.range_cache.specs.Exact.{HasNoArena, IsExact, IsFreeWay, IsInNoWay}
use Rattle.range_cache.specs.Fetches.{IsFailedFetch, IsFetch, IsLost, IsNowhere, IsOfFile, IsWayRaced, Tells}

-- ---- the steps of a look-up grant and open nothing

no_grant : (b : Block) (f : ℕ) → IsLookStep (Granted b f) → ⊥
no_grant b f h = elim h [ ]

no_open : (header : ℕ) (b : Block) (cells : List ℕ) → IsLookStep (Opened header b cells) → ⊥
no_open header b cells h = elim h [ ]

module _ (files : Option Files) (g : Geometry) (id : ℕ) (key : Key) (ss : List WordStep) (states : List ℕ) (v w : View) where
  pub hit : (pin : Pin) → IsLookUp files g id key ss states v w (found.Hit pin) → IsFetch files g id key ss v w (record { how = Hit; evicted = 0; moved = 0; held = grip.Pin pin })
  hit pin l =
      record {
        right = l.right;
        leaves = l.leaves;
        tells = tt;
        granted = λ b f there. absurd (no_grant b f (l.only (Granted b f) there));
        opened = λ h b cells there. absurd (no_open h b cells (l.only (Opened h b cells) there));
        published = look_publishes ss l.only;
        trail = right_trail files g id key _ v [] ss v w l.right;
        exact = λ words known. let x = l.exact words known in (x.0, x.1, x.3);
      }

  pub busy : (word : ℕ) → IsLookUp files g id key ss states v w (found.Busy word) → IsFetch files g id key ss v w (record { how = Bypass (Busy word); evicted = 0; moved = 0; held = grip.Bypass key })
  busy word l =
      record {
        right = l.right;
        leaves = l.leaves;
        tells = l.tells;
        granted = λ b f there. absurd (no_grant b f (l.only (Granted b f) there));
        opened = λ h b cells there. absurd (no_open h b cells (l.only (Opened h b cells) there));
        published = look_publishes ss l.only;
        trail = right_trail files g id key _ v [] ss v w l.right;
        exact = λ words known. l.exact words known;
      }

  pub busy_failed : (word : ℕ) → IsLookUp files g id key ss states v w (found.Busy word) → IsFailedFetch files g id key ss v w
  busy_failed word l = record { right = l.right; only = l.only; trail = right_trail files g id key ⊥ v [] ss v w l.right; leaves = l.leaves; words = λ words known. (l.exact words known).4 }

  pub missing_failed : IsLookUp files g id key ss states v w found.Missing → IsFailedFetch files g id key ss v w
  missing_failed l = record { right = l.right; only = l.only; trail = right_trail files g id key ⊥ v [] ss v w l.right; leaves = l.leaves; words = λ words known. (l.exact words known).1 }

-- ---- a range that was placed

missing_front : (key : Key) (header : ℕ) (ss ts : List WordStep) → IsMissing key ss header → IsMissing key (ss ++ ts) header
missing_front key header ss ts (other_key shown ne at) = other_key shown ne (among_front (Looked (KeyOf header) shown) ss ts at)
missing_front key header ss ts (no_buffer word gone at) = no_buffer word gone (among_front (Looked (State header) word) ss ts at)

module _ (files : Option Files) (g : Geometry) (id : ℕ) (key : Key) (order : ℕ) (states : List ℕ) (ss ts : List WordStep) (v u w : View) (l : IsLookUp files g id key ss states v u found.Missing) where
  passed : (header : ℕ) → IsWay g key header → (way : ℕ) × (way < 8) × (header ≡ first_way g key + way)
  passed header way = let a = way.0 in let b = way.1 in (header - first_way g key, omega (arith, a, b), omega (arith, a))

  nowhere : IsNowhere g key (ss ++ ts)
  nowhere header way =
      let p = passed header way in
      let P : ℕ → Type 0 = λ n. IsMissing key (ss ++ ts) n in
      subst P (sym p.2) (missing_front key (first_way g key + p.0) ss ts (l.tells p.0 p.1).missing)

  room : (words : List ℕ) → HasNoRoom g order 0 g.arenas ts words → HasNoRoom g order 0 g.arenas (ss ++ ts) words
  room words r =
      record {
        last = λ arena le lt. ap (last_load arena) (events-append g ss ts) ∙ last_load-back arena (slice_index words arena) (events g ss) (events g ts) (r.last arena le lt);
        none = r.none;
        past = r.past;
      }

  arena_raced : (saw : ℕ) → IsArenaRaced g ts saw → IsArenaRaced g (ss ++ ts) saw
  arena_raced saw r =
      record {
        arena = r.arena;
        inside = r.inside;
        earlier = ss ++ r.earlier;
        later = r.later;
        parts = ap (λ x. ss ++ x) r.parts ∙ sym (append_assoc ss r.earlier (Missed (Arena r.arena) saw ∷ r.later));
        word = r.word;
        left = ap (last_left r.arena) (events-append g ss r.earlier) ∙ last_left-back r.arena r.word (events g ss) (events g r.earlier) r.left;
        other = r.other;
      }

  way_raced : (saw way : ℕ) → IsFirstFree states way → IsHeaderRaced (first_way g key + way) ts saw → IsWayRaced g key (ss ++ ts) saw
  way_raced saw way free r =
      let lt = free.inside in
      let header : ℕ = first_way g key + way in
      record {
        header = header;
        way = (omega arith, omega (arith, lt));
        raced = record { missed = among_back (Missed (State header) saw) ss ts r.missed; other = r.other };
        first = ap (first_load (header_word g header)) (events-append g ss ts) ∙ first_load-front (header_word g header) 8 (events g ss) (events g ts) ((l.tells way lt).first ∙ ap Some free.free);
      }

  raced : (saw : ℕ) → IsRaced g (first_way g key) states ts saw → IsArenaRaced g (ss ++ ts) saw ⊎ IsWayRaced g key (ss ++ ts) saw
  raced saw (inl r) = inl (arena_raced saw r)
  raced saw (inr r) = inr (way_raced saw r.0 r.1 r.2)

  some_not : (word state : ℕ) → state ≢ 8 → first_load word (events g ss) ≡ Some state → IsSomeAnd (first_load word (events g ss)) (λ x. x ≢ 8)
  some_not word state ne e = let P : Option ℕ → Type 0 = λ o. IsSomeAnd o (λ x. x ≢ 8) in subst P (sym e) ne

  full : (seen : List ℕ) → NoneFree states → seen ≡ states → ts ≡ [] → Tells g key (ss ++ ts) (Bypass (SetFull seen))
  full seen none is empty =
      let P : List WordStep × List ℕ → Type 0 = λ z. Tells g key (ss ++ z.0) (Bypass (SetFull z.1)) in
      let e = sym empty in
      let f = sym is in
      let Q : List WordStep → Type 0 = λ x. Tells g key x (Bypass (SetFull states)) in
      let all : Tells g key ss (Bypass (SetFull states)) = (
        (λ header way. let p = passed header way in let R : ℕ → Type 0 = λ n. IsMissing key ss n in subst R (sym p.2) (l.tells p.0 p.1).missing),
        record {
          first = λ way lt. some_not (header_word g (first_way g key + way)) (slice_index states way) (none way lt) (l.tells way lt).first;
          last = λ way lt. (l.tells way lt).last;
        },
      ) in
      subst P (λ i. (e i, f i)) (subst Q (sym (append-nil ss)) all)

  why_tells : IsOrder g key.len order → (why : Why) → placement.Tells g order (first_way g key) states 0 g.arenas ts (placed.Bypass why) → Tells g key (ss ++ ts) (Bypass why)
  why_tells is (NoRoom words) t = (nowhere, (order, is, room words t))
  why_tells is (Raced saw) t = (nowhere, raced saw t)
  why_tells is (Busy word) t = absurd t
  why_tells is (SetFull seen) t = full seen t.0 t.1 t.2
  why_tells is PolicyOut t = t

  right_whole : (is_hit : Type 0) → AreRight files g id key ⊥ u [] u ts w → AreRight files g id key is_hit v [] v (ss ++ ts) w
  right_whole is_hit r =
      right_any files g id key ⊥ is_hit (λ no. absurd no) v [] (ss ++ ts) v w (right_parts files g id key ⊥ v u w ss ts l.right l.leaves r)

  hold_since : (header : ℕ) → HasHoldMore u w header → HasHoldMore v w header
  hold_since header h =
      let c = l.leaves in
      record {
        claims = λ x. h.claims x ∙ c.claims x;
        grants = λ p. h.grants p ∙ c.grants p;
        others = λ x apart. h.others x apart ∙ c.holds x;
        was = sym (c.holds header) ∙ h.was;
      }

  lost_later : (why : Why) → placement.IsLost ts (placed.Bypass why) → IsLost (ss ++ ts) (Bypass why)
  lost_later why h = (h.0, h.1, ap Bypass (let e : why ≡ Raced h.1 = cc in e), among_back (Missed (State h.0) h.1) ss ts h.3)

  no_opens : (header : ℕ) (b : Block) (cells : List ℕ) → Among (Opened header b cells) ss → ⊥
  no_opens header b cells there = no_open header b cells (l.only (Opened header b cells) there)

  -- ---- the same for a seat that knows the words

  module _ (words : List ℕ) (known : v.known ≡ Some words) where
    in_no_way : IsInNoWay g key words
    in_no_way way lt = ((l.exact words known).0 way (omega arith) lt).0

    are_states : AreStates g words (first_way g key) states
    are_states way lt = ((l.exact words known).0 way (omega arith) lt).1

    free_way : (way : ℕ) → IsFirstFree states way → IsFreeWay g key words way
    free_way way f =
        let lt = f.inside in
        record {
          inside = lt;
          free = sym (are_states way lt) ∙ f.free;
          lowest = λ lower less eight. f.lowest lower less (are_states lower (omega (arith, less, lt)) ∙ eight);
        }

    no_free : NoneFree states → (way : ℕ) → way < 8 → state_in g words (first_way g key + way) ≢ 8
    no_free none way lt eight = none way lt (are_states way lt ∙ eight)

    no_arena : IsOrder g key.len order → (seen : List ℕ) → HasNoRoom g order 0 g.arenas ts seen → ((arena : ℕ) → 0 ≤ arena → arena < g.arenas → slice_index seen arena ≡ slice_index words arena) → HasNoArena g key words
    no_arena is seen r same = (order, is, λ arena lt. let P : ℕ → Type 0 = λ n. IsBuddyAnswer 64 n order None in subst P (same arena (omega arith) lt) (r.none arena (omega arith) lt))

    exact_why : IsOrder g key.len order → (why : Why) → IsPlacement files g id key order (first_way g key) states 0 g.arenas ts u w (placed.Bypass why) → IsExact g key words w (Bypass why)
    exact_why is (NoRoom seen) p =
        let x = p.exact words (l.exact words known).1 are_states in
        (in_no_way, (x.0.0, free_way x.0.0 x.0.1), no_arena is seen p.tells x.1, x.2)
    exact_why is (Raced saw) p = p.exact words (l.exact words known).1 are_states
    exact_why is (Busy word) p = absurd p.tells
    exact_why is (SetFull seen) p = (in_no_way, no_free p.tells.0, p.exact words (l.exact words known).1 are_states)
    exact_why is PolicyOut p = p.tells

    exact_filled : IsOrder g key.len order → (pin : Pin) → IsPlacement files g id key order (first_way g key) states 0 g.arenas ts u w (placed.Filled pin) → IsExact g key words w Filled
    exact_filled is pin p =
        let x = p.exact words (l.exact words known).1 are_states in
        (in_no_way, (x.0, free_way x.0 x.3), (order, x.1, x.2, is, x.4))

  pub filled : IsOrder g key.len order → (pin : Pin) → IsPlacement files g id key order (first_way g key) states 0 g.arenas ts u w (placed.Filled pin) → IsFetch files g id key (ss ++ ts) v w (record { how = Filled; evicted = 0; moved = 0; held = grip.Pin pin })
  filled is pin p =
      record {
        right = right_whole ⊥ p.right;
        leaves = hold_since (pin_header pin) p.leaves;
        tells = nowhere;
        granted = λ b f there. inl tt;
        opened = λ h b cells there. tt;
        published = (let sum = publications-append ss ts in let none = look_publishes ss l.only in let one = p.published in omega (arith, sum, none, one));
        trail = right_trail files g id key ⊥ v [] (ss ++ ts) v w (right_whole ⊥ p.right);
        exact = λ words known. exact_filled words known is pin p;
      }

  pub bypassed : IsOrder g key.len order → (why : Why) → IsPlacement files g id key order (first_way g key) states 0 g.arenas ts u w (placed.Bypass why) → IsFetch files g id key (ss ++ ts) v w (record { how = Bypass why; evicted = 0; moved = 0; held = grip.Bypass key })
  bypassed is why p =
      record {
        right = right_whole ⊥ p.right;
        leaves = before_then v u w l.leaves p.leaves;
        tells = why_tells is why p.tells;
        granted = λ b f there.
            elim (among_either (Granted b f) ss ts there) [
              | inl front ↦ absurd (no_grant b f (l.only (Granted b f) front))
              | inr rest ↦ elim (p.granted b f rest) [ inl not ↦ absurd not | inr lost ↦ inr (lost_later why lost) ]
            ];
        opened = λ h b cells there.
            elim (among_either (Opened h b cells) ss ts there) [
              | inl front ↦ absurd (no_opens h b cells front)
              | inr rest ↦ p.opened h b cells rest
            ];
        published = (let sum = publications-append ss ts in let none = look_publishes ss l.only in let one = p.published in omega (arith, sum, none, one));
        trail = right_trail files g id key ⊥ v [] (ss ++ ts) v w (right_whole ⊥ p.right);
        exact = λ words known. exact_why words known is why p;
      }

-- ---- the file's bytes

-- the key is a range of its file
pub range_is : (files : Option Files) (key : Key) (file : FileRef) → IsOfFile key file → IsFile files file → IsRange files (buffer_key key)
range_is files key file of is told =
    let b = is told in
    let P : Option (List ℕ) → Type 0 = λ o. IsSomeAnd o (λ bytes. key.at + key.len ≤ length bytes) in
    let len = b.1.len_is in
    let range = of.range in
    let fits : key.at + key.len ≤ length b.0 = omega (arith, len, range) in
    subst P (sym (ap (told_bytes files) of.number ∙ b.1.bytes_are)) fits

-- where files are told, a read of the range gave its content
pub content_is : (files : Option Files) (key : Key) (file : FileRef) (bytes : List ℕ) → IsOfFile key file → IsFile files file → length bytes ≡ key.len → ((all : List ℕ) → HasBytes files file all → bytes ≡ slice_range all key.at (key.at + length bytes)) → IsContentOf files (buffer_key key) bytes
content_is files key file bytes of is len read all told =
    let there : told_bytes files file.number ≡ Some all = ap (told_bytes files) (sym of.number) ∙ told in
    let some : IsSome files = some_of files file.number all there in
    let b = is some in
    let same : b.0 ≡ all = let e : Some b.0 ≡ Some all = sym b.1.bytes_are ∙ there in cc in
    let P : List ℕ → Type 0 = λ x. HasBytes files file x in
    read all (subst P same b.1) ∙ ap (λ n. slice_range all key.at (key.at + n)) len
  where
    some_of : (files : Option Files) (number : ℕ) (all : List ℕ) → told_bytes files number ≡ Some all → IsSome files
    some_of None number all e = let no : ⊥ = cc in absurd no
    some_of (Some fs) number all e = refl

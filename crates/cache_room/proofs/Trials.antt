-- One header more was tried.
use Rattle.std.proofs.Common.{◌≡◌, ◌≢◌, ℕ, zero, suc, ◌+◌, ◌-◌, ◌/◌, ◌^◌, ◌<◌, ◌≤◌, min, Bool, true, false, List, [], ◌∷◌, ◌++◌, length, refl, sym, ap, ◌∙◌, subst, inl, inr, arith}
use Rattle.std.specs.Prelude.{Option, None, Some, Ok, Err, ◌⊎◌, replicate, slice_index, slice_index_or, slice_set}
use Rattle.std.specs.Option.{option_or}
use Rattle.std.proofs.lemmas.Bool.{cases_eq, cases_lt}
use Rattle.std.proofs.lemmas.List.{append_assoc, append-nil, get_or-replicate, get_or-set_other, get_or-set_same, get_or_past, length-replicate}
use Rattle.lrfu_policy.specs.declared.rank.Rank.{Rank}
use Rattle.lrfu_policy.specs.Laws.{ForgettingAddsNone, VictimsRunOut}
use Rattle.lrfu_policy.specs.Policy.{Ranking, with_entry}
use Rattle.lrfu_policy.specs.declared.entry.Entry.{Entry}
use Rattle.lrfu_policy.specs.Rank.{rank_at}
use Rattle.lrfu_policy.specs.Victim as victim
use Rattle.lrfu_policy.specs.Victim.{Among, IsLeast, above_count}
use Rattle.buffer_word.specs.declared.key_word.Key.{Key}
use Rattle.pool_model.specs.declared.block.Block.{Block}
use Rattle.pool_model.specs.Content.{Files}
use Rattle.pool_rule.specs.declared.geometry.Geometry.{Geometry}
use Rattle.pool_rule.specs.declared.geometry.WordName.TheVariants.{Arena}
use Rattle.pool_rule.specs.declared.view.View.{View}
use Rattle.pool_rule.specs.declared.word_step.WordStep.{WordStep}
use Rattle.pool_rule.specs.declared.word_step.WordStep.TheVariants.{HeaderReleased, Looked}
use Rattle.pool_rule.specs.Layout.{header_word, headers_of}
use Rattle.pool_rule.specs.Seats.{granted_at, mark_at}
use Rattle.buffer_pool.specs.declared.fault.Held.{Held}
use Rattle.buffer_pool.specs.Made.{AreMade}
use Rattle.cache_consult.specs.Consults.{Consults}
use Rattle.cache_consult.specs.LeavingLaws.{consult_only}
use Rattle.cache_eviction.specs.Evictions.{HeldSteps, OutSteps, Tries}
use Rattle.cache_lookup.specs.Trails as Lists
use Rattle.cache_lookup.specs.Trails.{events}
use Rattle.cache_lookup.specs.TrailLaws.{among_back}
use Rattle.cache_placement.specs.declared.why.Placed.{Placed}
use Rattle.cache_placement.specs.declared.why.Placed.TheVariants.{Filled, Bypass}
use Rattle.cache_placement.specs.declared.why.Why.TheVariants.{NoRoom, Raced, Busy, SetFull, PolicyOut}
use Rattle.cache_placement.specs.Asking.{asked_by}
use Rattle.cache_placement.specs.Free.{IsOrder}
use Rattle.cache_placement.specs.Placements.{HasNoRoom, IsFilled, IsLost, IsPlacement}
use Rattle.cache_room.specs.declared.wanted.Wanted.{Wanted}
use Rattle.cache_room.specs.Quiet.{AreKnown, IsQuiet}
use Rattle.cache_room.specs.QuietLaws.{consult_releases, consult_touches, quiet_consult, quiet_held, quiet_none, quiet_out, quiet_then}
use Rattle.cache_room.specs.Rooms.{HasFree, HeadersTried, IfNoRoom, IsSetTried, IsWayFreed, MakesByTries, MakesWhereFull, RoomLeft, WaysTried, counted, unless_full}
use Rattle.cache_room.specs.Seeking.{AsksOwn, HasNoBlock, IsSought, last_shown}
use Rattle.cache_room.specs.SeekingLaws.{asks_then, consult_asks, consult_shows, held_asks, held_shows, last_shown-append, out_asks, seeks_only, shown_loads}
use Rattle.cache_room.specs.TouchingLaws.{place_touchings}
use Rattle.cache_room.specs.Tried.{IsTried, last_saw, releases}
use Rattle.cache_room.specs.TriedLaws.{held_end, held_releases, out_end, out_released, out_releases, place_releases, releases-append, saw_away, saw_here, touch_front, tried_back, tried_front, tried_over}

abbrev pub SameMarks : View → View → Type 0
SameMarks v w = (other : ℕ) → mark_at w other ≡ mark_at v other

abbrev pub SamePlaces : View → View → Type 0
SamePlaces v w = (place : ℕ) → granted_at w place ≡ granted_at v place

-- nothing is marked at the start
pub none_marked : (n i : ℕ) → slice_index_or (replicate n false) i false ≡ false
none_marked n i =
    elim (cases_lt i n) [
      | inl lt ↦ get_or-replicate n i false false lt
      | inr past ↦ get_or_past (replicate n false) i false (let e = length-replicate n false in omega (arith, e, past))
    ]

-- the marked ones so far, and one more
pub marked_more : (tried : List Bool) (n : ℕ) → n < length tried → ((i : ℕ) → i < n → slice_index_or tried i false ≡ true) → (i : ℕ) → i < n + 1 → slice_index_or (slice_set tried n true) i false ≡ true
marked_more tried n within was i lt =
    elim (cases_eq i n) [
      | inl same ↦ ap (λ k. slice_index_or (slice_set tried n true) k false) same ∙ get_or-set_same tried n true false within
      | inr apart ↦ get_or-set_other tried n i true false apart ∙ was i (omega (arith, lt, apart))
    ]

pub marked_here : (tried : List Bool) (n : ℕ) → slice_index_or tried n false ≡ true → ((i : ℕ) → i < n → slice_index_or tried i false ≡ true) → (i : ℕ) → i < n + 1 → slice_index_or tried i false ≡ true
marked_here tried n is was i lt =
    elim (cases_eq i n) [
      | inl same ↦ ap (λ k. slice_index_or tried k false) same ∙ is
      | inr apart ↦ was i (omega (arith, lt, apart))
    ]

-- ---- ways

module _ (files : Option Files) (g : Geometry) (id : ℕ) (key : Key) (first : ℕ) (inside : first + 8 ≤ headers_of g) (start : View) (seen : List ℕ) (tried : List Bool) (few : length seen ≡ 8) (marks : length tried ≡ 8) (id' : ℕ) (same : id' ≡ id) (header way : ℕ) (at : header ≡ first + way) (lt : way < 8) (v w : View) (c : WaysTried files g id key first start seen tried v) (same_marks : SameMarks v w) (same_places : SamePlaces v w) where
  pub way_held : (held : Held) → Tries files g id' header v w (Err held) → WaysTried files g id key first start (slice_set seen way held.word) (slice_set tried way true) w
  way_held held t =
      let word = held.word in
      let ts = t.0 in
      let M : ℕ → Type 0 = λ n. AreMade files g n ts v w in
      let H : ℕ → Type 0 = λ n. HeldSteps n ts word in
      let steps : HeldSteps (first + way) ts word = subst H at t.2 in
      let more = quiet_held files g id key (first + way) ts word v w steps (subst M same t.1) same_marks same_places in
      let sum = releases-append c.ss ts in
      let was = c.none in
      let is = held_releases (first + way) ts word steps in
      let below : first + way < headers_of g = omega (arith, inside, lt) in
      record {
        ss = c.ss ++ ts;
        quiet = quiet_then files g id key start v w c.ss ts c.quiet more;
        touched = λ h less. touch_front h c.ss ts (c.touched h less);
        none = omega (arith, sum, was, is);
        ended = λ other marked.
            elim (cases_eq other way) [
              | inl is_same ↦
                  let P : ℕ → Type 0 = λ n. IsTried (first + n) (c.ss ++ ts) × (last_saw (header_word g (first + n)) (events g (c.ss ++ ts)) ≡ Some (slice_index (slice_set seen way word) n)) in
                  subst P (sym is_same) (
                    tried_over (first + way) c.ss ts (c.touched (first + way) below) (held_end (first + way) ts word steps),
                    saw_here g (first + way) c.ss ts word steps ∙ ap Some (sym (get_or-set_same seen way word 0 (omega (arith, lt, few)))),
                  )
              | inr apart ↦
                  let old = c.ended other (sym (get_or-set_other tried way other true false apart) ∙ marked) in
                  let far : first + way ≢ first + other = λ e. apart (omega (arith, e)) in (
                    tried_front (first + other) c.ss ts old.0,
                    saw_away g (first + way) (first + other) c.ss ts word (slice_index seen other) far steps old.1 ∙ ap Some (sym (get_or-set_other seen way other word 0 apart)),
                  )
            ];
      }

  pub way_gone : (b : Block) → Tries files g id' header v w (Ok b) → IsWayFreed files g id key first start way w
  way_gone b t =
      let ts = t.0 in
      let M : ℕ → Type 0 = λ n. AreMade files g n ts v w in
      let O : ℕ → Type 0 = λ n. OutSteps n ts b in
      let steps : OutSteps (first + way) ts b = subst O at t.2 in
      let more = quiet_out files g id key (first + way) ts b v w steps (subst M same t.1) same_marks same_places in
      let sum = releases-append c.ss ts in
      let was = c.none in
      let is = out_releases (first + way) ts b steps in
      let out = out_released (first + way) ts b steps in
      record {
        ss = c.ss ++ ts;
        quiet = quiet_then files g id key start v w c.ss ts c.quiet more;
        inside = lt;
        released = (out.0, out.1, among_back (HeaderReleased (first + way) out.0 out.1) c.ss ts out.2);
        one = omega (arith, sum, was, is);
      }

module _ (files : Option Files) (g : Geometry) (id : ℕ) (key : Key) (first : ℕ) (start : View) (seen : List ℕ) (tried : List Bool) (v : View) where
  -- each way is marked
  pub set_tried : WaysTried files g id key first start seen tried v → ((way : ℕ) → way < 8 → slice_index_or tried way false ≡ true) → IsSetTried files g id key first start seen v
  set_tried c all =
      record {
        ss = c.ss;
        quiet = c.quiet;
        none = c.none;
        tried = λ way lt. (c.ended way (all way lt)).0;
        last = λ way lt. (c.ended way (all way lt)).1;
      }

  -- no way is, after the policy was consulted
  pub ways_begin : (p q : Ranking) → AreKnown start → ((way : ℕ) → slice_index_or tried way false ≡ false) → Consults files g id (headers_of g) p q start v → WaysTried files g id key first start seen tried v
  ways_begin p q known none h =
      record {
        ss = h.0;
        quiet = quiet_consult files g id key start known (headers_of g) p q h.0 v h.2 h.1;
        touched = consult_touches (headers_of g) p q h.0 h.2;
        none = consult_releases h.0 (consult_only (headers_of g) p q h.0 h.2);
        ended = λ way marked. absurd (let e : true ≡ false = sym marked ∙ none way in let clash : ⊥ = cc in clash);
      }

-- ---- headers

headers_ended : (g : Geometry) (tried : List Bool) (ss ts : List WordStep) (header : ℕ) → ((h : ℕ) → slice_index_or tried h false ≡ true → IsTried h ss) → IsTried header (ss ++ ts) → (h : ℕ) → slice_index_or (slice_set tried header true) h false ≡ true → IsTried h (ss ++ ts)
headers_ended g tried ss ts header was now h marked =
    elim (cases_eq h header) [
      | inl same ↦ let P : ℕ → Type 0 = λ n. IsTried n (ss ++ ts) in subst P (sym same) now
      | inr apart ↦ tried_front h ss ts (was h (sym (get_or-set_other tried header h true false apart) ∙ marked))
    ]

module _ (files : Option Files) (g : Geometry) (id : ℕ) (wanted : Wanted) (start : View) (tried : List Bool) (evicted : ℕ) (header : ℕ) (below : header < headers_of g) where
  pub header_held : (id' : ℕ) (held : Held) (v w : View) → id' ≡ id → HeadersTried files g id wanted.key start tried evicted v → Tries files g id' header v w (Err held) → SameMarks v w → SamePlaces v w → HeadersTried files g id wanted.key start (slice_set tried header true) evicted w
  header_held id' held v w same c t same_marks same_places =
      let ts = t.0 in
      let M : ℕ → Type 0 = λ n. AreMade files g n ts v w in
      let more = quiet_held files g id wanted.key header ts held.word v w t.2 (subst M same t.1) same_marks same_places in
      let sum = releases-append c.ss ts in
      let is = held_releases header ts held.word t.2 in
      let was = c.count in
      record {
        ss = c.ss ++ ts;
        quiet = quiet_then files g id wanted.key start v w c.ss ts c.quiet more;
        touched = λ h less. touch_front h c.ss ts (c.touched h less);
        count = omega (arith, sum, was, is);
        asks = asks_then g wanted.key.len c.ss ts c.asks c.vain (held_asks g wanted.key.len header ts held.word t.2);
        vain = (let N : Option ℕ → Type 0 = λ o. HasNoBlock g wanted.key.len o in
            subst N (sym (last_shown-append c.ss ts ∙ ap (λ o. option_or o (last_shown c.ss)) (held_shows header ts held.word t.2))) c.vain);
        ended = headers_ended g tried c.ss ts header c.ended (tried_over header c.ss ts (c.touched header below) (held_end header ts held.word t.2));
      }

  -- the buffer went, and the range was placed where its block was, or there is no room all the same
  module _ (b : Block) (from until evicted' : ℕ) (ts us : List WordStep) (v u w : View) (c : HeadersTried files g id wanted.key start tried evicted v) (out : OutSteps header ts b) (made : AreMade files g id ts v u) (same_marks : SameMarks v u) (same_places : SamePlaces v u) (count : evicted' ≡ min (evicted + 1) (2 ^ 32 - 1)) (at : from ≡ b.place / 64) (one : until ≡ from + 1) (free : HasFree wanted) (order_is : IsOrder g wanted.key.len wanted.order) where
    before : IsQuiet files g id wanted.key start (c.ss ++ ts) u
    before = quiet_then files g id wanted.key start v u c.ss ts c.quiet (quiet_out files g id wanted.key header ts b v u out made same_marks same_places)

    counts : evicted' ≡ counted (c.ss ++ ts)
    counts =
        let sum = releases-append c.ss ts in
        let is = out_releases header ts b out in
        let was = c.count in
        omega (arith, sum, was, is, count)

    -- the arena of the block is asked, and no other
    one_asked : (placed : Placed) → IsPlacement files g id wanted.key wanted.order wanted.first wanted.states from until us u w placed → (s : WordStep) (arena : ℕ) → Lists.Among s us → asked_by s ≡ Some arena → from ≡ arena
    one_asked placed p s arena there is =
        let bounds = p.inside s arena there is in
        let low = bounds.0 in
        let high = bounds.1 in
        omega (arith, low, high, one)

    own_asked : (placed : Placed) → IsPlacement files g id wanted.key wanted.order wanted.first wanted.states from until us u w placed → AsksOwn g wanted.key.len ((c.ss ++ ts) ++ us)
    own_asked placed p =
        let P : ℕ → Type 0 = λ n. (found : ℕ) × (rest : List WordStep) × (us ≡ Looked (Arena n) found ∷ rest) in
        let A : List WordStep → Type 0 = λ l. AsksOwn g wanted.key.len l in
        let asked = subst P at (p.asked (omega (arith, one)) free.0 free.1 free.2) in
        let inside : (s : WordStep) (arena : ℕ) → Lists.Among s us → asked_by s ≡ Some arena → b.place / 64 ≡ arena = λ s arena there is. sym at ∙ one_asked placed p s arena there is in
        subst A (sym (append_assoc c.ss ts us)) (asks_then g wanted.key.len c.ss (ts ++ us) c.asks c.vain (out_asks g wanted.key.len header ts us b out p.only inside asked))

    by_tries : (placed : Placed) → IsPlacement files g id wanted.key wanted.order wanted.first wanted.states from until us u w placed → IsSought g wanted.key.len ((c.ss ++ ts) ++ us)
    by_tries placed p =
        let all : List WordStep = (c.ss ++ ts) ++ us in
        record { trying = all; end = []; parts = sym (append-nil all); asks = own_asked placed p; kept = refl; last = inl (λ s gone. absurd gone) }

    makes : (placed : Placed) → IsPlacement files g id wanted.key wanted.order wanted.first wanted.states from until us u w placed → ((P : Type 0) → IfNoRoom placed P) → MakesByTries files g id wanted start w evicted' placed
    makes placed p if_none = (
      record { ss = c.ss ++ ts; ts = us; mid = u; from = from; until = until; quiet = before; places = p; count = counts; tried = if_none _ },
      by_tries placed p,
    )

    no_grant : (words : List ℕ) → IsFilled (Bypass (NoRoom words)) ⊎ IsLost us (Bypass (NoRoom words)) → ⊥
    no_grant words h = elim h [ inl not ↦ not | inr lost ↦ (let e : Bypass (NoRoom words) ≡ Bypass (Raced lost.1) = lost.2 in let clash : ⊥ = cc in clash) ]

    -- the arena that was asked last had no block
    in_vain : (words : List ℕ) → IsPlacement files g id wanted.key wanted.order wanted.first wanted.states from until us u w (Bypass (NoRoom words)) → HasNoBlock g wanted.key.len (last_shown ((c.ss ++ ts) ++ us))
    in_vain words p =
        let shown = sym (shown_loads g from us p.only (one_asked (Bypass (NoRoom words)) p) (λ x f there. no_grant words (p.granted x f there))) ∙ p.tells.last from (omega arith) (omega (arith, one)) in
        let N : Option ℕ → Type 0 = λ o. HasNoBlock g wanted.key.len o in
        subst N (sym (last_shown-append (c.ss ++ ts) us ∙ ap (λ o. option_or o (last_shown (c.ss ++ ts))) shown)) (wanted.order, order_is, p.tells.none from (omega arith) (omega (arith, one)))

    -- there is no room all the same
    still_full : (words : List ℕ) → IsPlacement files g id wanted.key wanted.order wanted.first wanted.states from until us u w (Bypass (NoRoom words)) → HeadersTried files g id wanted.key start (slice_set tried header true) evicted' w
    still_full words p =
        let after : IsQuiet files g id wanted.key u us w =
        record { right = p.right; before = p.leaves; ungranted = λ x f there. no_grant words (p.granted x f there); unopened = p.opened; unpublished = p.published; untouched = place_touchings us p.only } in
        let sum = releases-append (c.ss ++ ts) us in
        let none = place_releases us p.only in
        let so_far = counts in
        record {
          ss = (c.ss ++ ts) ++ us;
          quiet = quiet_then files g id wanted.key start u w (c.ss ++ ts) us before after;
          touched = λ h less. touch_front h (c.ss ++ ts) us (touch_front h c.ss ts (c.touched h less));
          count = omega (arith, sum, none, so_far);
          asks = own_asked (Bypass (NoRoom words)) p;
          vain = in_vain words p;
          ended = λ h marked.
              tried_front h (c.ss ++ ts) us (headers_ended g tried c.ss ts header c.ended (tried_over header c.ss ts (c.touched header below) (out_end header ts b out)) h marked);
        }

    pub placed_for : (placed : Placed) → IsPlacement files g id wanted.key wanted.order wanted.first wanted.states from until us u w placed → RoomLeft files g id wanted start (slice_set tried header true) evicted' w (unless_full placed)
    placed_for (Filled pin) p = makes (Filled pin) p (λ P. tt)
    placed_for (Bypass (NoRoom words)) p = still_full words p
    placed_for (Bypass (Raced saw)) p = makes (Bypass (Raced saw)) p (λ P. tt)
    placed_for (Bypass (Busy word)) p = makes (Bypass (Busy word)) p (λ P. tt)
    placed_for (Bypass (SetFull states)) p = makes (Bypass (SetFull states)) p (λ P. tt)
    placed_for (Bypass PolicyOut) p = makes (Bypass PolicyOut) p (λ P. tt)

module _ (files : Option Files) (g : Geometry) (id : ℕ) (key : Key) (start : View) (tried : List Bool) (v : View) where
  pub headers_begin : (p q : Ranking) → AreKnown start → ((h : ℕ) → slice_index_or tried h false ≡ false) → Consults files g id (headers_of g) p q start v → HeadersTried files g id key start tried 0 v
  headers_begin p q known none h =
      let is = consult_releases h.0 (consult_only (headers_of g) p q h.0 h.2) in
      record {
        ss = h.0;
        quiet = quiet_consult files g id key start known (headers_of g) p q h.0 v h.2 h.1;
        touched = consult_touches (headers_of g) p q h.0 h.2;
        count = omega (arith, is);
        asks = consult_asks g key.len h.0 (consult_only (headers_of g) p q h.0 h.2);
        vain = (let N : Option ℕ → Type 0 = λ o. HasNoBlock g key.len o in subst N (sym (consult_shows h.0 (consult_only (headers_of g) p q h.0 h.2))) tt);
        ended = λ other marked. absurd (let e : true ≡ false = sym marked ∙ none other in let clash : ⊥ = cc in clash);
      }

-- all headers were tried, and then all arenas were asked
pub asked_all : (files : Option Files) (g : Geometry) (id id' : ℕ) (wanted : Wanted) (start : View) (tried : List Bool) (evicted arenas : ℕ) (v w : View) (placed : Placed) → id' ≡ id → arenas ≡ g.arenas → ((h : ℕ) → h < headers_of g → slice_index_or tried h false ≡ true) → HeadersTried files g id wanted.key start tried evicted v → ((us : List WordStep) × IsPlacement files g id' wanted.key wanted.order wanted.first wanted.states 0 arenas us v w placed) → MakesByTries files g id wanted start w evicted placed
asked_all files g id id' wanted start tried evicted arenas v w placed same is all c p =
    let P : ℕ × ℕ → Type 0 = λ z. IsPlacement files g z.0 wanted.key wanted.order wanted.first wanted.states 0 z.1 p.0 v w placed in
    let places = subst P (λ i. (same i, is i)) p.1 in (
      record {
        ss = c.ss;
        ts = p.0;
        mid = v;
        from = 0;
        until = g.arenas;
        quiet = c.quiet;
        places = places;
        count = c.count;
        tried = if_all placed (refl, refl, λ h lt. c.ended h (all h lt));
      },
      record {
        trying = c.ss;
        end = p.0;
        parts = refl;
        asks = c.asks;
        kept = place_releases p.0 places.only;
        last = inr (λ h lt. c.ended h (all h lt));
      },
    )
  where
    if_all : {P : Type 0} (r : Placed) → P → IfNoRoom r P
    if_all (Filled pin) p = tt
    if_all (Bypass (NoRoom words)) p = p
    if_all (Bypass (Raced saw)) p = tt
    if_all (Bypass (Busy word)) p = tt
    if_all (Bypass (SetFull states)) p = tt
    if_all (Bypass PolicyOut) p = tt

-- ---- the walk over the victims

one_counted : (is : Bool) → victim.counted is ≤ 1
one_counted true = omega arith
one_counted false = omega arith

pub few_above : (entries : List (Option Entry)) (after : Option Rank) (n : ℕ) → above_count entries after n ≤ n
few_above entries after zero = omega arith
few_above entries after (suc n) =
    let rest = few_above entries after n in
    let one = one_counted (victim.is_left after (rank_at entries n)) in
    omega (arith, rest, one)

pub walks_on : VictimsRunOut → ForgettingAddsNone → (p q : Ranking) (after : Option Rank) (r : Rank) → IsLeast (Among 0 (length p.entries)) p.entries after (Some r) → r.header < length p.entries → length q.entries ≡ length p.entries → (q ≡ p) ⊎ (q ≡ with_entry r.header None p) → above_count q.entries (Some r) (length q.entries) < above_count p.entries after (length p.entries)
walks_on falls forgets p q after r least lt len is =
    let n = length p.entries in
    let down = falls 0 n n p.entries after r (omega arith) least in
    let here : above_count q.entries (Some r) n ≤ above_count p.entries (Some r) n =
    elim is [
      | inl same ↦ (let e : above_count q.entries (Some r) n ≡ above_count p.entries (Some r) n = ap (λ (x : Ranking). above_count x.entries (Some r) n) same in omega (arith, e))
      | inr less ↦
          (let e : above_count q.entries (Some r) n ≡ above_count (slice_set p.entries r.header None) (Some r) n = ap (λ (x : Ranking). above_count x.entries (Some r) n) less in
          let f = forgets p.entries (Some r) r.header lt n in
          omega (arith, e, f))
    ] in
    let P : ℕ → Type 0 = λ m. above_count q.entries (Some r) m < above_count p.entries after n in
    subst P (sym len) (omega (arith, down, here))

-- ---- a placement, and room that is made after it

module _ (files : Option Files) (g : Geometry) (id : ℕ) (wanted : Wanted) (from until : ℕ) (us : List WordStep) (v w : View) where
  placed_at_once : (placed : Placed) → IsPlacement files g id wanted.key wanted.order wanted.first wanted.states from until us v w placed → ((P : Type 0) → IfNoRoom placed P) → MakesWhereFull files g id wanted v w 0 placed
  placed_at_once placed p free = (
    record { ss = []; ts = us; mid = v; from = from; until = until; quiet = quiet_none files g id wanted.key v; places = p; count = refl; tried = free _ },
    seeks_only g wanted.key.len us (place_releases us p.only),
  )

  not_full : (x : Placed) → Some x ≢ None
  not_full x e = let clash : ⊥ = cc in clash

  pub at_once : (placed answer : Placed) → unless_full placed ≡ Some answer → IsPlacement files g id wanted.key wanted.order wanted.first wanted.states from until us v w placed → MakesWhereFull files g id wanted v w 0 answer
  at_once (Filled pin) answer e p = let same : Filled pin ≡ answer = cc in let P : Placed → Type 0 = λ x. MakesWhereFull files g id wanted v w 0 x in subst P same (placed_at_once (Filled pin) p (λ Q. tt))
  at_once (Bypass (NoRoom words)) answer e p = absurd (not_full answer (sym e))
  at_once (Bypass (Raced saw)) answer e p = let same : Bypass (Raced saw) ≡ answer = cc in let P : Placed → Type 0 = λ x. MakesWhereFull files g id wanted v w 0 x in subst P same (placed_at_once (Bypass (Raced saw)) p (λ Q. tt))
  at_once (Bypass (Busy word)) answer e p = let same : Bypass (Busy word) ≡ answer = cc in let P : Placed → Type 0 = λ x. MakesWhereFull files g id wanted v w 0 x in subst P same (placed_at_once (Bypass (Busy word)) p (λ Q. tt))
  at_once (Bypass (SetFull states)) answer e p = let same : Bypass (SetFull states) ≡ answer = cc in let P : Placed → Type 0 = λ x. MakesWhereFull files g id wanted v w 0 x in subst P same (placed_at_once (Bypass (SetFull states)) p (λ Q. tt))
  at_once (Bypass PolicyOut) answer e p = let same : Bypass PolicyOut ≡ answer = cc in let P : Placed → Type 0 = λ x. MakesWhereFull files g id wanted v w 0 x in subst P same (placed_at_once (Bypass PolicyOut) p (λ Q. tt))

  no_room_grants : (words : List ℕ) → IsFilled (Bypass (NoRoom words)) ⊎ IsLost us (Bypass (NoRoom words)) → ⊥
  no_room_grants words h = elim h [ inl not ↦ not | inr lost ↦ (let e : Bypass (NoRoom words) ≡ Bypass (Raced lost.1) = lost.2 in let clash : ⊥ = cc in clash) ]

  -- a placement that found no room left the seat what it had
  pub quiet_full : (placed : Placed) → unless_full placed ≡ None → IsPlacement files g id wanted.key wanted.order wanted.first wanted.states from until us v w placed → IsQuiet files g id wanted.key v us w
  quiet_full (Filled pin) e p = absurd (not_full (Filled pin) e)
  quiet_full (Bypass (NoRoom words)) e p = record { right = p.right; before = p.leaves; ungranted = λ x f there. no_room_grants words (p.granted x f there); unopened = p.opened; unpublished = p.published; untouched = place_touchings us p.only }
  quiet_full (Bypass (Raced saw)) e p = absurd (not_full (Bypass (Raced saw)) e)
  quiet_full (Bypass (Busy word)) e p = absurd (not_full (Bypass (Busy word)) e)
  quiet_full (Bypass (SetFull states)) e p = absurd (not_full (Bypass (SetFull states)) e)
  quiet_full (Bypass PolicyOut) e p = absurd (not_full (Bypass PolicyOut) e)

  -- and it shows that none of the arenas has room
  pub full_words : (placed : Placed) → unless_full placed ≡ None → IsPlacement files g id wanted.key wanted.order wanted.first wanted.states from until us v w placed → (words : List ℕ) × HasNoRoom g wanted.order from until us words
  full_words (Filled pin) e p = absurd (not_full (Filled pin) e)
  full_words (Bypass (NoRoom words)) e p = (words, p.tells)
  full_words (Bypass (Raced saw)) e p = absurd (not_full (Bypass (Raced saw)) e)
  full_words (Bypass (Busy word)) e p = absurd (not_full (Bypass (Busy word)) e)
  full_words (Bypass (SetFull states)) e p = absurd (not_full (Bypass (SetFull states)) e)
  full_words (Bypass PolicyOut) e p = absurd (not_full (Bypass PolicyOut) e)

no_room_maps : (r : Placed) (P Q : Type 0) → (P → Q) → IfNoRoom r P → IfNoRoom r Q
no_room_maps (Filled pin) P Q f h = tt
no_room_maps (Bypass (NoRoom words)) P Q f h = f h
no_room_maps (Bypass (Raced saw)) P Q f h = tt
no_room_maps (Bypass (Busy word)) P Q f h = tt
no_room_maps (Bypass (SetFull states)) P Q f h = tt
no_room_maps (Bypass PolicyOut) P Q f h = tt

-- room that is made by tries, behind quiet steps that released nothing and found no arena with room
pub made_behind : (files : Option Files) (g : Geometry) (id id' : ℕ) (wanted : Wanted) (v u w : View) (xs : List WordStep) (evicted arenas : ℕ) (placed : Placed) → id' ≡ id → IsQuiet files g id wanted.key v xs u → releases xs ≡ 0 → IsOrder g wanted.key.len wanted.order → arenas ≡ g.arenas → ((words : List ℕ) × HasNoRoom g wanted.order 0 arenas xs words) → MakesByTries files g id' wanted u w evicted placed → MakesWhereFull files g id wanted v w evicted placed
made_behind files g id id' wanted v u w xs evicted arenas placed same q none order is full made =
    let M : ℕ → Type 0 = λ n. MakesByTries files g n wanted u w evicted placed in
    let both = subst M same made in
    let m = both.0 in
    let sum = releases-append xs m.ss in
    let count = m.count in
    let F : ℕ → Type 0 = λ n. HasNoRoom g wanted.order 0 n xs full.0 in (
      record {
        ss = xs ++ m.ss;
        ts = m.ts;
        mid = m.mid;
        from = m.from;
        until = m.until;
        quiet = quiet_then files g id wanted.key v u m.mid xs m.ss q m.quiet;
        places = m.places;
        count = omega (arith, sum, none, count);
        tried = no_room_maps placed _ _ (λ h. (h.0, h.1, λ header lt. tried_back header xs m.ss (h.2 header lt))) m.tried;
      },
      record {
        asking = xs;
        more = m.ss ++ m.ts;
        parts = append_assoc xs m.ss m.ts;
        kept = none;
        full = inr (wanted.order, order, full.0, subst F is full.1);
        sought = both.1;
      },
    )

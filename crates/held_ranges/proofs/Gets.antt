-- A slot gets a range, or lets it go: what the desk then holds, and what it did.
use Rattle.std.proofs.Common.{◌≡◌, ℕ, ◌+◌, ◌-◌, ◌<◌, ◌≤◌, zero, suc, Bool, true, false, arith, List, [], ◌∷◌, length, refl, sym, ap, ◌∙◌, subst}
use Rattle.std.specs.Prelude.{Option, Some, None, slice_set, ◌++◌, take, drop, if◌then◌else◌}
use Rattle.std.proofs.lemmas.List.{append-nil, append_assoc, drop-drop, drop-set-lt, drop-take, drop_all, get_or-drop, length-map, map-set, set-get_or, take-append-drop, take-take, take_all, take_more_set}
use Rattle.std.proofs.Math.Seq.{drop-cons}
use Rattle.buffer_word.specs.declared.key_word.Key.{Key}
use Rattle.outside.specs.declared.file_ref.FileRange.{FileRange}
use Rattle.pool_model.specs.Content.{Files}
use Rattle.buffer_pool.specs.declared.seat.PoolSeat.{PoolSeat}
use Rattle.buffer_pool.specs.Pools.{IsSeatOf}
use Rattle.range_cache.specs.declared.cache.Cache.{Cache}
use Rattle.range_cache.specs.declared.ranged.Ranged.{Ranged}
use Rattle.range_cache.specs.Caches.{pool_of}
use Rattle.range_cache.specs.Ranges.{IsRanged, range_key}
use Rattle.evicting_fetch.specs.declared.evictor.Evictor.{Evictor}
use Rattle.evicting_fetch.specs.Evictors.{IsEvictorOf}
use Rattle.held_ranges.specs.declared.desk.Desk.{Desk}
use Rattle.held_ranges.specs.declared.held.Held.{Held}
use Rattle.held_ranges.specs.Deeds.{Deed, Keys, gets, drops, dropped, drops_each, key_at, left_of, means, meant, others}
use Rattle.held_ranges.specs.Moments.{DeskHolds, IsDropped, IsGot, IsHeld, IsHolding, Moment, Ran, SameDesk, Slots, key_of, keys_of, moment, slot_at}
use Rattle.held_ranges.proofs.Grips.{done_frees, done_others, got_others, got_was}
use Rattle.held_ranges.proofs.Holding.{drop_holds, key_is, put_holds}

-- the desk with another seat behind its reference
abbrev pub reseated : {W S : Type 0} → Desk W S → PoolSeat W → Desk W S
reseated d seat =
    record {
      cache = d.cache;
      seat = record { ref_ptr = d.seat.ref_ptr; ghost_name = d.seat.ghost_name; now = seat };
      evictor = d.evictor;
      store = d.store;
      totals = d.totals;
    }

abbrev pub held_of : Key → Ranged → Held
held_of key ranged = record { key = key; ranged = ranged }

-- a desk whose cache is that of a desk before
holds_at : {W S : Type 0} (d0 d1 : Desk W S) (slots : Slots) → SameDesk d0 d1 → IsHolding (pool_of d0.cache.now) d1.seat.now slots
    → IsEvictorOf (pool_of d0.cache.now) d1.evictor.now → DeskHolds (moment d1 slots)
holds_at {W} d0 d1 slots same i e =
    record {
      holding = subst (λ (c : Cache W). IsHolding (pool_of c) d1.seat.now slots) (sym same.cache) i;
      evictor = subst (λ (c : Cache W). IsEvictorOf (pool_of c) d1.evictor.now) (sym same.cache) e;
    }

-- the keys that slots then hold
pub got_keys : (key : Key) (ranged : Ranged) (s0 s1 : Slots) (slot : ℕ) → s1 ≡ slice_set s0 slot (Some (held_of key ranged)) → keys_of s1 ≡ slice_set (keys_of s0) slot (Some key)
got_keys key ranged s0 s1 slot f = ap keys_of f ∙ map-set key_of s0 slot (Some (held_of key ranged))

pub emptied_keys : (s0 s1 : Slots) (slot : ℕ) → s1 ≡ slice_set s0 slot None → keys_of s1 ≡ slice_set (keys_of s0) slot None
emptied_keys s0 s1 slot f = ap keys_of f ∙ map-set key_of s0 slot None

-- a slot that holds nothing stays as it is
pub stays_empty : (slots : Slots) (slot : ℕ) → slot_at slots slot ≡ None → slice_set slots slot None ≡ slots
stays_empty slots slot e = ap (λ (h : Option Held). slice_set slots slot h) (sym e) ∙ set-get_or slots slot None

-- ---- slots that hold no key that is meant: no deed is of them, and they stay as they are

passed : (of : Option Key) (n slot : ℕ) (keys : Keys) → ((i : ℕ) → i < n → means of (key_at keys i) ≡ false) → (drops_each of slot keys ≡ drops_each of (slot + n) (drop n keys)) × (left_of of keys ≡ take n keys ++ left_of of (drop n keys))
passed of zero slot keys none = (ap (λ (i : ℕ). drops_each of i keys) (let e : slot ≡ slot + 0 = omega arith in e), refl)
passed of (suc n) slot [] none = (refl, refl)
passed of (suc n) slot (k ∷ ks) none =
    let is : means of k ≡ false = none 0 (omega arith) in
    let rest = passed of n (slot + 1) ks (λ i below. none (suc i) (omega arith)) in
    let a : meant of k ≡ None = ap (λ (b : Bool). if b then k else None) is in
    let b : others of k ≡ k = ap (λ (b : Bool). if b then None else k) is in (
      ap (λ (x : Option Key). dropped slot x ++ drops_each of (slot + 1) ks) a ∙ rest.0
          ∙ ap (λ (i : ℕ). drops_each of i (drop n ks)) (let e : slot + 1 + n ≡ slot + suc n = omega arith in e),
      ap (λ (x : Option Key). x ∷ left_of of ks) b ∙ ap (λ (ls : Keys). k ∷ ls) rest.1,
    )

take_then : (i n : ℕ) (keys : Keys) → take i keys ++ take n (drop i keys) ≡ take (i + n) keys
take_then i n keys =
    ap (λ (ls : Keys). ls ++ take n (drop i keys)) (sym (take-take i (i + n) keys (omega arith)))
    ∙ ap (λ (ls : Keys). take i (take (i + n) keys) ++ ls) (sym (drop-take i n keys)) ∙ take-append-drop i (take (i + n) keys)

passed_over : (of : Option Key) (slot at : ℕ) (keys : Keys) → slot ≤ at → ((i : ℕ) → slot ≤ i → i < at → means of (key_at keys i) ≡ false) → (drops_each of slot (drop slot keys) ≡ drops_each of at (drop at keys)) × (take slot keys ++ left_of of (drop slot keys) ≡ take at keys ++ left_of of (drop at keys))
passed_over of slot at keys from none =
    let n : ℕ = at - slot in
    let e : slot + n ≡ at = omega arith in
    let ks : Keys = drop slot keys in
    let over = passed of n slot ks (λ i below. ap (λ (k : Option Key). means of k) (get_or-drop slot keys i None) ∙ none (slot + i) (omega arith) (omega arith)) in
    let rest : drop n ks ≡ drop at keys = drop-drop n slot keys ∙ ap (λ (i : ℕ). drop i keys) e in
    let front : take slot keys ++ take n ks ≡ take at keys = take_then slot n keys ∙ ap (λ (i : ℕ). take i keys) e in (
      over.0 ∙ ap (λ (i : ℕ). drops_each of i (drop n ks)) e ∙ ap (λ (ls : Keys). drops_each of at ls) rest,
      ap (λ (ls : Keys). take slot keys ++ ls) over.1 ∙ sym (append_assoc (take slot keys) (take n ks) (left_of of (drop n ks)))
          ∙ ap (λ (ls : Keys). ls ++ left_of of (drop n ks)) front ∙ ap (λ (ls : Keys). take at keys ++ left_of of ls) rest,
    )

module _ (files : Option Files) {W S : Type 0} (reads : S → Option (List FileRange)) where
  pub get_ok : (key : Key) (ranged : Ranged) (d0 d1 : Desk W S) (seat : PoolSeat W) (s0 s1 : Slots) (slot : ℕ) → DeskHolds (moment d0 s0) → IsGot files reads key ranged d0 d1 → IsSeatOf (pool_of d0.cache.now) d1.seat.now → IsEvictorOf (pool_of d0.cache.now) d1.evictor.now → IsRanged (pool_of d0.cache.now) d1.seat.now ranged × (range_key ranged ≡ key) → slot < length s0 → slot_at s0 slot ≡ None → seat ≡ d1.seat.now → s1 ≡ slice_set s0 slot (Some (held_of key ranged)) → DeskHolds (moment (reseated d1 seat) s1) × Ran files reads (moment d0 s0) (gets slot key ∷ []) (moment (reseated d1 seat) s1)
  get_ok key ranged d0 d1 seat s0 s1 slot i got of evicts is below empty e f =
      let P : PoolSeat W × Slots → Type 0 = λ z. DeskHolds (moment (reseated d1 z.0) z.1) × Ran files reads (moment d0 s0) (gets slot key ∷ []) (moment (reseated d1 z.0) z.1) in
      let next : Slots = slice_set s0 slot (Some (held_of key ranged)) in
      let holds = put_holds (pool_of d0.cache.now) d0.seat.now d1.seat.now s0 slot (Some (held_of key ranged)) i.holding of below empty is (got_others files reads key ranged d0 d1 got) (got_was files reads key ranged d0 d1 got) in
      let there : DeskHolds (moment d1 next) = holds_at d0 d1 next got.same holds evicts in
      subst P (λ j. (sym e j, sym f j)) (there, (moment d1 next, (ranged, got, refl), refl))

  pub drop_ok : (held : Held) (d0 d1 : Desk W S) (s0 s1 : Slots) (slot : ℕ) → DeskHolds (moment d0 s0) → IsDropped files reads held d0 d1 → IsSeatOf (pool_of d0.cache.now) d1.seat.now → slot < length s0 → slot_at s0 slot ≡ Some held → s1 ≡ slice_set s0 slot None → DeskHolds (moment d1 s1) × Ran files reads (moment d0 s0) (drops slot held.key ∷ []) (moment d1 s1)
  drop_ok held d0 d1 s0 s1 slot i dropped of below was f =
      let P : Slots → Type 0 = λ z. DeskHolds (moment d1 z) × Ran files reads (moment d0 s0) (drops slot held.key ∷ []) (moment d1 z) in
      let next : Slots = slice_set s0 slot None in
      let mine = subst (λ (x : Option Held). IsHeld (pool_of d0.cache.now) d0.seat.now x) was (i.holding.each slot) in
      let holds = drop_holds (pool_of d0.cache.now) d0.seat.now d1.seat.now s0 slot (Some held) i.holding of below was (done_others files (pool_of d0.cache.now) d0.seat.now d1.seat.now held.ranged.held dropped.done) (done_frees files (pool_of d0.cache.now) d0.seat.now d1.seat.now held.ranged.held i.holding.seat_of mine.0 dropped.done) in
      let evicts = subst (λ (v : Evictor). IsEvictorOf (pool_of d0.cache.now) v) (sym dropped.kept) i.evictor in
      let there : DeskHolds (moment d1 next) = holds_at d0 d1 next dropped.same holds evicts in
      subst P (sym f) (there, (moment d1 next, (held, was, refl, dropped, refl), refl))

  -- the same, by the keys
  pub drop_went : (held : Held) (d0 d1 : Desk W S) (s0 s1 : Slots) (slot : ℕ) → slot_at s0 slot ≡ Some held → Ran files reads (moment d0 s0) (drops slot held.key ∷ []) (moment d1 s1) → Ran files reads (moment d0 s0) (dropped slot (key_at (keys_of s0) slot)) (moment d1 s1)
  drop_went held d0 d1 s0 s1 slot was r =
      let e : key_at (keys_of s0) slot ≡ Some held.key = key_is s0 slot ∙ ap key_of was in
      let P : Option Key → Type 0 = λ k. Ran files reads (moment d0 s0) (dropped slot k) (moment d1 s1) in
      subst P (sym e) r

  pub none_went : (d : Desk W S) (s0 s1 : Slots) (slot : ℕ) → slot_at s0 slot ≡ None → s1 ≡ s0 → Ran files reads (moment d s0) (dropped slot (key_at (keys_of s0) slot)) (moment d s1)
  none_went d s0 s1 slot was f =
      let e : key_at (keys_of s0) slot ≡ None = key_is s0 slot ∙ ap key_of was in
      let P : Option Key → Type 0 = λ k. Ran files reads (moment d s0) (dropped slot k) (moment d s1) in
      subst P (sym e) (ap (λ (s : Slots). moment d s) f)

  -- deeds, and then deeds
  pub ran_then : (ds es : List Deed) (m k n : Moment W S) → Ran files reads m ds k → Ran files reads k es n → Ran files reads m (ds ++ es) n
  ran_then [] es m k n e r = subst (λ (x : Moment W S). Ran files reads x es n) e r
  ran_then (d ∷ ds) es m k n r s = (r.0, r.1, ran_then ds es r.0 k n r.2 s)

  -- ---- what several slots let go

  pub if_meant : (of : Option Key) (slot : ℕ) (m n : Moment W S) → means of (key_at (keys_of m.slots) slot) ≡ true → Ran files reads m (dropped slot (key_at (keys_of m.slots) slot)) n → keys_of n.slots ≡ slice_set (keys_of m.slots) slot None → Ran files reads m (dropped slot (meant of (key_at (keys_of m.slots) slot))) n × (keys_of n.slots ≡ slice_set (keys_of m.slots) slot (others of (key_at (keys_of m.slots) slot)))
  if_meant of slot m n e r k =
      let key : Option Key = key_at (keys_of m.slots) slot in
      let a : meant of key ≡ key = ap (λ (b : Bool). if b then key else None) e in
      let b : others of key ≡ None = ap (λ (b : Bool). if b then None else key) e in
      (subst (λ (x : Option Key). Ran files reads m (dropped slot x) n) (sym a) r, k ∙ ap (λ (x : Option Key). slice_set (keys_of m.slots) slot x) (sym b))

  pub each_end : (of : Option Key) (slot : ℕ) (m : Moment W S) → length m.slots ≤ slot → Ran files reads m (drops_each of slot (drop slot (keys_of m.slots))) m × (keys_of m.slots ≡ take slot (keys_of m.slots) ++ left_of of (drop slot (keys_of m.slots)))
  each_end of slot m past =
      let len : length (keys_of m.slots) ≤ slot = subst (λ (n : ℕ). n ≤ slot) (sym (length-map m.slots key_of)) past in
      let none : drop slot (keys_of m.slots) ≡ [] = drop_all slot (keys_of m.slots) len in
      let whole : take slot (keys_of m.slots) ≡ keys_of m.slots = take_all slot (keys_of m.slots) len in (
        subst (λ (ks : Keys). Ran files reads m (drops_each of slot ks) m) (sym none) refl,
        sym (append-nil (keys_of m.slots)) ∙ ap (λ (ks : Keys). ks ++ left_of of []) (sym whole) ∙ ap (λ (ks : Keys). take slot (keys_of m.slots) ++ left_of of ks) (sym none),
      )

  pub each_step : (of : Option Key) (slot : ℕ) (m k n : Moment W S) → slot < length m.slots → keys_of k.slots ≡ slice_set (keys_of m.slots) slot (others of (key_at (keys_of m.slots) slot)) → Ran files reads m (dropped slot (meant of (key_at (keys_of m.slots) slot))) k → Ran files reads k (drops_each of (slot + 1) (drop (slot + 1) (keys_of k.slots))) n → keys_of n.slots ≡ take (slot + 1) (keys_of k.slots) ++ left_of of (drop (slot + 1) (keys_of k.slots)) → Ran files reads m (drops_each of slot (drop slot (keys_of m.slots))) n × (keys_of n.slots ≡ take slot (keys_of m.slots) ++ left_of of (drop slot (keys_of m.slots)))
  each_step of slot m k n below e r s f =
      let ks : Keys = keys_of m.slots in
      let x : Option Key = others of (key_at ks slot) in
      let len : slot < length ks = subst (λ (i : ℕ). slot < i) (sym (length-map m.slots key_of)) below in
      let cons : drop slot ks ≡ key_at ks slot ∷ drop (slot + 1) ks = drop-cons ks slot None len ∙ ap (λ (i : ℕ). key_at ks slot ∷ drop i ks) (let e : suc slot ≡ slot + 1 = omega arith in e) in
      let rest : drop (slot + 1) (keys_of k.slots) ≡ drop (slot + 1) ks = ap (λ (ls : Keys). drop (slot + 1) ls) e ∙ drop-set-lt (slot + 1) ks slot x (omega arith) in
      let s' = subst (λ (ls : Keys). Ran files reads k (drops_each of (slot + 1) ls) n) rest s in
      let both = ran_then (dropped slot (meant of (key_at ks slot))) (drops_each of (slot + 1) (drop (slot + 1) ks)) m k n r s' in
      let front : take (slot + 1) (keys_of k.slots) ≡ take slot ks ++ x ∷ [] = ap (λ (ls : Keys). take (slot + 1) ls) e ∙ take_more_set ks slot x len in (
        subst (λ (ls : Keys). Ran files reads m (drops_each of slot ls) n) (sym cons) both,
        f ∙ ap (λ (ls : Keys). ls ++ left_of of (drop (slot + 1) (keys_of k.slots))) front ∙ ap (λ (ls : Keys). (take slot ks ++ x ∷ []) ++ left_of of ls) rest
            ∙ append_assoc (take slot ks) (x ∷ []) (left_of of (drop (slot + 1) ks)) ∙ ap (λ (ls : Keys). take slot ks ++ left_of of ls) (sym cons),
      )

  -- slots that hold no key that is meant are passed over

  pub passed_end : (of : Option Key) (slot at : ℕ) (m : Moment W S) → slot ≤ at → ((i : ℕ) → slot ≤ i → i < at → means of (key_at (keys_of m.slots) i) ≡ false) → length m.slots ≤ at → Ran files reads m (drops_each of slot (drop slot (keys_of m.slots))) m × (keys_of m.slots ≡ take slot (keys_of m.slots) ++ left_of of (drop slot (keys_of m.slots)))
  passed_end of slot at m from none past =
      let over = passed_over of slot at (keys_of m.slots) from none in
      let ends = each_end of at m past in
      (subst (λ (ds : List Deed). Ran files reads m ds m) (sym over.0) ends.0, ends.1 ∙ sym over.1)

  pub passed_step : (of : Option Key) (slot at : ℕ) (m k n : Moment W S) → slot ≤ at → ((i : ℕ) → slot ≤ i → i < at → means of (key_at (keys_of m.slots) i) ≡ false) → at < length m.slots → means of (key_at (keys_of m.slots) at) ≡ true → Ran files reads m (dropped at (key_at (keys_of m.slots) at)) k → keys_of k.slots ≡ slice_set (keys_of m.slots) at None → Ran files reads k (drops_each of (at + 1) (drop (at + 1) (keys_of k.slots))) n → keys_of n.slots ≡ take (at + 1) (keys_of k.slots) ++ left_of of (drop (at + 1) (keys_of k.slots)) → Ran files reads m (drops_each of slot (drop slot (keys_of m.slots))) n × (keys_of n.slots ≡ take slot (keys_of m.slots) ++ left_of of (drop slot (keys_of m.slots)))
  passed_step of slot at m k n from none below is r e s f =
      let over = passed_over of slot at (keys_of m.slots) from none in
      let went = if_meant of at m k is r e in
      let step = each_step of at m k n below went.1 went.0 s f in
      (subst (λ (ds : List Deed). Ran files reads m ds n) (sym over.0) step.0, step.1 ∙ sym over.1)

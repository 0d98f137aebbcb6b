-- A seat has no bid after a call, if it had none before.
use Rattle.std.proofs.Common.{◌≡◌, ◌≢◌, ◌==◌, ℕ, ◌%◌, ◌<◌, Bool, true, false, List, [], ◌∷◌, length, get_or, set, refl, sym, ap, ◌∙◌, subst, inl, inr, eq-eqb}
use Rattle.std.specs.Prelude.{Option, Some, None, if◌then◌else◌}
use Rattle.std.proofs.lemmas.Bool.{cases_eq, cases_lt}
use Rattle.std.proofs.lemmas.List.{get_or-set_same, get_or-set_other, set_past}
use Rattle.pool_model.specs.declared.block.Block.{Block}
use Rattle.pool_model.specs.declared.buffer.BufferKey.{BufferKey}
use Rattle.pool_model.specs.declared.step.Step.{Step}
use Rattle.pool_model.specs.Content.{Files}
use Rattle.pool_rule.specs.declared.geometry.Geometry.{Geometry}
use Rattle.pool_rule.specs.declared.geometry.Setup.{Setup}
use Rattle.pool_rule.specs.declared.geometry.WordName.{WordName}
use Rattle.pool_rule.specs.declared.geometry.WordName.TheVariants as name
use Rattle.pool_rule.specs.declared.view.Hold.{Hold}
use Rattle.pool_rule.specs.declared.view.Hold.TheVariants.{Free, Bid, Pinned}
use Rattle.pool_rule.specs.declared.view.Mark.{Mark}
use Rattle.pool_rule.specs.declared.view.View.{View}
use Rattle.pool_rule.specs.declared.word_step.WordStep.{WordStep}
use Rattle.pool_rule.specs.declared.word_step.WordStep.TheVariants.{Looked, LookedAtCell, Missed, Granted, Returned, Opened, Named, Filled, Published, Counted, Uncounted, EvictBegun, HeaderReleased, Updated}
use Rattle.pool_rule.specs.Layout.{headers_of}
use Rattle.pool_rule.specs.Rule.{first_view}
use Rattle.pool_rule.specs.Seats.{clear_mark, hold_with_key, joined, key_of, mark_at, mark_with_key, noted, part_of, parted, with_granted, with_key, with_mark, with_step}
use Rattle.pool_rule.specs.WordSteps.{IsMade, block_in, dropping, effect, learnt}
use Rattle.buffer_pool.specs.Bids.{HasNoBid}
use Rattle.buffer_pool.specs.Made.{AreMade, IsLiveWord}
use Rattle.buffer_pool.proofs.First.{replicated}

-- no bid but maybe on that header
abbrev pub NoBidBut : ℕ → View → Type 0
NoBidBut header v = (other : ℕ) → other ≢ header → (mark_at v other).hold ≡ Bid → ⊥

-- a mark without a bid
mark_bids : (header : ℕ) (m : Mark) (v : View) → (m.hold ≡ Bid → ⊥) → NoBidBut header v → HasNoBid v → HasNoBid (with_mark header m v)
unfolding with_mark
mark_bids header m v none but h other is =
    elim (cases_eq other header) [
      | inl same ↦
          elim (cases_lt header (length v.marks)) [
            | inl within ↦
                let e : mark_at (with_mark header m v) other ≡ m = ap (λ k. get_or (set v.marks header m) k clear_mark) same ∙ get_or-set_same v.marks header m clear_mark within in
                none (sym (ap (λ (x : Mark). x.hold) e) ∙ is)
            | inr past ↦ h other (sym (ap (λ (l : List Mark). (get_or l other clear_mark).hold) (set_past v.marks header m past)) ∙ is)
          ]
      | inr apart ↦ but other apart (sym (ap (λ (x : Mark). x.hold) (get_or-set_other v.marks header other m clear_mark apart)) ∙ is)
    ]

-- where the bid is on a header within the list
mark_frees : (header : ℕ) (m : Mark) (v : View) → header < length v.marks → (m.hold ≡ Bid → ⊥) → NoBidBut header v → HasNoBid (with_mark header m v)
unfolding with_mark
mark_frees header m v within none but other is =
    elim (cases_eq other header) [
      | inl same ↦
          let e : mark_at (with_mark header m v) other ≡ m = ap (λ k. get_or (set v.marks header m) k clear_mark) same ∙ get_or-set_same v.marks header m clear_mark within in
          none (sym (ap (λ (x : Mark). x.hold) e) ∙ is)
      | inr apart ↦ but other apart (sym (ap (λ (x : Mark). x.hold) (get_or-set_other v.marks header other m clear_mark apart)) ∙ is)
    ]

but_any : (header : ℕ) (v : View) → HasNoBid v → NoBidBut header v
but_any header v h other apart is = h other is

step_bids : (s : Step) (v : View) → HasNoBid v → HasNoBid (with_step s v)
unfolding with_step
step_bids s v h = h

granted_bids : (place : ℕ) (o : Option ℕ) (v : View) → HasNoBid v → HasNoBid (with_granted place o v)
unfolding with_granted
granted_bids place o v h = h

hold_key : (key : BufferKey) (hold : Hold) → hold_with_key key hold ≡ Bid → hold ≡ Bid
hold_key key Free e = e
hold_key key Bid e = refl
hold_key key (Pinned b k) e = cc

key_bids : (header found : ℕ) (v : View) → HasNoBid v → HasNoBid (with_key header found v)
unfolding with_key with_mark
key_bids header found v h = mark_bids header (mark_with_key (key_of found) (mark_at v header)) v (λ is. h header (hold_key (key_of found) (mark_at v header).hold is)) (but_any header v h) h

learnt_bids : (word : WordName) (found : ℕ) (v : View) → HasNoBid v → HasNoBid (learnt word found v)
learnt_bids (name.Arena i) found v h = h
learnt_bids (name.State header) found v h = h
learnt_bids (name.KeyOf header) found v h = key_bids header found v h
learnt_bids (name.Touches header) found v h = h
learnt_bids (name.Last header) found v h = h
learnt_bids name.Clock found v h = h

pin_no_bid : (b : Block) (k : Option BufferKey) → Pinned b k ≡ Bid → ⊥
pin_no_bid b k e = cc

free_no_bid : Free ≡ Bid → ⊥
free_no_bid e = cc

set_bids : (header : ℕ) (m : Mark) (v : View) → (m.hold ≡ Bid → ⊥) → HasNoBid v → HasNoBid (with_mark header m v)
set_bids header m v none h = mark_bids header m v none (but_any header v h) h

dropping_bids : (x : Hold) (id header : ℕ) (v : View) → HasNoBid v → HasNoBid (dropping x id header v)
dropping_bids Free id header v h = h
dropping_bids Bid id header v h = set_bids header _ v free_no_bid h
dropping_bids (Pinned b k) id header v h = step_bids _ _ (set_bids header _ v free_no_bid h)

-- a count may be a bid
abbrev pub IsNoCount : WordStep → Type 0
IsNoCount (Counted header found) = ⊥
IsNoCount (Looked word found) = Unit {0}
IsNoCount (LookedAtCell cell found) = Unit {0}
IsNoCount (Missed word found) = Unit {0}
IsNoCount (Granted b found) = Unit {0}
IsNoCount (Returned b found) = Unit {0}
IsNoCount (Opened header b cells) = Unit {0}
IsNoCount (Named header b key found) = Unit {0}
IsNoCount (Filled header b key done value found) = Unit {0}
IsNoCount (Published header b key found) = Unit {0}
IsNoCount (Uncounted header found) = Unit {0}
IsNoCount (EvictBegun header found) = Unit {0}
IsNoCount (HeaderReleased header b found) = Unit {0}
IsNoCount (Updated word found left) = Unit {0}

effect_bids : (id : ℕ) (s : WordStep) (v : View) → IsNoCount s → HasNoBid v → HasNoBid (effect id s v)
effect_bids id (Looked word found) v no_count h = learnt_bids word found v h
effect_bids id (LookedAtCell cell found) v no_count h = h
effect_bids id (Missed word found) v no_count h = h
effect_bids id (Granted b found) v no_count h = step_bids _ _ (granted_bids b.place _ v h)
effect_bids id (Returned b found) v no_count h = step_bids _ _ (granted_bids b.place _ v h)
effect_bids id (Opened header b cells) v no_count h = step_bids _ _ (granted_bids b.place _ _ (set_bids header _ v (h header) h))
effect_bids id (Named header b key found) v no_count h = step_bids _ _ (set_bids header _ v (h header) h)
effect_bids id (Filled header b key done value found) v no_count h = step_bids _ _ (set_bids header _ v (h header) h)
effect_bids id (Published header b key found) v no_count h = step_bids _ _ (set_bids header _ v (pin_no_bid b (Some key)) h)
effect_bids id (Counted header found) v no_count h = absurd no_count
effect_bids id (Uncounted header found) v no_count h = dropping_bids (mark_at v header).hold id header v h
effect_bids id (EvictBegun header found) v no_count h = step_bids _ _ (set_bids header _ v (h header) h)
effect_bids id (HeaderReleased header b found) v no_count h = step_bids _ _ (granted_bids b.place _ _ (set_bids header _ v (h header) h))
effect_bids id (Updated word found left) v no_count h = h

pub made_bids : (files : Option Files) (g : Geometry) (id : ℕ) (s : WordStep) (v w : View) → IsMade files g id s v w → IsNoCount s → HasNoBid v → HasNoBid w
unfolding noted
made_bids files g id s v w m no_count h = subst HasNoBid (sym m.view) (effect_bids id s v no_count h)

-- ---- a count, and its return

live_but : (t : Bool) (s : Step) (header : ℕ) (a b : Mark) (v : View) → t ≡ true → (a.hold ≡ Bid → ⊥) → HasNoBid v → HasNoBid (if t then with_step s (with_mark header a v) else with_mark header b v)
live_but true s header a b v e none h = step_bids s _ (set_bids header a v none h)
live_but false s header a b v e none h = cc

pub live_bids : (files : Option Files) (g : Geometry) (id header found : ℕ) (v w : View) → IsMade files g id (Counted header found) v w → IsLiveWord found → HasNoBid v → HasNoBid w
unfolding noted
live_bids files g id header found v w m live h =
    subst HasNoBid (sym m.view) (live_but (found % 16 == 0) _ header _ _ v (eq-eqb (found % 16) 0 live) (pin_no_bid (block_in found) None) h)

counted_but : (t : Bool) (s : Step) (header : ℕ) (a b : Mark) (v : View) → HasNoBid v → NoBidBut header (if t then with_step s (with_mark header a v) else with_mark header b v)
unfolding with_step with_mark
counted_but true s header a b v h other apart is = h other (sym (ap (λ (x : Mark). x.hold) (get_or-set_other v.marks header other a clear_mark apart)) ∙ is)
counted_but false s header a b v h other apart is = h other (sym (ap (λ (x : Mark). x.hold) (get_or-set_other v.marks header other b clear_mark apart)) ∙ is)

pub counted_bids : (files : Option Files) (g : Geometry) (id header found : ℕ) (v w : View) → IsMade files g id (Counted header found) v w → HasNoBid v → NoBidBut header w
unfolding noted
counted_bids files g id header found v w m h =
    let P : View → Type 0 = λ u. NoBidBut header u in
    subst P (sym m.view) (counted_but (found % 16 == 0) _ header _ _ v h)

freed : (x : Hold) (id header : ℕ) (v : View) → header < length v.marks → (mark_at v header).hold ≡ x → NoBidBut header v → HasNoBid (dropping x id header v)
freed Free id header v within e but =
    λ other is.
    elim (cases_eq other header) [
      | inl same ↦ free_no_bid (sym e ∙ (ap (λ k. (mark_at v k).hold) (sym same) ∙ is))
      | inr apart ↦ but other apart is
    ]
freed Bid id header v within e but = mark_frees header _ v within free_no_bid but
freed (Pinned b k) id header v within e but = step_bids _ _ (mark_frees header _ v within free_no_bid but)

pub uncounted_bids : (files : Option Files) (g : Geometry) (id header found : ℕ) (v w : View) → IsMade files g id (Uncounted header found) v w → header < length v.marks → NoBidBut header v → HasNoBid w
unfolding noted
uncounted_bids files g id header found v w m within but = subst HasNoBid (sym m.view) (freed (mark_at v header).hold id header v within refl but)

-- ---- several steps

abbrev pub NoCounts : List WordStep → Type 0
NoCounts [] = Unit {0}
NoCounts (s ∷ ss) = IsNoCount s × NoCounts ss

pub all_bids : (files : Option Files) (g : Geometry) (id : ℕ) (ss : List WordStep) (v w : View) → AreMade files g id ss v w → NoCounts ss → HasNoBid v → HasNoBid w
all_bids files g id [] v w e no_counts h = subst HasNoBid (sym e) h
all_bids files g id (s ∷ ss) v w all no_counts h = all_bids files g id ss all.0 w all.2 no_counts.1 (made_bids files g id s v all.0 all.1 no_counts.0 h)

-- ---- seats

clear_bids : (m : Mark) → m ≡ clear_mark → m.hold ≡ Bid → ⊥
clear_bids m e is = free_no_bid (sym (ap (λ (x : Mark). x.hold) e) ∙ is)

pub first_bids : (setup : Setup) → HasNoBid (first_view setup)
first_bids setup header is = clear_bids (mark_at (first_view setup) header) (replicated (headers_of setup.geometry) header clear_mark) is

pub part_bids : (count : ℕ) (v : View) → HasNoBid (part_of count v)
unfolding part_of
part_bids count v header is = clear_bids (mark_at (part_of count v) header) (replicated (headers_of v.geometry) header clear_mark) is

pub parted_bids : (count : ℕ) (v : View) → HasNoBid v → HasNoBid (parted count v)
unfolding parted
parted_bids count v h = h

pub joined_bids : (v w : View) → HasNoBid v → HasNoBid (joined v w)
unfolding joined
joined_bids v w h = h

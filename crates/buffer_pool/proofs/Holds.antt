-- What a seat has of a header after the steps that concern it.
use Rattle.std.proofs.Common.{◌≡◌, ◌≢◌, ◌==◌, ℕ, ◌+◌, ◌/◌, ◌%◌, ◌^◌, ◌<◌, Bool, true, false, List, length, refl, sym, ap, ◌∙◌, subst, arith, eq-eqb}
use Rattle.std.specs.Prelude.{Option, Some, None, if◌then◌else◌}
use Rattle.std.proofs.lemmas.List.{get_or-set_same}
use Rattle.buffer_word.specs.declared.state_word.Mode.{Mode}
use Rattle.buffer_word.specs.declared.state_word.Mode.TheVariants.{Released, New, Live, Moving, Evicted}
use Rattle.buffer_word.specs.declared.state_word.State.{State}
use Rattle.buffer_word.specs.StateWord.{state_word, word_of}
use Rattle.pool_model.specs.declared.block.Block.{Block}
use Rattle.pool_model.specs.declared.buffer.BufferKey.{BufferKey}
use Rattle.pool_model.specs.declared.step.Step.{Step}
use Rattle.pool_model.specs.Content.{Files}
use Rattle.pool_rule.specs.declared.geometry.Geometry.{Geometry}
use Rattle.pool_rule.specs.declared.geometry.WordName.TheVariants.{KeyOf}
use Rattle.pool_rule.specs.declared.view.Claim.TheVariants.{Fresh, Gone}
use Rattle.pool_rule.specs.declared.view.Hold.{Hold}
use Rattle.pool_rule.specs.declared.view.Hold.TheVariants.{Free, Bid, Pinned}
use Rattle.pool_rule.specs.declared.view.Mark.{Mark}
use Rattle.pool_rule.specs.declared.view.View.{View}
use Rattle.pool_rule.specs.declared.word_step.WordStep.TheVariants.{Looked, Granted, Opened, Named, Filled, Published, Counted, EvictBegun, HeaderReleased}
use Rattle.pool_rule.specs.Layout.{IsBlockIn}
use Rattle.pool_rule.specs.Seats.{clear_mark, granted_at, hold_with_key, key_of, mark_at, mark_with_key, noted, with_granted, with_key, with_mark, with_step}
use Rattle.pool_rule.specs.WordSteps.{IsMade, IsStateWord, block_in}
use Rattle.buffer_pool.specs.Made.{IsLiveWord}

set_here : (header : ℕ) (m : Mark) (v : View) → header < length v.marks → mark_at (with_mark header m v) header ≡ m
unfolding with_mark
set_here header m v within = get_or-set_same v.marks header m clear_mark within

step_mark : (s : Step) (v : View) (header : ℕ) → mark_at (with_step s v) header ≡ mark_at v header
unfolding with_step
step_mark s v header = refl

granted_mark : (place : ℕ) (o : Option ℕ) (v : View) (header : ℕ) → mark_at (with_granted place o v) header ≡ mark_at v header
unfolding with_granted
granted_mark place o v header = refl

module _ (files : Option Files) (g : Geometry) (id header : ℕ) (v w : View) (within : header < length v.marks) where
  -- a count is a pin or a bid, so not nothing
  counted_hold : (t : Bool) (s : Step) (b : Block) → (mark_at (if t then with_step s (with_mark header (record { hold = Pinned b None; claim = (mark_at v header).claim }) v) else with_mark header (record { hold = Bid; claim = (mark_at v header).claim }) v) header).hold ≢ Free
  counted_hold true s b e = let f : Pinned b None ≡ Free = sym (ap (λ (m : Mark). m.hold) (step_mark s _ header ∙ set_here header _ v within)) ∙ e in cc
  counted_hold false s b e = let f : Bid ≡ Free = sym (ap (λ (m : Mark). m.hold) (set_here header _ v within)) ∙ e in cc

  pub counted_some : (found : ℕ) → IsMade files g id (Counted header found) v w → (mark_at w header).hold ≢ Free
  unfolding noted
  counted_some found m = let P : View → Type 0 = λ u. (mark_at u header).hold ≢ Free in subst P (sym m.view) (counted_hold (found % 16 == 0) _ (block_in found))

  pinned_hold : (t : Bool) (s : Step) (b : Block) (c : Mark) → t ≡ true → (mark_at (if t then with_step s (with_mark header (record { hold = Pinned b None; claim = (mark_at v header).claim }) v) else with_mark header c v) header).hold ≡ Pinned b None
  pinned_hold true s b c e = ap (λ (m : Mark). m.hold) (step_mark s _ header ∙ set_here header _ v within)
  pinned_hold false s b c e = cc

  pub counted_pin : (found : ℕ) → IsMade files g id (Counted header found) v w → IsLiveWord found → (mark_at w header).hold ≡ Pinned (block_in found) None
  unfolding noted
  counted_pin found m live = ap (λ u. (mark_at u header).hold) m.view ∙ pinned_hold (found % 16 == 0) _ (block_in found) _ (eq-eqb (found % 16) 0 live)

  -- a load of the key word makes a pin's key known
  pub looked_hold : (found : ℕ) → IsMade files g id (Looked (KeyOf header) found) v w → (mark_at w header).hold ≡ hold_with_key (key_of found) (mark_at v header).hold
  unfolding noted with_key
  looked_hold found m = ap (λ u. (mark_at u header).hold) m.view ∙ ap (λ (x : Mark). x.hold) (get_or-set_same v.marks header (mark_with_key (key_of found) (mark_at v header)) clear_mark within)

  some_with_key : (key : BufferKey) (x : Hold) → x ≢ Free → hold_with_key key x ≢ Free
  some_with_key key Free ne e = ne refl
  some_with_key key Bid ne e = cc
  some_with_key key (Pinned b k) ne e = cc

  pub looked_some : (found : ℕ) → IsMade files g id (Looked (KeyOf header) found) v w → (mark_at v header).hold ≢ Free → (mark_at w header).hold ≢ Free
  looked_some found m ne e = some_with_key (key_of found) (mark_at v header).hold ne (sym (looked_hold found m) ∙ e)

  -- the claims of a new buffer
  pub opened_claim : (b : Block) (cells : List ℕ) → IsMade files g id (Opened header b cells) v w → (mark_at w header).claim ≡ Fresh b None 0
  unfolding noted
  opened_claim b cells m = ap (λ u. (mark_at u header).claim) m.view ∙ ap (λ (x : Mark). x.claim) (step_mark _ _ header ∙ (granted_mark b.place None _ header ∙ set_here header _ v within))

  pub named_claim : (b : Block) (key : BufferKey) (found : ℕ) → IsMade files g id (Named header b key found) v w → (mark_at w header).claim ≡ Fresh b (Some key) 0
  unfolding noted
  named_claim b key found m = ap (λ u. (mark_at u header).claim) m.view ∙ ap (λ (x : Mark). x.claim) (step_mark _ _ header ∙ set_here header _ v within)

  pub filled_claim : (b : Block) (key : BufferKey) (done value found : ℕ) → IsMade files g id (Filled header b key done value found) v w → (mark_at w header).claim ≡ Fresh b (Some key) (done + 1)
  unfolding noted
  filled_claim b key done value found m = ap (λ u. (mark_at u header).claim) m.view ∙ ap (λ (x : Mark). x.claim) (step_mark _ _ header ∙ set_here header _ v within)

  pub published_hold : (b : Block) (key : BufferKey) (found : ℕ) → IsMade files g id (Published header b key found) v w → (mark_at w header).hold ≡ Pinned b (Some key)
  unfolding noted
  published_hold b key found m = ap (λ u. (mark_at u header).hold) m.view ∙ ap (λ (x : Mark). x.hold) (step_mark _ _ header ∙ set_here header _ v within)

  -- the claim of a buffer that is evicted
  pub begun_claim : (found : ℕ) → IsMade files g id (EvictBegun header found) v w → (mark_at w header).claim ≡ Gone (block_in found)
  unfolding noted
  begun_claim found m = ap (λ u. (mark_at u header).claim) m.view ∙ ap (λ (x : Mark). x.claim) (step_mark _ _ header ∙ set_here header _ v within)

-- the block of a released header is granted
pub released_block : (files : Option Files) (g : Geometry) (id header : ℕ) (b : Block) (found : ℕ) (v w : View) → IsMade files g id (HeaderReleased header b found) v w → b.place < length v.granted → granted_at w b.place ≡ Some b.order
unfolding noted with_step with_granted with_mark
released_block files g id header b found v w m within = ap (λ u. granted_at u b.place) m.view ∙ get_or-set_same v.granted b.place (Some b.order) None within

-- a granted block is granted
pub granted_block : (files : Option Files) (g : Geometry) (id : ℕ) (b : Block) (found : ℕ) (v w : View) → IsMade files g id (Granted b found) v w → b.place < length v.granted → granted_at w b.place ≡ Some b.order
unfolding noted with_step with_granted
granted_block files g id b found v w m within = ap (λ u. granted_at u b.place) m.view ∙ get_or-set_same v.granted b.place (Some b.order) None within

-- ---- the state word of a live buffer

live_mode : (s : State) → state_word s % 16 ≡ 0 → s.mode ≡ Live
live_mode s e = by_mode s.mode refl
  where
    by_mode : (m : Mode) → s.mode ≡ m → s.mode ≡ Live
    by_mode Released is = let f : word_of s.count Released s.order s.place % 16 ≡ 0 = sym (ap (λ (x : Mode). word_of s.count x s.order s.place % 16) is) ∙ e in absurd (omega (arith, f))
    by_mode New is = let f : word_of s.count New s.order s.place % 16 ≡ 0 = sym (ap (λ (x : Mode). word_of s.count x s.order s.place % 16) is) ∙ e in absurd (omega (arith, f))
    by_mode Live is = is
    by_mode Moving is = let f : word_of s.count Moving s.order s.place % 16 ≡ 0 = sym (ap (λ (x : Mode). word_of s.count x s.order s.place % 16) is) ∙ e in absurd (omega (arith, f))
    by_mode Evicted is = let f : word_of s.count Evicted s.order s.place % 16 ≡ 0 = sym (ap (λ (x : Mode). word_of s.count x s.order s.place % 16) is) ∙ e in absurd (omega (arith, f))

place_of_word : (count order place : ℕ) → count < 65536 → order < 16 → word_of count Live order place / 2 ^ 24 ≡ place
place_of_word count order place h k = omega (arith, h, k)

order_of_word : (count order place : ℕ) → count < 65536 → order < 16 → word_of count Live order place / 2 ^ 20 % 2 ^ 4 ≡ order
order_of_word count order place h k = omega (arith, h, k)

block_of_word : (count order place : ℕ) → count < 65536 → order < 16 → block_in (word_of count Live order place) ≡ record { place = place; order = order }
block_of_word count order place h k =
    let p = place_of_word count order place h k in
    let o = order_of_word count order place h k in
    λ i. record { place = p i; order = o i }

pub live_block : (g : Geometry) (word : ℕ) → IsStateWord g word → IsLiveWord word → IsBlockIn g (block_in word)
live_block g word is live =
    let s : State = is.0 in
    let mode = live_mode s (sym (ap (λ n. n % 16) is.2) ∙ live) in
    let word_is : word ≡ word_of s.count Live s.order s.place = is.2 ∙ ap (λ (x : Mode). word_of s.count x s.order s.place) mode in
    let block_is : block_in word ≡ record { place = s.place; order = s.order } = ap block_in word_is ∙ block_of_word s.count s.order s.place (omega (arith, is.1.count)) (omega (arith, is.1.order)) in
    let P : Block → Type 0 = λ b. IsBlockIn g b in
    subst P (sym block_is) (is.4 (λ e. let f : Live ≡ Released = sym mode ∙ e in cc))

pub word_small : (g : Geometry) (word : ℕ) → IsStateWord g word → word < 2 ^ 44
word_small g word is = by_mode is.0.mode is.2
  where
    by_mode : (m : Mode) → word ≡ word_of is.0.count m is.0.order is.0.place → word < 2 ^ 44
    by_mode Released e = omega (arith, e, is.1.count, is.1.order, is.1.place)
    by_mode New e = omega (arith, e, is.1.count, is.1.order, is.1.place)
    by_mode Live e = omega (arith, e, is.1.count, is.1.order, is.1.place)
    by_mode Moving e = omega (arith, e, is.1.count, is.1.order, is.1.place)
    by_mode Evicted e = omega (arith, e, is.1.count, is.1.order, is.1.place)

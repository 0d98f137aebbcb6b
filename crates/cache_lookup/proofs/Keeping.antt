-- What a seat has of a header while it looks it up.
use Rattle.std.proofs.Common.{◌≡◌, ◌≢◌, ◌==◌, ℕ, ◌%◌, ◌<◌, Bool, true, false, length, refl, sym, ap, ◌∙◌, subst, inl, inr}
use Rattle.std.specs.Prelude.{Option, Some, None, if◌then◌else◌}
use Rattle.std.proofs.lemmas.Bool.{cases_eq}
use Rattle.std.proofs.lemmas.List.{get_or-set_same, length-set}
use Rattle.std.proofs.lemmas.Option.{none-some}
use Rattle.buffer_word.specs.declared.key_word.Key.{Key}
use Rattle.buffer_word.specs.Changes.{WordTellsKey}
use Rattle.buffer_word.specs.KeyWord.{IsKey, key_word}
use Rattle.pool_model.specs.declared.block.Block.{Block}
use Rattle.pool_model.specs.declared.buffer.BufferKey.{BufferKey}
use Rattle.pool_model.specs.declared.step.Step.{Step}
use Rattle.pool_model.specs.Content.{Files}
use Rattle.pool_rule.specs.declared.geometry.Geometry.{Geometry}
use Rattle.pool_rule.specs.declared.geometry.WordName.TheVariants.{State, KeyOf}
use Rattle.pool_rule.specs.declared.view.Claim.{Claim}
use Rattle.pool_rule.specs.declared.view.Claim.TheVariants.{Unclaimed, Fresh, Gone, Carried}
use Rattle.pool_rule.specs.declared.view.Hold.{Hold}
use Rattle.pool_rule.specs.declared.view.Hold.TheVariants.{Free, Bid, Pinned}
use Rattle.pool_rule.specs.declared.view.Mark.{Mark}
use Rattle.pool_rule.specs.declared.view.View.{View}
use Rattle.pool_rule.specs.declared.word_step.WordStep.{WordStep}
use Rattle.pool_rule.specs.declared.word_step.WordStep.TheVariants.{Looked, Counted, Uncounted}
use Rattle.pool_rule.specs.Headers.{packed}
use Rattle.pool_rule.specs.Seats.{claim_with_key, clear_mark, hold_with_key, key_of, mark_at, mark_with_key, noted, with_key, with_mark, with_step}
use Rattle.pool_rule.specs.WordSteps.{IsMade, TellsHold, dropping}
use Rattle.buffer_pool.specs.Callers.{made_granted, made_mark}
use Rattle.buffer_pool.specs.Made.{header_of, place_of}
use Rattle.buffer_pool.specs.Pools.{buffer_key}
use Rattle.cache_lookup.specs.Before.{HasHoldMore, HasNoPinOf, IsAsBefore, IsNoPinOf, SameClaims, SameGrants, bare}
use Rattle.cache_lookup.specs.Callers.{before_made}

-- ---- a header's mark after a step on it

mark_here : (header : ℕ) (m : Mark) (v : View) → header < length v.marks → mark_at (with_mark header m v) header ≡ m
unfolding with_mark
mark_here header m v within = get_or-set_same v.marks header m clear_mark within

step_mark : (s : Step) (v : View) (header : ℕ) → mark_at (with_step s v) header ≡ mark_at v header
unfolding with_step
step_mark s v header = refl

count_marks : (header : ℕ) (m : Mark) (v : View) → length (with_mark header m v).marks ≡ length v.marks
unfolding with_mark
count_marks header m v = length-set v.marks header m

step_marks : (s : Step) (v : View) → length (with_step s v).marks ≡ length v.marks
unfolding with_step
step_marks s v = refl

either_marks : (t : Bool) (a b : View) (n : ℕ) → length a.marks ≡ n → length b.marks ≡ n → length (if t then a else b).marks ≡ n
either_marks true a b n p q = p
either_marks false a b n p q = q

dropping_marks : (x : Hold) (id header : ℕ) (v : View) → length (dropping x id header v).marks ≡ length v.marks
dropping_marks Free id header v = refl
dropping_marks Bid id header v = count_marks header _ v
dropping_marks (Pinned b k) id header v = step_marks _ _ ∙ count_marks header _ v

-- a hold that is a pin or a bid
abbrev pub IsHold : Hold → Type 0
IsHold x = x ≡ Free → ⊥

bid_holds : IsHold Bid
bid_holds e = cc

pin_holds : (b : Block) (k : Option BufferKey) → IsHold (Pinned b k)
pin_holds b k e = cc

key_holds : (key : BufferKey) (x : Hold) → IsHold x → IsHold (hold_with_key key x)
key_holds key Free h = h
key_holds key Bid h = h
key_holds key (Pinned b k) h = pin_holds b _

bare_key : (key : BufferKey) (c : Claim) → bare (claim_with_key key c) ≡ bare c
bare_key key Unclaimed = refl
bare_key key (Fresh b k done) = refl
bare_key key (Gone b) = refl
bare_key key (Carried b t k done next) = refl

module _ (files : Option Files) (g : Geometry) (id header found : ℕ) (v w : View) (within : header < length v.marks) where
  looked_here : IsMade files g id (Looked (KeyOf header) found) v w → mark_at w header ≡ mark_with_key (key_of found) (mark_at v header)
  unfolding noted with_key
  looked_here m = ap (λ u. mark_at u header) m.view ∙ get_or-set_same v.marks header (mark_with_key (key_of found) (mark_at v header)) clear_mark within

  pub looked_marks : IsMade files g id (Looked (KeyOf header) found) v w → length w.marks ≡ length v.marks
  unfolding noted with_key
  looked_marks m = ap (λ (u : View). length u.marks) m.view ∙ length-set v.marks header (mark_with_key (key_of found) (mark_at v header))

  pub state_marks : IsMade files g id (Looked (State header) found) v w → length w.marks ≡ length v.marks
  unfolding noted
  state_marks m = ap (λ (u : View). length u.marks) m.view

  pub counted_marks : IsMade files g id (Counted header found) v w → length w.marks ≡ length v.marks
  unfolding noted
  counted_marks m = ap (λ (u : View). length u.marks) m.view ∙ either_marks (found % 16 == 0) _ _ (length v.marks) (step_marks _ _ ∙ count_marks header _ v) (count_marks header _ v)

  pub uncounted_marks : IsMade files g id (Uncounted header found) v w → length w.marks ≡ length v.marks
  unfolding noted
  uncounted_marks m = ap (λ (u : View). length u.marks) m.view ∙ dropping_marks (mark_at v header).hold id header v

  counted_either : (t : Bool) (a b : View) → IsHold (mark_at a header).hold → IsHold (mark_at b header).hold → IsHold (mark_at (if t then a else b) header).hold
  counted_either true a b p q = p
  counted_either false a b p q = q

  held_here : (x : Hold) → IsHold x → IsHold (mark_at (with_mark header (record { hold = x; claim = (mark_at v header).claim }) v) header).hold
  held_here x h = let P : Mark → Type 0 = λ m. IsHold m.hold in subst P (sym (mark_here header _ v within)) h

  counted_holds : IsMade files g id (Counted header found) v w → IsHold (mark_at w header).hold
  unfolding noted
  counted_holds m =
      let P : View → Type 0 = λ u. IsHold (mark_at u header).hold in
      let Q : Mark → Type 0 = λ m. IsHold m.hold in
      subst P (sym m.view) (counted_either (found % 16 == 0) _ _ (subst Q (sym (step_mark _ _ header)) (held_here _ (pin_holds _ None))) (held_here _ bid_holds))

  claim_either : (t : Bool) (a b : View) (c : Claim) → (mark_at a header).claim ≡ c → (mark_at b header).claim ≡ c → (mark_at (if t then a else b) header).claim ≡ c
  claim_either true a b c p q = p
  claim_either false a b c p q = q

  claim_here : (x : Hold) → (mark_at (with_mark header (record { hold = x; claim = (mark_at v header).claim }) v) header).claim ≡ (mark_at v header).claim
  claim_here x = ap (λ (m : Mark). m.claim) (mark_here header _ v within)

  counted_claim : IsMade files g id (Counted header found) v w → (mark_at w header).claim ≡ (mark_at v header).claim
  unfolding noted
  counted_claim m =
      ap (λ u. (mark_at u header).claim) m.view
      ∙ claim_either (found % 16 == 0) _ _ _ (ap (λ (x : Mark). x.claim) (step_mark _ _ header) ∙ claim_here _) (claim_here _)

  dropped : (x : Hold) → IsHold x → mark_at (dropping x id header v) header ≡ record { hold = Free; claim = (mark_at v header).claim }
  dropped Free h = absurd (h refl)
  dropped Bid h = mark_here header _ v within
  dropped (Pinned b k) h = step_mark _ _ header ∙ mark_here header _ v within

  uncounted_here : IsMade files g id (Uncounted header found) v w → IsHold (mark_at v header).hold → mark_at w header ≡ record { hold = Free; claim = (mark_at v header).claim }
  unfolding noted
  uncounted_here m h = ap (λ u. mark_at u header) m.view ∙ dropped (mark_at v header).hold h

-- ---- what the seat has, beside what it had

-- the seat has what it had, of as many headers
pub record IsKept (start v : View) : Type 0 where
  pub same : IsAsBefore start v
  pub marks : length v.marks ≡ length start.marks

-- the seat has a count on a header besides, which it is about to take back or keep
pub record HasCount (start v : View) (header : ℕ) : Type 0 where
  pub more : HasHoldMore start v header
  pub counted : IsHold (mark_at v header).hold
  pub marks : length v.marks ≡ length start.marks

-- each pin's key is known
abbrev pub IsKnownHold : Hold → Type 0
IsKnownHold Free = Unit {0}
IsKnownHold Bid = Unit {0}
IsKnownHold (Pinned b None) = ⊥
IsKnownHold (Pinned b (Some k)) = Unit {0}

known_of : (key : BufferKey) (x : Hold) → IsNoPinOf key x → IsKnownHold x
known_of key Free h = tt
known_of key Bid h = tt
known_of key (Pinned b None) h = h
known_of key (Pinned b (Some k)) h = tt

known_stays : (key : BufferKey) (x : Hold) → IsKnownHold x → hold_with_key key x ≡ x
known_stays key Free h = refl
known_stays key Bid h = refl
known_stays key (Pinned b None) h = absurd h
known_stays key (Pinned b (Some k)) h = refl

-- a step that has to do with one header, whose claim stays but for a key
module _ (files : Option Files) (g : Geometry) (id : ℕ) (s : WordStep) (start v w : View) (m : IsMade files g id s v w) (header : ℕ) (of_header : header_of s ≡ Some header) (of_no_place : place_of s ≡ None) where
  apart_of : (other : ℕ) → other ≢ header → header_of s ≢ Some other
  apart_of other apart e = let f : Some header ≡ Some other = sym of_header ∙ e in apart (let k : other ≡ header = cc in k)

  there : (other : ℕ) → other ≢ header → mark_at w other ≡ mark_at v other
  there other apart = made_mark files g id s v w m other (apart_of other apart)

  claims_on : bare (mark_at w header).claim ≡ bare (mark_at v header).claim → SameClaims start v → SameClaims start w
  claims_on here c other =
      elim (cases_eq other header) [
        | inl same ↦ ap (λ k. bare (mark_at w k).claim) same ∙ (here ∙ (ap (λ k. bare (mark_at v k).claim) (sym same) ∙ c other))
        | inr apart ↦ ap (λ (x : Mark). bare x.claim) (there other apart) ∙ c other
      ]

  grants_on : SameGrants start v → SameGrants start w
  grants_on c place = made_granted files g id s v w m place (λ e. none-some place (sym of_no_place ∙ e)) ∙ c place

  holds_on : (mark_at w header).hold ≡ (mark_at start header).hold → ((other : ℕ) → other ≢ header → (mark_at v other).hold ≡ (mark_at start other).hold) → (other : ℕ) → (mark_at w other).hold ≡ (mark_at start other).hold
  holds_on here c other =
      elim (cases_eq other header) [
        | inl same ↦ ap (λ k. (mark_at w k).hold) same ∙ (here ∙ ap (λ k. (mark_at start k).hold) (sym same))
        | inr apart ↦ ap (λ (x : Mark). x.hold) (there other apart) ∙ c other apart
      ]

  others_on : ((other : ℕ) → other ≢ header → (mark_at v other).hold ≡ (mark_at start other).hold) → (other : ℕ) → other ≢ header → (mark_at w other).hold ≡ (mark_at start other).hold
  others_on c other apart = ap (λ (x : Mark). x.hold) (there other apart) ∙ c other apart

-- a count is taken back
pub let_go : (files : Option Files) (g : Geometry) (id header found : ℕ) (start v w : View) → header < length v.marks → (mark_at v header).hold ≢ Free → IsMade files g id (Uncounted header found) v w → HasHoldMore start v header → IsAsBefore start w
let_go files g id header found start v w within counted m c =
    let s = Uncounted header found in
    let here = uncounted_here files g id header found v w within m counted in
    record {
      claims = claims_on files g id s start v w m header refl refl (ap (λ (x : Mark). bare x.claim) here) c.claims;
      grants = grants_on files g id s start v w m header refl refl c.grants;
      holds = holds_on files g id s start v w m header refl refl (ap (λ (x : Mark). x.hold) here ∙ sym c.was) c.others;
    }

module _ (files : Option Files) (g : Geometry) (id : ℕ) (start : View) (header found : ℕ) (inside : header < length start.marks) where
  within_of : (v : View) → length v.marks ≡ length start.marks → header < length v.marks
  within_of v e = let P : ℕ → Type 0 = λ n. header < n in subst P (sym e) inside

  pub kept_state : (v w : View) → IsMade files g id (Looked (State header) found) v w → IsKept start v → IsKept start w
  kept_state v w m c =
      record {
        same = before_made files g id (Looked (State header) found) start v w m refl refl c.same;
        marks = state_marks files g id header found v w (within_of v c.marks) m ∙ c.marks;
      }

  pub kept_key : (v w : View) → ((h : ℕ) → IsKnownHold (mark_at start h).hold) → IsMade files g id (Looked (KeyOf header) found) v w → IsKept start v → IsKept start w
  kept_key v w known m c =
      let within = within_of v c.marks in
      let s = Looked (KeyOf header) found in
      let here = looked_here files g id header found v w within m in
      let is_known : IsKnownHold (mark_at v header).hold = let P : Hold → Type 0 = λ x. IsKnownHold x in subst P (sym (c.same.holds header)) (known header) in
      record {
        same = record {
          claims = claims_on files g id s start v w m header refl refl (ap (λ (x : Mark). bare x.claim) here ∙ bare_key (key_of found) (mark_at v header).claim) c.same.claims;
          grants = grants_on files g id s start v w m header refl refl c.same.grants;
          holds = holds_on files g id s start v w m header refl refl (ap (λ (x : Mark). x.hold) here ∙ (known_stays (key_of found) (mark_at v header).hold is_known ∙ c.same.holds header)) (λ other apart. c.same.holds other);
        };
        marks = looked_marks files g id header found v w within m ∙ c.marks;
      }

  pub has_count : (v w : View) → (mark_at start header).hold ≡ Free → IsMade files g id (Counted header found) v w → IsKept start v → HasCount start w header
  has_count v w free m c =
      let within = within_of v c.marks in
      let s = Counted header found in
      record {
        more = record {
          claims = claims_on files g id s start v w m header refl refl (ap bare (counted_claim files g id header found v w within m)) c.same.claims;
          grants = grants_on files g id s start v w m header refl refl c.same.grants;
          others = others_on files g id s start v w m header refl refl (λ other apart. c.same.holds other);
          was = free;
        };
        counted = counted_holds files g id header found v w within m;
        marks = counted_marks files g id header found v w within m ∙ c.marks;
      }

  pub count_key : (v w : View) → IsMade files g id (Looked (KeyOf header) found) v w → HasCount start v header → HasCount start w header
  count_key v w m c =
      let within = within_of v c.marks in
      let s = Looked (KeyOf header) found in
      let here = looked_here files g id header found v w within m in
      let P : Mark → Type 0 = λ x. IsHold x.hold in
      record {
        more = record {
          claims = claims_on files g id s start v w m header refl refl (ap (λ (x : Mark). bare x.claim) here ∙ bare_key (key_of found) (mark_at v header).claim) c.more.claims;
          grants = grants_on files g id s start v w m header refl refl c.more.grants;
          others = others_on files g id s start v w m header refl refl c.more.others;
          was = c.more.was;
        };
        counted = subst P (sym here) (key_holds (key_of found) (mark_at v header).hold c.counted);
        marks = looked_marks files g id header found v w within m ∙ c.marks;
      }

  pub kept_back : (v w : View) → IsMade files g id (Uncounted header found) v w → HasCount start v header → IsKept start w
  kept_back v w m c =
      let within = within_of v c.marks in
      record { same = let_go files g id header found start v w within c.counted m c.more; marks = uncounted_marks files g id header found v w within m ∙ c.marks }

-- ---- where the key word shows a key of which the seat has no pin, it has nothing of the header's count

free_of : WordTellsKey → (g : Geometry) (key : Key) (found : ℕ) (x : Hold) → IsKey key → found ≡ key_word key → TellsHold g x found → IsNoPinOf (buffer_key key) x → (x ≡ Bid → ⊥) → x ≡ Free
free_of law g key found Free good e told no_pin no_bid = refl
free_of law g key found Bid good e told no_pin no_bid = absurd (no_bid refl)
free_of law g key found (Pinned b None) good e told no_pin no_bid = absurd no_pin
free_of law g key found (Pinned b (Some k)) good e told no_pin no_bid =
    absurd (no_pin (told.known_is ∙ ap buffer_key (law (packed (key_of found)) key told.packs good (sym told.is ∙ e))))

-- of the seat at its start, by the load
pub free_by_load : WordTellsKey → (files : Option Files) (g : Geometry) (id : ℕ) (key : Key) (header found : ℕ) (start v w : View) → IsKey key → found ≡ key_word key → HasNoPinOf (buffer_key key) start → ((h : ℕ) → (mark_at start h).hold ≡ Bid → ⊥) → IsKept start v → IsMade files g id (Looked (KeyOf header) found) v w → (mark_at start header).hold ≡ Free
free_by_load law files g id key header found start v w good e no_pin no_bid c m =
    let P : Hold → Type 0 = λ x. TellsHold g x found in
    free_of law g key found (mark_at start header).hold good e (subst P (c.same.holds header) m.tells.0) (no_pin header) (no_bid header)

pub known_holds : (key : BufferKey) (start : View) → HasNoPinOf key start → (h : ℕ) → IsKnownHold (mark_at start h).hold
known_holds key start no_pin h = known_of key (mark_at start h).hold (no_pin h)

pub no_pin_kept : (key : BufferKey) (start v : View) → HasNoPinOf key start → IsAsBefore start v → HasNoPinOf key v
no_pin_kept key start v no_pin c h = let P : Hold → Type 0 = λ x. IsNoPinOf key x in subst P (sym (c.holds h)) (no_pin h)

pub kept_at_start : (v : View) → IsKept v v
kept_at_start v = record { same = record { claims = λ h. refl; grants = λ p. refl; holds = λ h. refl }; marks = refl }

-- What a seat has while it places a range: a block besides, then a new buffer besides, then a pin.
use Rattle.std.proofs.Common.{◌≡◌, ◌≢◌, ℕ, ◌+◌, ◌<◌, List, [], ◌∷◌, length, get_or, set, refl, sym, ap, ◌∙◌, subst, inl, inr}
use Rattle.std.specs.Prelude.{Option, Some, None}
use Rattle.std.proofs.lemmas.Bool.{cases_eq, cases_lt}
use Rattle.std.proofs.lemmas.List.{get_or-set_same, get_or_past, length-set, set_past}
use Rattle.std.proofs.lemmas.Option.{none-some}
use Rattle.pool_model.specs.declared.block.Block.{Block}
use Rattle.pool_model.specs.declared.buffer.BufferKey.{BufferKey}
use Rattle.pool_model.specs.declared.step.Step.{Step}
use Rattle.pool_model.specs.Content.{Files}
use Rattle.pool_rule.specs.declared.geometry.Geometry.{Geometry}
use Rattle.pool_rule.specs.declared.geometry.WordName.TheVariants.{Arena, State}
use Rattle.pool_rule.specs.declared.view.Claim.TheVariants.{Unclaimed}
use Rattle.pool_rule.specs.declared.view.Mark.{Mark}
use Rattle.pool_rule.specs.declared.view.View.{View}
use Rattle.pool_rule.specs.declared.word_step.WordStep.{WordStep}
use Rattle.pool_rule.specs.declared.word_step.WordStep.TheVariants.{Looked, Missed, Granted, Returned, Opened, Named, Filled, Published}
use Rattle.pool_rule.specs.Seats.{clear_mark, granted_at, mark_at, noted, with_granted, with_mark, with_step}
use Rattle.pool_rule.specs.WordSteps.{IsMade}
use Rattle.buffer_pool.specs.Callers.{made_granted, made_mark, returned_gone}
use Rattle.buffer_pool.specs.Made.{AreMade, fill_steps, header_of, place_of}
use Rattle.cache_lookup.specs.Before.{HasHoldMore, IsAsBefore, SameClaims, SameGrants, SameHolds, bare}
use Rattle.cache_lookup.specs.Callers.{before_made}

-- ---- a header's mark, and what is granted at a place

mark_here : (header : ℕ) (m : Mark) (v : View) → header < length v.marks → mark_at (with_mark header m v) header ≡ m
unfolding with_mark
mark_here header m v within = get_or-set_same v.marks header m clear_mark within

step_mark : (s : Step) (v : View) (header : ℕ) → mark_at (with_step s v) header ≡ mark_at v header
unfolding with_step
step_mark s v header = refl

granted_mark : (place : ℕ) (o : Option ℕ) (v : View) (header : ℕ) → mark_at (with_granted place o v) header ≡ mark_at v header
unfolding with_granted
granted_mark place o v header = refl

none_here : (l : List (Option ℕ)) (p : ℕ) → get_or (set l p None) p None ≡ None
none_here l p =
    elim (cases_lt p (length l)) [
      | inl within ↦ get_or-set_same l p None None within
      | inr past ↦ ap (λ (x : List (Option ℕ)). get_or x p None) (set_past l p None past) ∙ get_or_past l p None past
    ]

gone_here : (place : ℕ) (v : View) → granted_at (with_granted place None v) place ≡ None
unfolding with_granted
gone_here place v = none_here v.granted place

step_granted : (s : Step) (v : View) (place : ℕ) → granted_at (with_step s v) place ≡ granted_at v place
unfolding with_step
step_granted s v place = refl

-- as many headers as before
module _ (files : Option Files) (g : Geometry) (id : ℕ) (v w : View) where
  looked_marks : (arena found : ℕ) → IsMade files g id (Looked (Arena arena) found) v w → length w.marks ≡ length v.marks
  unfolding noted
  looked_marks arena found m = ap (λ (u : View). length u.marks) m.view

  granted_marks : (b : Block) (found : ℕ) → IsMade files g id (Granted b found) v w → length w.marks ≡ length v.marks
  unfolding noted with_step with_granted
  granted_marks b found m = ap (λ (u : View). length u.marks) m.view

  opened_marks : (header : ℕ) (b : Block) (cells : List ℕ) → IsMade files g id (Opened header b cells) v w → length w.marks ≡ length v.marks
  unfolding noted with_step with_granted with_mark
  opened_marks header b cells m = ap (λ (u : View). length u.marks) m.view ∙ length-set v.marks header _

  named_marks : (header : ℕ) (b : Block) (key : BufferKey) (found : ℕ) → IsMade files g id (Named header b key found) v w → length w.marks ≡ length v.marks
  unfolding noted with_step with_mark
  named_marks header b key found m = ap (λ (u : View). length u.marks) m.view ∙ length-set v.marks header _

  filled_marks : (header : ℕ) (b : Block) (key : BufferKey) (done value found : ℕ) → IsMade files g id (Filled header b key done value found) v w → length w.marks ≡ length v.marks
  unfolding noted with_step with_mark
  filled_marks header b key done value found m = ap (λ (u : View). length u.marks) m.view ∙ length-set v.marks header _

-- ---- what the seat has

pub record IsKept (start v : View) : Type 0 where
  pub same : IsAsBefore start v
  pub marks : length v.marks ≡ length start.marks

-- a block besides, where it had none
pub record HasBlock (start v : View) (b : Block) : Type 0 where
  pub claims : SameClaims start v
  pub holds : SameHolds start v
  pub others : (place : ℕ) → place ≢ b.place → granted_at v place ≡ granted_at start place
  pub was : granted_at start b.place ≡ None
  pub marks : length v.marks ≡ length start.marks

-- a new buffer besides, in a header on which it had no claim
pub record HasNew (start v : View) (header : ℕ) : Type 0 where
  pub others : (other : ℕ) → other ≢ header → bare (mark_at v other).claim ≡ bare (mark_at start other).claim
  pub was : bare (mark_at start header).claim ≡ Unclaimed
  pub holds : SameHolds start v
  pub grants : SameGrants start v
  pub marks : length v.marks ≡ length start.marks

pub kept_at_start : (v : View) → IsKept v v
kept_at_start v = record { same = record { claims = λ h. refl; grants = λ p. refl; holds = λ h. refl }; marks = refl }

module _ (files : Option Files) (g : Geometry) (id : ℕ) (start v w : View) where
  pub kept_arena : (arena found : ℕ) → IsMade files g id (Looked (Arena arena) found) v w → IsKept start v → IsKept start w
  kept_arena arena found m c = record { same = before_made files g id (Looked (Arena arena) found) start v w m refl refl c.same; marks = looked_marks files g id v w arena found m ∙ c.marks }

  pub same_missed : (arena saw : ℕ) → IsMade files g id (Missed (Arena arena) saw) v w → IsAsBefore start v → IsAsBefore start w
  same_missed arena saw m c = before_made files g id (Missed (Arena arena) saw) start v w m refl refl c

  pub block_granted : (b : Block) (found : ℕ) → IsMade files g id (Granted b found) v w → IsKept start v → HasBlock start w b
  block_granted b found m c =
      let s = Granted b found in
      let mark : (header : ℕ) → mark_at w header ≡ mark_at v header = λ header. made_mark files g id s v w m header (none-some header) in
      record {
        claims = λ header. ap (λ (x : Mark). bare x.claim) (mark header) ∙ c.same.claims header;
        holds = λ header. ap (λ (x : Mark). x.hold) (mark header) ∙ c.same.holds header;
        others = λ place apart. made_granted files g id s v w m place (λ e. apart (let k : place ≡ b.place = cc in k)) ∙ c.same.grants place;
        was = sym (c.same.grants b.place) ∙ m.tells;
        marks = granted_marks files g id v w b found m ∙ c.marks;
      }

  pub block_missed : (b : Block) (header saw : ℕ) → IsMade files g id (Missed (State header) saw) v w → HasBlock start v b → length w.marks ≡ length v.marks → HasBlock start w b
  block_missed b header saw m c len =
      let s = Missed (State header) saw in
      let mark : (h : ℕ) → mark_at w h ≡ mark_at v h = λ h. made_mark files g id s v w m h (none-some h) in
      record {
        claims = λ h. ap (λ (x : Mark). bare x.claim) (mark h) ∙ c.claims h;
        holds = λ h. ap (λ (x : Mark). x.hold) (mark h) ∙ c.holds h;
        others = λ place apart. made_granted files g id s v w m place (none-some place) ∙ c.others place apart;
        was = c.was;
        marks = len ∙ c.marks;
      }

  pub same_returned : (b : Block) (found : ℕ) → IsMade files g id (Returned b found) v w → HasBlock start v b → IsAsBefore start w
  same_returned b found m c =
      let s = Returned b found in
      let mark : (h : ℕ) → mark_at w h ≡ mark_at v h = λ h. made_mark files g id s v w m h (none-some h) in
      record {
        claims = λ h. ap (λ (x : Mark). bare x.claim) (mark h) ∙ c.claims h;
        holds = λ h. ap (λ (x : Mark). x.hold) (mark h) ∙ c.holds h;
        grants = λ place.
            elim (cases_eq place b.place) [
              | inl same ↦ ap (granted_at w) same ∙ (returned_gone files g id b found v w m ∙ (sym c.was ∙ ap (granted_at start) (sym same)))
              | inr apart ↦ made_granted files g id s v w m place (λ e. apart (let k : place ≡ b.place = cc in k)) ∙ c.others place apart
            ];
      }

  missed_marks : (header saw : ℕ) → IsMade files g id (Missed (State header) saw) v w → length w.marks ≡ length v.marks
  unfolding noted
  missed_marks header saw m = ap (λ (u : View). length u.marks) m.view

  pub block_lost : (b : Block) (header saw : ℕ) → IsMade files g id (Missed (State header) saw) v w → HasBlock start v b → HasBlock start w b
  block_lost b header saw m c = block_missed b header saw m c (missed_marks header saw m)

-- ---- the new buffer

module _ (files : Option Files) (g : Geometry) (id : ℕ) (start v w : View) (header : ℕ) (inside : header < length start.marks) where
  within_of : length v.marks ≡ length start.marks → header < length v.marks
  within_of e = let P : ℕ → Type 0 = λ n. header < n in subst P (sym e) inside

  opened_hold : (b : Block) (cells : List ℕ) → header < length v.marks → IsMade files g id (Opened header b cells) v w → (mark_at w header).hold ≡ (mark_at v header).hold
  unfolding noted
  opened_hold b cells within m = ap (λ u. (mark_at u header).hold) m.view ∙ ap (λ (x : Mark). x.hold) (step_mark _ _ header ∙ (granted_mark b.place None _ header ∙ mark_here header _ v within))

  opened_gone : (b : Block) (cells : List ℕ) → IsMade files g id (Opened header b cells) v w → granted_at w b.place ≡ None
  unfolding noted
  opened_gone b cells m = ap (λ u. granted_at u b.place) m.view ∙ (step_granted _ _ b.place ∙ gone_here b.place _)

  hold_at : SameHolds start v → (mark_at w header).hold ≡ (mark_at v header).hold → ((other : ℕ) → other ≢ header → mark_at w other ≡ mark_at v other) → SameHolds start w
  hold_at c here there other =
      elim (cases_eq other header) [
        | inl same ↦ ap (λ k. (mark_at w k).hold) same ∙ (here ∙ (ap (λ k. (mark_at v k).hold) (sym same) ∙ c other))
        | inr apart ↦ ap (λ (x : Mark). x.hold) (there other apart) ∙ c other
      ]

  there_of : (s : WordStep) → header_of s ≡ Some header → IsMade files g id s v w → (other : ℕ) → other ≢ header → mark_at w other ≡ mark_at v other
  there_of s is m other apart = made_mark files g id s v w m other (λ e. let f : Some header ≡ Some other = sym is ∙ e in apart (let k : other ≡ header = cc in k))

  pub new_opened : (b : Block) (cells : List ℕ) → IsMade files g id (Opened header b cells) v w → HasBlock start v b → HasNew start w header
  new_opened b cells m c =
      let s = Opened header b cells in
      let there = there_of s refl m in
      record {
        others = λ other apart. ap (λ (x : Mark). bare x.claim) (there other apart) ∙ c.claims other;
        was = sym (c.claims header) ∙ ap bare m.tells;
        holds = hold_at c.holds (opened_hold b cells (within_of c.marks) m) there;
        grants = λ place.
            elim (cases_eq place b.place) [
              | inl same ↦ ap (granted_at w) same ∙ (opened_gone b cells m ∙ (sym c.was ∙ ap (granted_at start) (sym same)))
              | inr apart ↦ made_granted files g id s v w m place (λ e. apart (let k : place ≡ b.place = cc in k)) ∙ c.others place apart
            ];
        marks = opened_marks files g id v w header b cells m ∙ c.marks;
      }

  -- a step that leaves the hold of the new buffer's header
  new_stays : (s : WordStep) → header_of s ≡ Some header → place_of s ≡ None → IsMade files g id s v w → (mark_at w header).hold ≡ (mark_at v header).hold → length w.marks ≡ length v.marks → HasNew start v header → HasNew start w header
  new_stays s is away m here len c =
      let there = there_of s is m in
      record {
        others = λ other apart. ap (λ (x : Mark). bare x.claim) (there other apart) ∙ c.others other apart;
        was = c.was;
        holds = hold_at c.holds here there;
        grants = λ place. made_granted files g id s v w m place (λ e. none-some place (sym away ∙ e)) ∙ c.grants place;
        marks = len ∙ c.marks;
      }

  named_hold : (b : Block) (key : BufferKey) (found : ℕ) → header < length v.marks → IsMade files g id (Named header b key found) v w → (mark_at w header).hold ≡ (mark_at v header).hold
  unfolding noted
  named_hold b key found within m = ap (λ u. (mark_at u header).hold) m.view ∙ ap (λ (x : Mark). x.hold) (step_mark _ _ header ∙ mark_here header _ v within)

  filled_hold : (b : Block) (key : BufferKey) (done value found : ℕ) → header < length v.marks → IsMade files g id (Filled header b key done value found) v w → (mark_at w header).hold ≡ (mark_at v header).hold
  unfolding noted
  filled_hold b key done value found within m = ap (λ u. (mark_at u header).hold) m.view ∙ ap (λ (x : Mark). x.hold) (step_mark _ _ header ∙ mark_here header _ v within)

  pub new_named : (b : Block) (key : BufferKey) (found : ℕ) → IsMade files g id (Named header b key found) v w → HasNew start v header → HasNew start w header
  new_named b key found m c = new_stays (Named header b key found) refl refl m (named_hold b key found (within_of c.marks) m) (named_marks files g id v w header b key found m) c

  pub new_filled : (b : Block) (key : BufferKey) (done value found : ℕ) → IsMade files g id (Filled header b key done value found) v w → HasNew start v header → HasNew start w header
  new_filled b key done value found m c =
      new_stays (Filled header b key done value found) refl refl m (filled_hold b key done value found (within_of c.marks) m) (filled_marks files g id v w header b key done value found m) c

  published_claim : (b : Block) (key : BufferKey) (found : ℕ) → header < length v.marks → IsMade files g id (Published header b key found) v w → (mark_at w header).claim ≡ Unclaimed
  unfolding noted
  published_claim b key found within m = ap (λ u. (mark_at u header).claim) m.view ∙ ap (λ (x : Mark). x.claim) (step_mark _ _ header ∙ mark_here header _ v within)

  pub new_published : (b : Block) (key : BufferKey) (found : ℕ) → IsMade files g id (Published header b key found) v w → HasNew start v header → HasHoldMore start w header
  new_published b key found m c =
      let s = Published header b key found in
      let there = there_of s refl m in
      record {
        claims = λ other.
            elim (cases_eq other header) [
              | inl same ↦ ap (λ k. bare (mark_at w k).claim) same ∙ (ap bare (published_claim b key found (within_of c.marks) m) ∙ (sym c.was ∙ ap (λ k. bare (mark_at start k).claim) (sym same)))
              | inr apart ↦ ap (λ (x : Mark). bare x.claim) (there other apart) ∙ c.others other apart
            ];
        grants = λ place. made_granted files g id s v w m place (none-some place) ∙ c.grants place;
        others = λ other apart. ap (λ (x : Mark). x.hold) (there other apart) ∙ c.holds other;
        was = sym (c.holds header) ∙ m.tells;
      }

-- the cells are filled one by one
pub new_fills : (files : Option Files) (g : Geometry) (id : ℕ) (start : View) (header : ℕ) → header < length start.marks → (b : Block) (key : BufferKey) (cell : ℕ → ℕ) (done : ℕ) (found : List ℕ) (v w : View) → AreMade files g id (fill_steps header b key cell done found) v w → HasNew start v header → HasNew start w header
new_fills files g id start header inside b key cell done [] v w e c = let P : View → Type 0 = λ x. HasNew start x header in subst P (sym e) c
new_fills files g id start header inside b key cell done (f ∷ fs) v w all c =
    new_fills files g id start header inside b key cell (done + 1) fs all.0 w all.2 (new_filled files g id start v all.0 header inside b key done (cell done) f all.1 c)

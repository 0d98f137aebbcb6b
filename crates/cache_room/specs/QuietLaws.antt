-- That consultations, evictions, and what else comes to nothing leave a seat what it had. Source: this project's own.
use Rattle.std.specs.Prelude.{◌≡◌, ◌≢◌, ℕ, zero, suc, ◌<◌, List, [], ◌∷◌, ◌++◌, length, Option, None, Some, slice_index_or}
use Rattle.std.proofs.Common.{refl, sym, ◌∙◌, ap, subst, inl, inr, arith}
use Rattle.std.proofs.lemmas.Bool.{cases_eq, cases_lt}
use Rattle.std.proofs.lemmas.List.{get_or-set_same, get_or_past, set_past}
use Rattle.std.proofs.lemmas.Option.{none-some}
use Rattle.buffer_word.specs.declared.key_word.Key.{Key}
use Rattle.lrfu_policy.specs.Policy.{Ranking}
use Rattle.pool_model.specs.declared.block.Block.{Block}
use Rattle.pool_model.specs.declared.buffer.BufferKey.{BufferKey}
use Rattle.pool_model.specs.Content.{Files}
use Rattle.pool_rule.specs.declared.geometry.Geometry.{Geometry}
use Rattle.pool_rule.specs.declared.geometry.WordName.{WordName}
use Rattle.pool_rule.specs.declared.geometry.WordName.TheVariants.{KeyOf, Last, State, Touches}
use Rattle.pool_rule.specs.declared.view.Claim.{Claim}
use Rattle.pool_rule.specs.declared.view.Claim.TheVariants.{Unclaimed, Fresh, Gone, Carried}
use Rattle.pool_rule.specs.declared.view.Hold.{Hold}
use Rattle.pool_rule.specs.declared.view.Hold.TheVariants.{Free, Bid, Pinned}
use Rattle.pool_rule.specs.declared.view.Mark.{Mark}
use Rattle.pool_rule.specs.declared.view.View.{View}
use Rattle.pool_rule.specs.declared.word_step.WordStep.{WordStep}
use Rattle.pool_rule.specs.declared.word_step.WordStep.TheVariants as step
use Rattle.pool_rule.specs.declared.word_step.WordStep.TheVariants.{Granted, HeaderReleased, Looked, Opened, Updated}
use Rattle.pool_rule.specs.Seats.{claim_with_key, clear_mark, granted_at, hold_with_key, key_of, mark_at, mark_with_key, noted, with_key}
use Rattle.pool_rule.specs.WordSteps.{IsMade}
use Rattle.buffer_pool.specs.Callers.{made_granted, made_mark}
use Rattle.buffer_pool.specs.Made.{AreMade, touch_steps}
use Rattle.cache_consult.specs.Consults.{ConsultSteps, LearnSteps, learnt, taken_before, untouched}
use Rattle.cache_consult.specs.Leaving.{AreLearnSteps, IsLearnStep, load_key, load_last, load_touches, take_touches}
use Rattle.cache_consult.specs.LeavingLaws.{consult_only}
use Rattle.cache_eviction.specs.Evictions.{HeldSteps, OutSteps}
use Rattle.cache_eviction.specs.Evictions as try
use Rattle.cache_lookup.specs.Before.{HasNoPinOf, IsAsBefore, IsNoPinOf, bare}
use Rattle.cache_lookup.specs.Callers.{as_before, before_made, before_then, right_else, right_parts}
use Rattle.cache_lookup.specs.Right.{AreRight, IsRight}
use Rattle.cache_lookup.specs.Trails.{Among}
use Rattle.cache_lookup.specs.TrailLaws.{among_either}
use Rattle.cache_placement.specs.Publications.{publications, publications-append, published_by}
use Rattle.cache_room.specs.Quiet.{AreKnown, IsKnownHold, IsQuiet}
use Rattle.cache_room.specs.Touchings.{touched_by, touched_word, touchings, touchings-append}
use Rattle.cache_room.specs.Tried.{HasTouch, releases, touches_loaded}
use Rattle.cache_room.specs.TriedLaws.{no_releases, touch_back, touch_front}

-- ---- a load of a key word

known_of : (key : BufferKey) (x : Hold) → IsNoPinOf key x → IsKnownHold x
known_of key Free h = tt
known_of key Bid h = tt
known_of key (Pinned b None) h = h
known_of key (Pinned b (Some k)) h = tt

pub are_known : (key : BufferKey) (v : View) → HasNoPinOf key v → AreKnown v
are_known key v h header = known_of key (mark_at v header).hold (h header)

pub no_pin_later : (key : BufferKey) (v w : View) → HasNoPinOf key v → IsAsBefore v w → HasNoPinOf key w
no_pin_later key v w none c header = let P : Hold → Type 0 = λ x. IsNoPinOf key x in subst P (sym (c.holds header)) (none header)

pub known_later : (v w : View) → AreKnown v → IsAsBefore v w → AreKnown w
known_later v w known c header = let P : Hold → Type 0 = λ x. IsKnownHold x in subst P (sym (c.holds header)) (known header)

known_stays : (key : BufferKey) (x : Hold) → IsKnownHold x → hold_with_key key x ≡ x
known_stays key Free h = refl
known_stays key Bid h = refl
known_stays key (Pinned b None) h = absurd h
known_stays key (Pinned b (Some k)) h = refl

bare_key : (key : BufferKey) (c : Claim) → bare (claim_with_key key c) ≡ bare c
bare_key key Unclaimed = refl
bare_key key (Fresh b k done) = refl
bare_key key (Gone b) = refl
bare_key key (Carried b t k done next) = refl

key_mark : (header found : ℕ) (v : View) → mark_at (with_key header found v) header ≡ mark_with_key (key_of found) (mark_at v header)
unfolding with_key
key_mark header found v =
    let m = mark_with_key (key_of found) (mark_at v header) in
    elim (cases_lt header (length v.marks)) [
      | inl within ↦ get_or-set_same v.marks header m clear_mark within
      | inr past ↦
          ap (λ (l : List Mark). slice_index_or l header clear_mark) (set_past v.marks header m past)
          ∙ (get_or_past v.marks header clear_mark past
          ∙ sym (ap (mark_with_key (key_of found)) (get_or_past v.marks header clear_mark past)))
    ]

module _ (files : Option Files) (g : Geometry) (id : ℕ) (header found : ℕ) (start v w : View)
    (m : IsMade files g id (Looked (KeyOf header) found) v w) where
  key_here : mark_at w header ≡ mark_with_key (key_of found) (mark_at v header)
  unfolding noted
  key_here = ap (λ u. mark_at u header) m.view ∙ key_mark header found v

  key_there : (other : ℕ) → other ≢ header → mark_at w other ≡ mark_at v other
  key_there other apart =
      made_mark files g id (Looked (KeyOf header) found) v w m other (λ e. apart (let k : other ≡ header = cc in k))

  key_before : AreKnown start → IsAsBefore start v → IsAsBefore start w
  key_before known c =
      let P : Hold → Type 0 = λ x. IsKnownHold x in
      let is_known = subst P (sym (c.holds header)) (known header) in
      record {
        claims = λ other.
            elim (cases_eq other header) [
              | inl same ↦
                  ap (λ n. bare (mark_at w n).claim) same
                  ∙ (ap (λ (x : Mark). bare x.claim) key_here
                  ∙ (bare_key (key_of found) (mark_at v header).claim
                  ∙ (ap (λ n. bare (mark_at v n).claim) (sym same) ∙ c.claims other)))
              | inr apart ↦ ap (λ (x : Mark). bare x.claim) (key_there other apart) ∙ c.claims other
            ];
        grants = λ place. made_granted files g id (Looked (KeyOf header) found) v w m place (none-some place) ∙ c.grants place;
        holds = λ other.
            elim (cases_eq other header) [
              | inl same ↦
                  ap (λ n. (mark_at w n).hold) same
                  ∙ (ap (λ (x : Mark). x.hold) key_here
                  ∙ (known_stays (key_of found) (mark_at v header).hold is_known
                  ∙ (ap (λ n. (mark_at v n).hold) (sym same) ∙ c.holds other)))
              | inr apart ↦ ap (λ (x : Mark). x.hold) (key_there other apart) ∙ c.holds other
            ];
      }

-- ---- single steps that are right

module _ (g : Geometry) (key : Key) (hit : Type 0) (start : View) (before : List WordStep) where
  right_state : (header found : ℕ) (v : View) → IsAsBefore start v → IsRight g key hit start before (Looked (State header) found) v
  right_state header found v c =
      record {
        arena_load = λ a f e. absurd (let no : ⊥ = cc in no);
        state_load = λ h f e. c.claims;
        count = λ h f e. absurd (let no : ⊥ = cc in no);
        pinned = λ h e. absurd (let no : ⊥ = cc in no);
      }

  right_touches : (header found : ℕ) (v : View) → IsRight g key hit start before (Looked (Touches header) found) v
  right_touches header found v =
      record {
        arena_load = λ a f e. absurd (let no : ⊥ = cc in no);
        state_load = λ h f e. absurd (let no : ⊥ = cc in no);
        count = λ h f e. absurd (let no : ⊥ = cc in no);
        pinned = λ h e. absurd (let no : ⊥ = cc in no);
      }

  right_last : (header found : ℕ) (v : View) → IsRight g key hit start before (Looked (Last header) found) v
  right_last header found v =
      record {
        arena_load = λ a f e. absurd (let no : ⊥ = cc in no);
        state_load = λ h f e. absurd (let no : ⊥ = cc in no);
        count = λ h f e. absurd (let no : ⊥ = cc in no);
        pinned = λ h e. absurd (let no : ⊥ = cc in no);
      }

  right_key : (header found : ℕ) (v : View) → IsAsBefore start v → IsRight g key hit start before (Looked (KeyOf header) found) v
  right_key header found v c =
      record {
        arena_load = λ a f e. absurd (let no : ⊥ = cc in no);
        state_load = λ h f e. absurd (let no : ⊥ = cc in no);
        count = λ h f e. absurd (let no : ⊥ = cc in no);
        pinned = λ h e. inl (c.holds h);
      }

  pub right_updated : (word : WordName) (found left : ℕ) (v : View) → IsRight g key hit start before (Updated word found left) v
  right_updated word found left v = right_else g key hit start before (Updated word found left) v (λ w f e.
      (let no : ⊥ = cc in no)) (λ h f e. (let no : ⊥ = cc in no))

  right_begun : (header found : ℕ) (v : View) → IsRight g key hit start before (step.EvictBegun header found) v
  right_begun header found v = right_else g key hit start before (step.EvictBegun header found) v (λ w f e.
      (let no : ⊥ = cc in no)) (λ h f e. (let no : ⊥ = cc in no))

  right_released : (header : ℕ) (b : Block) (found : ℕ) (v : View) → IsRight g key hit start before (HeaderReleased header b found) v
  right_released header b found v = right_else g key hit start before (HeaderReleased header b found) v (λ w f e.
      (let no : ⊥ = cc in no)) (λ h f e. (let no : ⊥ = cc in no))

  right_returned : (b : Block) (found : ℕ) (v : View) → IsRight g key hit start before (step.Returned b found) v
  right_returned b found v = right_else g key hit start before (step.Returned b found) v (λ w f e.
      (let no : ⊥ = cc in no)) (λ h f e. (let no : ⊥ = cc in no))

  right_missed : (word : WordName) (found : ℕ) (v : View) → IsRight g key hit start before (step.Missed word found) v
  right_missed word found v = right_else g key hit start before (step.Missed word found) v (λ w f e.
      (let no : ⊥ = cc in no)) (λ h f e. (let no : ⊥ = cc in no))

-- ---- steps one after the other

module _ (files : Option Files) (g : Geometry) (id : ℕ) (key : Key) where
  pub quiet_none : (v : View) → IsQuiet files g id key v [] v
  quiet_none v = record {
    right = refl;
    before = as_before v;
    ungranted = λ b f ended. ended;
    unopened = λ h b c
        ended. ended;
    unpublished = refl;
    untouched = refl;
  }

  pub quiet_then : (v u w : View) (ss ts : List WordStep) → IsQuiet files g id key v ss u
      → IsQuiet files g id key u ts w → IsQuiet files g id key v (ss ++ ts) w
  quiet_then v u w ss ts p q =
      record {
        right = right_parts files g id key ⊥ v u w ss ts p.right p.before q.right;
        before = before_then v u w p.before q.before;
        ungranted = λ b f there. elim (among_either (Granted b f) ss ts there)
            [ inl front ↦ p.ungranted b f front | inr rest ↦ q.ungranted b f rest ];
        unopened = λ h b cells there. elim (among_either (Opened h b cells) ss ts there)
            [ inl front ↦ p.unopened h b cells front | inr rest ↦ q.unopened h b cells rest ];
        unpublished = (let sum = publications-append ss ts in let a = p.unpublished in let b = q.unpublished in omega (arith, sum, a, b));
        untouched = (let sum = touchings-append ss ts in let a = p.untouched in let b = q.untouched in omega (arith, sum, a, b));
      }

  -- an update of a free word
  pub quiet_updated : (word : WordName) (found left : ℕ) (v w : View) → touched_word word ≡ 0
      → IsMade files g id (Updated word found left) v w → IsQuiet files g id key v (Updated word found left ∷ []) w
  quiet_updated word found left v w still m =
      record {
        right = (w, m, right_updated g key ⊥ v [] word found left v, refl);
        before = before_made files g id (Updated word found left) v v w m refl refl (as_before v);
        ungranted = λ b f there. elim there [ inl e ↦ (let no : ⊥ = cc in no) | inr ended ↦ ended ];
        unopened = λ h b cells there. elim there [ inl e ↦ (let no : ⊥ = cc in no) | inr ended ↦ ended ];
        unpublished = refl;
        untouched = omega (arith, still);
      }

  -- touches are right at any moment
  pub touch_right : (hit : Type 0) (start : View) (before : List WordStep) (header tick touches last : ℕ)
      (v w : View) → AreMade files g id (touch_steps header tick touches last) v w
      → AreRight files g id key hit start before v (touch_steps header tick touches last) w
  touch_right hit start before header tick touches last v w all = (
    all.0,
    all.1,
    right_updated g key hit start before (Touches header) touches _ v,
    (all.2.0, all.2.1, right_updated g key hit start _ (Last header) last _ all.0, all.2.2),
  )

  pub touch_before : (header tick touches last : ℕ) (v w : View)
      → AreMade files g id (touch_steps header tick touches last) v w → IsAsBefore v w
  touch_before header tick touches last v w all =
      let one = before_made files g id (Updated (Touches header) touches _) v v all.0 all.1 refl refl (as_before v) in
      let two = before_made files g id (Updated (Last header) last _) v all.0 all.2.0 all.2.1 refl refl one in
      let P : View → Type 0 = λ x. IsAsBefore v x in
      subst P (sym all.2.2) two

  -- ---- evictions

  pub quiet_held : (header : ℕ) (ss : List WordStep) (word : ℕ) (v w : View) → HeldSteps header ss word
      → AreMade files g id ss v w → ((h : ℕ) → mark_at w h ≡ mark_at v h)
      → ((place : ℕ) → granted_at w place ≡ granted_at v place) → IsQuiet files g id key v ss w
  quiet_held header ss word v w (try.shown _ ne) all marks grants =
      record {
        right = (all.0, all.1, right_state g key ⊥ v [] header word v (as_before v), all.2);
        before = record {
          claims = λ h. ap (λ (x : Mark). bare x.claim) (marks h);
          grants = grants;
          holds = λ h. ap
              (λ (x : Mark). x.hold) (marks h);
        };
        ungranted = λ b f there. elim there [ inl e ↦ (let no : ⊥ = cc in no) | inr ended ↦ ended ];
        unopened = λ h b cells there. elim there [ inl e ↦ (let no : ⊥ = cc in no) | inr ended ↦ ended ];
        unpublished = refl;
        untouched = refl;
      }
  quiet_held header ss word v w (try.lost seen _ idle ne) all marks grants =
      record {
        right = (
          all.0,
          all.1,
          right_state g key ⊥ v [] header seen v (as_before v),
          (all.2.0, all.2.1, right_missed g key ⊥ v _ (State header) word all.0, all.2.2),
        );
        before = record {
          claims = λ h. ap (λ (x : Mark). bare x.claim) (marks h);
          grants = grants;
          holds = λ h. ap
              (λ (x : Mark). x.hold) (marks h);
        };
        ungranted = λ b f there. elim there [
          | inl e ↦ (let no : ⊥ = cc in no)
          | inr more ↦ elim more
              [ inl e ↦ (let no : ⊥ = cc in no) | inr ended ↦ ended ]
        ];
        unopened = λ h b cells there. elim there [
          | inl e ↦ (let no : ⊥ = cc in no)
          | inr more ↦ elim more
              [ inl e ↦ (let no : ⊥ = cc in no) | inr ended ↦ ended ]
        ];
        unpublished = refl;
        untouched = refl;
      }

  pub quiet_out : (header : ℕ) (ss : List WordStep) (b : Block) (v w : View) → OutSteps header ss b
      → AreMade files g id ss v w → ((h : ℕ) → mark_at w h ≡ mark_at v h)
      → ((place : ℕ) → granted_at w place ≡ granted_at v place) → IsQuiet files g id key v ss w
  quiet_out header ss b v w (try.out word released given idle) all marks grants =
      record {
        right = (
          all.0,
          all.1,
          right_state g key ⊥ v [] header word v (as_before v),
          (
            all.2.0,
            all.2.1,
            right_begun g key ⊥ v _ header word all.0,
            (
              all.2.2.0,
              all.2.2.1,
              right_released g key ⊥ v _ header _ released all.2.0,
              (all.2.2.2.0, all.2.2.2.1, right_returned g key ⊥ v _ _ given all.2.2.0, all.2.2.2.2),
            ),
          ),
        );
        before = record {
          claims = λ h. ap (λ (x : Mark). bare x.claim) (marks h);
          grants = grants;
          holds = λ h. ap
              (λ (x : Mark). x.hold) (marks h);
        };
        ungranted = λ c f there.
            elim there [
              | inl e ↦ (let no : ⊥ = cc in no)
              | inr more ↦ elim more [
                | inl e ↦ (let no : ⊥ = cc in no)
                | inr more2 ↦ elim more2 [
                  | inl e ↦ (let no : ⊥ = cc in no)
                  | inr more3 ↦
                      elim more3 [ inl e ↦ (let no : ⊥ = cc in no) | inr ended ↦ ended ]
                ]
              ]
            ];
        unopened = λ h c cells there.
            elim there [
              | inl e ↦ (let no : ⊥ = cc in no)
              | inr more ↦ elim more [
                | inl e ↦ (let no : ⊥ = cc in no)
                | inr more2 ↦ elim more2 [
                  | inl e ↦ (let no : ⊥ = cc in no)
                  | inr more3 ↦
                      elim more3 [ inl e ↦ (let no : ⊥ = cc in no) | inr ended ↦ ended ]
                ]
              ]
            ];
        unpublished = refl;
        untouched = refl;
      }

-- ---- consultations

learn_grants : (s : WordStep) (b : Block) (found : ℕ) → IsLearnStep s → s ≡ Granted b found → ⊥
learn_grants s b found (load_touches h f) e = cc
learn_grants s b found (take_touches h f) e = cc
learn_grants s b found (load_key h f) e = cc
learn_grants s b found (load_last h f) e = cc

learn_opens : (s : WordStep) (header : ℕ) (b : Block) (cells : List ℕ) → IsLearnStep s → s ≡ Opened header b cells → ⊥
learn_opens s header b cells (load_touches h f) e = cc
learn_opens s header b cells (take_touches h f) e = cc
learn_opens s header b cells (load_key h f) e = cc
learn_opens s header b cells (load_last h f) e = cc

learn_releases : (s : WordStep) (header : ℕ) (b : Block) (found : ℕ) → IsLearnStep s → s ≡ HeaderReleased header b found → ⊥
learn_releases s header b found (load_touches h f) e = cc
learn_releases s header b found (take_touches h f) e = cc
learn_releases s header b found (load_key h f) e = cc
learn_releases s header b found (load_last h f) e = cc

learn_published : (s : WordStep) → IsLearnStep s → published_by s ≡ 0
learn_published s (load_touches h f) = refl
learn_published s (take_touches h f) = refl
learn_published s (load_key h f) = refl
learn_published s (load_last h f) = refl

learn_publishes : (ss : List WordStep) → AreLearnSteps ss → publications ss ≡ 0
learn_publishes [] are = refl
learn_publishes (s ∷ ss) are = let here = learn_published s are.0 in let rest = learn_publishes ss are.1 in omega (arith, here, rest)

learn_touched : (s : WordStep) → IsLearnStep s → touched_by s ≡ 0
learn_touched s (load_touches h f) = refl
learn_touched s (take_touches h f) = refl
learn_touched s (load_key h f) = refl
learn_touched s (load_last h f) = refl

learn_touchings : (ss : List WordStep) → AreLearnSteps ss → touchings ss ≡ 0
learn_touchings [] are = refl
learn_touchings (s ∷ ss) are =
    let here = learn_touched s are.0 in let rest = learn_touchings ss are.1 in omega (arith, here, rest)

learns_none : (t : WordStep) → ((s : WordStep) → IsLearnStep s → s ≡ t → ⊥) → (ss : List WordStep) → AreLearnSteps ss → Among t ss → ⊥
learns_none t not [] are ended = ended
learns_none t not (s ∷ ss) are (inl is) = not s are.0 is
learns_none t not (s ∷ ss) are (inr there) = learns_none t not ss are.1 there

pub consult_releases : (ss : List WordStep) → AreLearnSteps ss → releases ss ≡ 0
consult_releases ss are = no_releases ss (λ header b found there. learns_none (HeaderReleased header b found)
    (λ s is e. learn_releases s header b found is e) ss are there)

learn_touches : (header : ℕ) (p q : Ranking) (ss : List WordStep) → LearnSteps header p ss q → HasTouch header ss
learn_touches header p q ss untouched = inl (touches_loaded 0)
learn_touches header p q ss (taken_before seen some) = inl (touches_loaded seen)
learn_touches header p q ss (learnt seen touches key last some any) = inl (touches_loaded seen)

-- each header's touches were looked at
pub consult_touches : (n : ℕ) (p q : Ranking) (ss : List WordStep) → ConsultSteps n p ss q → (header : ℕ) → header < n → HasTouch header ss
consult_touches zero p q ss h header lt = absurd (omega (arith, lt))
consult_touches (suc n) p q ss h header lt =
    let P : List WordStep → Type 0 = λ l. HasTouch header l in
    subst P (sym h.5)
    (elim (cases_eq header n) [
      | inl same ↦ let Q : ℕ → Type 0 = λ k. HasTouch k (h.1 ++ h.2) in
          subst Q (sym same) (touch_back n h.1 h.2 (learn_touches n h.0 q h.2 h.4))
      | inr apart ↦ touch_front header h.1 h.2 (consult_touches n p h.0 h.1 h.3 header (omega (arith, lt, apart)))
    ])

module _ (files : Option Files) (g : Geometry) (id : ℕ) (key : Key) (start : View) (known : AreKnown start) where
  record LearnWalk (before : List WordStep) (v : View) (ss : List WordStep) (w : View) : Type 0 where
    pub right : AreRight files g id key ⊥ start before v ss w
    pub after : IsAsBefore start w

  learn_right : (s : WordStep) (before : List WordStep) (v : View) → IsLearnStep s → IsAsBefore start v → IsRight g key ⊥ start before s v
  learn_right s before v (load_touches header found) c = right_touches g key ⊥ start before header found v
  learn_right s before v (take_touches header found) c = right_updated g key ⊥ start before (Touches header) found 0 v
  learn_right s before v (load_key header found) c = right_key g key ⊥ start before header found v c
  learn_right s before v (load_last header found) c = right_last g key ⊥ start before header found v

  learn_before : (s : WordStep) (v w : View) → IsLearnStep s → IsMade files g id s v w → IsAsBefore start v → IsAsBefore start w
  learn_before s v w (load_touches header found) m c = before_made files g id (Looked (Touches header) found) start v w m refl refl c
  learn_before s v w (take_touches header found) m c = before_made files g id (Updated (Touches header) found 0) start v w m refl refl c
  learn_before s v w (load_key header found) m c = key_before files g id header found start v w m known c
  learn_before s v w (load_last header found) m c = before_made files g id (Looked (Last header) found) start v w m refl refl c

  learn_walk : (before : List WordStep) (v w : View) (ss : List WordStep) → AreLearnSteps ss → IsAsBefore start v
      → AreMade files g id ss v w → LearnWalk before v ss w
  learn_walk before v w [] are c e = let P : View → Type 0 = λ x. IsAsBefore start x in record { right = e; after = subst P (sym e) c }
  learn_walk before v w (s ∷ ss) are c all =
      let rest = learn_walk (before ++ s ∷ []) all.0 w ss are.1 (learn_before s v all.0 are.0 all.1 c) all.2 in
      record { right = (all.0, all.1, learn_right s before v are.0 c, rest.right); after = rest.after }

  pub quiet_consult : (n : ℕ) (p q : Ranking) (ss : List WordStep) (w : View) → ConsultSteps n p ss q
      → AreMade files g id ss start w → IsQuiet files g id key start ss w
  quiet_consult n p q ss w h all =
      let are = consult_only n p q ss h in
      let walk = learn_walk [] start w ss are (as_before start) all in
      record {
        right = walk.right;
        before = walk.after;
        ungranted = λ b f there. learns_none (Granted b f) (λ s is e. learn_grants s b f is e) ss are there;
        unopened = λ header b cells there. learns_none (Opened header b cells) (λ s is e. learn_opens s header b cells is e) ss are there;
        unpublished = learn_publishes ss are;
        untouched = learn_touchings ss are;
      }

pub ruleset quiet = (
  are_known,
  known_later,
  no_pin_later,
  quiet_none,
  quiet_then,
  quiet_updated,
  quiet_held,
  quiet_out,
  quiet_consult,
  consult_releases,
  consult_touches,
)

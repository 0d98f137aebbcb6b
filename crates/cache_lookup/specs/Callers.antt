-- For those who make steps before or after a look-up: each step right, and what the seat has, over several of them.
use Rattle.std.specs.Prelude.{◌≡◌, ◌≢◌, ℕ, List, [], ◌∷◌, ◌++◌, Option, None, Some, IfSome, option_map, slice_index, slice_set}
use Rattle.std.proofs.Common.{refl, sym, ◌∙◌, ap, subst, inl, inr}
use Rattle.std.proofs.lemmas.Bool.{cases_eq}
use Rattle.std.proofs.lemmas.List.{append_assoc, append-nil, set-get_or}
use Rattle.std.proofs.lemmas.Option.{none-some}
use Rattle.buffer_word.specs.declared.key_word.Key.{Key}
use Rattle.buffer_word.specs.KeyWord.{key_word}
use Rattle.pool_model.specs.declared.block.Block.{Block}
use Rattle.pool_model.specs.declared.buffer.BufferKey.{BufferKey}
use Rattle.pool_model.specs.Content.{Files}
use Rattle.pool_rule.specs.declared.geometry.Geometry.{Geometry}
use Rattle.pool_rule.specs.declared.geometry.WordName.{WordName}
use Rattle.pool_rule.specs.declared.geometry.WordName.TheVariants.{Arena, State, KeyOf}
use Rattle.pool_rule.specs.declared.view.Claim.{Claim}
use Rattle.pool_rule.specs.declared.view.Claim.TheVariants.{Unclaimed, Fresh, Gone, Carried}
use Rattle.pool_rule.specs.declared.view.Hold.{Hold}
use Rattle.pool_rule.specs.declared.view.Hold.TheVariants.{Free, Pinned}
use Rattle.pool_rule.specs.declared.view.Mark.{Mark}
use Rattle.pool_rule.specs.declared.view.View.{View}
use Rattle.pool_rule.specs.declared.word_step.WordStep.{WordStep}
use Rattle.pool_rule.specs.declared.word_step.WordStep.TheVariants.{Looked, Counted}
use Rattle.pool_rule.specs.Seats.{HasNothing, clear_mark, granted_at, mark_at}
use Rattle.pool_rule.specs.Layout.{index_of}
use Rattle.pool_rule.specs.WordSteps.{IsMade, found_by, left_by, word_at}
use Rattle.buffer_pool.specs.Callers.{made_granted, made_known, made_mark}
use Rattle.buffer_pool.specs.Made.{AreMade, header_of, place_of}
use Rattle.cache_lookup.specs.Before.{HasHoldMore, HasNoPinOf, IsAsBefore, IsNoPinOf, bare}
use Rattle.cache_lookup.specs.Right.{AreRight, IsRight, IsShown}
use Rattle.cache_lookup.specs.TrailLaws.{among_back}

-- ---- what a seat has

pub as_before : (v : View) → IsAsBefore v v
as_before v = record { claims = λ header. refl; grants = λ place. refl; holds = λ header. refl }

pub before_then : (start v w : View) → IsAsBefore start v → IsAsBefore v w → IsAsBefore start w
before_then start v w p q =
    record {
      claims = λ header. q.claims header ∙ p.claims header;
      grants =
          λ place. q.grants place ∙ p.grants place;
      holds = λ header. q.holds header ∙ p.holds header;
    }

-- a step that has to do with no header and no place leaves all that the seat has
pub before_made : (files : Option Files) (g : Geometry) (id : ℕ) (s : WordStep) (start v w : View)
    → IsMade files g id s v w → header_of s ≡ None → place_of s ≡ None → IsAsBefore start v → IsAsBefore start w
before_made files g id s start v w m no_header no_place c =
    let mark : (header : ℕ) → mark_at w header ≡ mark_at v header =
    λ header. made_mark files g id s v w m header (λ e. none-some header (sym no_header ∙ e)) in
    let granted : (place : ℕ) → granted_at w place ≡ granted_at v place =
    λ place. made_granted files g id s v w m place (λ e. none-some place (sym no_place ∙ e)) in
    record {
      claims = λ header. ap (λ (x : Mark). bare x.claim) (mark header) ∙ c.claims header;
      grants = λ place. granted place ∙ c.grants place;
      holds = λ header. ap (λ (x : Mark). x.hold) (mark header) ∙ c.holds header;
    }

-- a seat with nothing has no pin, and has nothing as long as it has what it had
pub nothing_no_pin : (key : BufferKey) (v : View) → HasNothing v → HasNoPinOf key v
nothing_no_pin key v h header =
    let P : Mark → Type 0 = λ x. IsNoPinOf key x.hold in
    subst P (sym (h.marks header)) tt

bare_free : (c : Claim) → bare c ≡ Unclaimed → c ≡ Unclaimed
bare_free Unclaimed e = refl
bare_free (Fresh b key done) e = absurd (let clash : ⊥ = cc in clash)
bare_free (Gone b) e = absurd (let clash : ⊥ = cc in clash)
bare_free (Carried b target key done next) e = absurd (let clash : ⊥ = cc in clash)

clear_of : (m : Mark) → m.hold ≡ Free → m.claim ≡ Unclaimed → m ≡ clear_mark
clear_of m h c = λ i. record { hold = h i; claim = c i }

pub nothing_again : (start v : View) → HasNothing start → IsAsBefore start v → HasNothing v
nothing_again start v h c =
    record {
      marks = λ header.
          clear_of (mark_at v header) (c.holds header ∙ ap (λ (x : Mark). x.hold) (h.marks header))
          (bare_free (mark_at v header).claim
          (c.claims header ∙ ap (λ (x : Mark). bare x.claim) (h.marks header)));
      granted = λ place. c.grants place ∙ h.granted place;
    }

-- a pin of another key is none of this
pub no_pin_more : (key k : BufferKey) (b : Block) (header : ℕ) (start v : View) → HasNoPinOf key start
    → HasHoldMore start v header → (mark_at v header).hold ≡ Pinned b (Some k) → k ≢ key → HasNoPinOf key v
no_pin_more key k b header start v none more is other h =
    let P : Hold → Type 0 = λ x. IsNoPinOf key x in
    elim (cases_eq h header) [
      | inl same ↦ subst P (sym (ap (λ n. (mark_at v n).hold) same ∙ is)) other
      | inr apart ↦ subst P (sym (more.others h apart)) (none h)
    ]

-- ---- known words through a step

found_in : (word f : ℕ) (ws : List ℕ) (k : Option (List ℕ)) → k ≡ Some ws → IfSome k (λ l. slice_index l word ≡ f) → slice_index ws word ≡ f
found_in word f ws k e told = let P : Option (List ℕ) → Type 0 = λ o. IfSome o (λ l. slice_index l word ≡ f) in subst P e told

pub known_found : (files : Option Files) (g : Geometry) (id : ℕ) (s : WordStep) (v w : View) (ws : List ℕ)
    → v.known ≡ Some ws → IsMade files g id s v w → slice_index ws (word_at g s) ≡ found_by s
known_found files g id s v w ws e m = found_in (word_at g s) (found_by s) ws v.known e m.told

pub known_left : (files : Option Files) (g : Geometry) (id : ℕ) (s : WordStep) (v w : View) (ws : List ℕ)
    → v.known ≡ Some ws → IsMade files g id s v w → w.known ≡ Some (slice_set ws (word_at g s) (left_by s))
known_left files g id s v w ws e m = made_known files g id s v w m ∙ ap (option_map (λ l. slice_set l (word_at g s) (left_by s))) e

-- a load changes no word
pub known_looked : (files : Option Files) (g : Geometry) (id : ℕ) (word : WordName) (f : ℕ) (v w : View)
    (ws : List ℕ) → v.known ≡ Some ws → IsMade files g id (Looked word f) v w → w.known ≡ Some ws
known_looked files g id word f v w ws e m =
    let s = Looked word f in
    known_left files g id s v w ws e m ∙ ap Some (ap (slice_set ws (index_of g word))
    (sym (known_found files g id s v w ws e m)) ∙ set-get_or ws (index_of g word) 0)

-- ---- steps that are right

module _ (g : Geometry) (key : Key) (hit : Type 0) (start : View) (before : List WordStep) where
  -- a load of an arena's word
  pub right_arena : (arena found : ℕ) (v : View) → IsAsBefore start v → IsRight g key hit start before (Looked (Arena arena) found) v
  right_arena arena found v c =
      record {
        arena_load = λ a f e. (c.claims, c.grants);
        state_load = λ h f e. c.claims;
        count = λ h f e. absurd (let no : ⊥ = cc in no);
        pinned = λ h e. absurd (let no : ⊥ = cc in no);
      }

  -- neither a load nor a count
  pub right_else : (s : WordStep) (v : View) → ((word : WordName) (found : ℕ) → s ≢ Looked word found)
      → ((header found : ℕ) → s ≢ Counted header found) → IsRight g key hit start before s v
  right_else s v no_load no_count =
      record {
        arena_load = λ a f e. absurd (no_load (Arena a) f e);
        state_load = λ h f e. absurd (no_load (State h) f e);
        count = λ h f e. absurd (no_count h f e);
        pinned = λ h e. absurd (no_load (KeyOf h) (key_word key) e);
      }

-- ---- steps one after the other

module _ (files : Option Files) (g : Geometry) (id : ℕ) (key : Key) (hit : Type 0) where
  -- the seat made them
  pub right_made : (start : View) (before : List WordStep) (ss : List WordStep) (v w : View)
      → AreRight files g id key hit start before v ss w → AreMade files g id ss v w
  right_made start before [] v w e = e
  right_made start before (s ∷ ss) v w all = (all.0, all.1, right_made start (before ++ s ∷ []) ss all.0 w all.3)

  -- steps and then steps
  pub right_then : (start : View) (before ss ts : List WordStep) (v u w : View)
      → AreRight files g id key hit start before v ss u → AreRight files g id key hit start (before ++ ss) u ts w
      → AreRight files g id key hit start before v (ss ++ ts) w
  right_then start before [] ts v u w e more =
      let P : View × List WordStep → Type 0 = λ z. AreRight files g id key hit start z.1 z.0 ts w in
      subst P (λ i. (e i, append-nil before i)) more
  right_then start before (s ∷ ss) ts v u w all more =
      let P : List WordStep → Type 0 = λ l. AreRight files g id key hit start l u ts w in (
        all.0,
        all.1,
        all.2,
        right_then start (before ++ s ∷ []) ss ts all.0 u w all.3
            (subst P (sym (append_assoc before (s ∷ []) ss)) more),
      )

  shown_later : (before ss : List WordStep) (header : ℕ) → IsShown key ss header → IsShown key (before ++ ss) header
  shown_later before ss header h =
      record {
        key_load = among_back (Looked (KeyOf header) (key_word key)) before ss h.key_load;
        word = h.word;
        can_pin = h.can_pin;
        state_load = among_back (Looked (State header) h.word) before ss h.state_load;
      }

  right_since : (start v0 : View) (before : List WordStep) → IsAsBefore start v0
      → (since : List WordStep) (s : WordStep) (v : View) → IsRight g key hit v0 since s v
      → IsRight g key hit start (before ++ since) s v
  right_since start v0 before c since s v r =
      record {
        arena_load = λ a f e. let p = r.arena_load a f e in
            ((λ header. p.0 header ∙ c.claims header), (λ place. p.1 place ∙ c.grants place));
        state_load = λ h f e header. r.state_load h f e header ∙ c.claims header;
        count = λ h f e. let p = r.count h f e in ((λ header. p.0 header ∙ c.claims header), p.1, shown_later before since h p.2);
        pinned = λ h e. elim (r.pinned h e) [ inl same ↦ inl (same ∙ c.holds h) | inr is ↦ inr is ];
      }

  -- steps that are right for a call which begins there are right for one that began before, if the seat has what it had
  pub right_from : (start v0 : View) (before : List WordStep) → IsAsBefore start v0
      → (since ss : List WordStep) (v w : View) → AreRight files g id key hit v0 since v ss w
      → AreRight files g id key hit start (before ++ since) v ss w
  right_from start v0 before c since [] v w e = e
  right_from start v0 before c since (s ∷ ss) v w all =
      let P : List WordStep → Type 0 = λ l. AreRight files g id key hit start l all.0 ss w in (
        all.0,
        all.1,
        right_since start v0 before c since s v all.2,
        subst P
            (sym (append_assoc before since (s ∷ [])))
            (right_from start v0 before c (since ++ s ∷ []) ss all.0 w all.3),
      )

  -- so a call's steps are those of its parts
  pub right_parts : (start u w : View) (ss ts : List WordStep) → AreRight files g id key hit start [] start ss u
      → IsAsBefore start u → AreRight files g id key hit u [] u ts w
      → AreRight files g id key hit start [] start (ss ++ ts) w
  right_parts start u w ss ts first c second =
      let P : List WordStep → Type 0 = λ l. AreRight files g id key hit start l u ts w in
      right_then start [] ss ts start u w first (subst P (append-nil ss) (right_from start u ss c [] ts u w second))

-- the answer on which a pin may rest can be weakened
pub right_any : (files : Option Files) (g : Geometry) (id : ℕ) (key : Key) (hit hit' : Type 0) → (hit → hit')
    → (start : View) (before ss : List WordStep) (v w : View) → AreRight files g id key hit start before v ss w
    → AreRight files g id key hit' start before v ss w
right_any files g id key hit hit' f start before [] v w e = e
right_any files g id key hit hit' f start before (s ∷ ss) v w all =
    let r = all.2 in
    let wider : IsRight g key hit' start before s v =
    record {
      arena_load = r.arena_load;
      state_load = r.state_load;
      count = r.count;
      pinned = λ h e. elim (r.pinned h e) [ inl same ↦ inl same | inr is ↦ inr (f is) ];
    } in
    (all.0, all.1, wider, right_any files g id key hit hit' f start (before ++ s ∷ []) ss all.0 w all.3)

pub ruleset callers = (
  known_found,
  known_left,
  known_looked,
  as_before,
  before_then,
  before_made,
  nothing_no_pin,
  nothing_again,
  no_pin_more,
  right_arena,
  right_else,
  right_made,
  right_then,
  right_parts,
  right_any,
)

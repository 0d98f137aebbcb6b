-- What a placement's answer tells, by its steps.
use Rattle.std.proofs.Common.{◌≡◌, ℕ, ◌+◌, ◌*◌, ◌<◌, ◌≤◌, List, [], ◌∷◌, ◌++◌, refl, sym, ap, ◌∙◌, subst, inl, inr, arith}
use Rattle.std.specs.Prelude.{Some, None, ◌⊎◌, slice_index}
use Rattle.std.specs.Option.{option_or}
use Rattle.std.proofs.lemmas.Bool.{cases_eq}
use Rattle.buddy_arena.specs.Buddy.{IsBuddyAnswer}
use Rattle.buffer_word.specs.declared.key_word.Key.{Key}
use Rattle.pool_model.specs.declared.block.Block.{Block}
use Rattle.pool_model.specs.declared.buffer.BufferKey.{BufferKey}
use Rattle.pool_rule.specs.declared.geometry.Geometry.{Geometry}
use Rattle.pool_rule.specs.declared.geometry.WordName.TheVariants.{Arena, State}
use Rattle.pool_rule.specs.declared.view.Access.TheVariants.{Loaded}
use Rattle.pool_rule.specs.declared.word_step.WordStep.{WordStep}
use Rattle.pool_rule.specs.declared.word_step.WordStep.TheVariants as step
use Rattle.pool_rule.specs.WordSteps.{event_of}
use Rattle.buffer_pool.specs.Made.{cell_in, fill_steps}
use Rattle.buffer_pool.specs.Pools.{block_at, block_of, buffer_key}
use Rattle.cache_lookup.specs.Trails.{Among, events, last_load, left, loaded}
use Rattle.cache_lookup.specs.TrailLaws.{AreNoLoads, among_back, among_either, last_load-none, left_here, loaded_here, no_load_away}
use Rattle.cache_placement.specs.declared.arenas.Asked.{Asked}
use Rattle.cache_placement.specs.declared.arenas.Asked.TheVariants as asked
use Rattle.cache_placement.specs.declared.why.Placed.{Placed}
use Rattle.cache_placement.specs.Free.{IsFirstFree}
use Rattle.cache_placement.specs.Placements.{IsArenaRaced, IsFilled, IsHeaderRaced, IsLost, IsPlaceStep, Tells, made_by}
use Rattle.cache_placement.specs.Placements as place
use Rattle.cache_placement.specs.Publications.{publications, publications-append}
use Rattle.cache_placement.specs.Steps.{AskSteps, OpenSteps, PlaceSteps, none_left, full, got, raced, lost, filled, set_full, no_room, arena_raced, opens}

-- a step is the one of which that is said
is_place : (t s : WordStep) → t ≡ s → IsPlaceStep t → IsPlaceStep s
is_place t s e h = let P : WordStep → Type 0 = λ x. IsPlaceStep x in subst P e h

abbrev IsFull : Asked → Type 0
IsFull (asked.Got grant) = ⊥
IsFull (asked.Raced saw) = ⊥
IsFull asked.Full = Unit {0}

abbrev IsGot : Asked → Type 0
IsGot (asked.Got grant) = Unit {0}
IsGot (asked.Raced saw) = ⊥
IsGot asked.Full = ⊥

abbrev IfRaced : (ℕ → Type 0) → Asked → Type 0
IfRaced P (asked.Got grant) = Unit {0}
IfRaced P (asked.Raced saw) = P saw
IfRaced P asked.Full = Unit {0}

module _ (g : Geometry) (order : ℕ) (words : List ℕ) (until : ℕ) where
  -- no step loads an arena's word before that one
  ask_away : (word arena : ℕ) (ss : List WordStep) (r : Asked) → word < arena → AskSteps g order words until arena ss r → AreNoLoads word (events g ss)
  ask_away word arena ss r h (none_left _ e) = tt
  ask_away word arena ss r h (full _ found ts _ lt none at more) = (no_load_away word arena found found Loaded (λ e. omega (arith, e, h)), ask_away word (arena + 1) ts r (omega (arith, h)) more)
  ask_away word arena ss r h (got _ found offset grant lt answer is) = (no_load_away word arena found found Loaded (λ e. omega (arith, e, h)), (refl, tt))
  ask_away word arena ss r h (raced _ found saw lt other) = (no_load_away word arena found found Loaded (λ e. omega (arith, e, h)), (refl, tt))

  -- the last load of an arena's word, and that it shows no block
  abbrev Shown : List WordStep → ℕ → Type 0
  Shown ss i = (last_load i (events g ss) ≡ Some (slice_index words i)) × IsBuddyAnswer 64 (slice_index words i) order None

  ask_full : (arena : ℕ) (ss : List WordStep) (r : Asked) → IsFull r → AskSteps g order words until arena ss r → (i : ℕ) → arena ≤ i → i < until → Shown ss i
  ask_full arena ss r is (none_left _ e) i le lt = absurd (omega (arith, e, le, lt))
  ask_full arena ss r is (full _ found ts _ inside none at more) i le lt =
      let s = step.Looked (Arena arena) found in
      elim (cases_eq i arena) [
        | inl same ↦
            let P : ℕ → Type 0 = λ n. Shown (s ∷ ts) n in
            let Q : ℕ → Type 0 = λ n. IsBuddyAnswer 64 n order None in
            let here : last_load arena (events g (s ∷ ts)) ≡ Some found = ap (λ o. option_or o (loaded arena (event_of g s))) (last_load-none arena (events g ts) (ask_away arena (arena + 1) ts r (omega arith) more)) ∙ loaded_here arena found found in
            subst P (sym same) (here ∙ ap Some (sym at), subst Q (sym at) none)
        | inr apart ↦
            let rest = ask_full (arena + 1) ts r is more i (omega (arith, apart, le)) lt in
            (ap (λ o. option_or o (loaded i (event_of g s))) rest.0, rest.1)
      ]
  ask_full arena ss r is (got _ found offset grant inside answer at) i le lt = absurd is
  ask_full arena ss r is (raced _ found saw inside other) i le lt = absurd is

  raced_later : (s : WordStep) (ss : List WordStep) (r : Asked) → IfRaced (IsArenaRaced g ss) r → IfRaced (IsArenaRaced g (s ∷ ss)) r
  raced_later s ss (asked.Got grant) h = tt
  raced_later s ss (asked.Raced saw) h =
      record {
        arena = h.arena;
        inside = h.inside;
        earlier = s ∷ h.earlier;
        later = h.later;
        parts = ap (λ l. s ∷ l) h.parts;
        word = h.word;
        left = ap (λ o. option_or o (left h.arena (event_of g s))) h.left;
        other = h.other;
      }
  raced_later s ss asked.Full h = tt

  ask_raced : until ≤ g.arenas → (arena : ℕ) (ss : List WordStep) (r : Asked) → AskSteps g order words until arena ss r → IfRaced (IsArenaRaced g ss) r
  ask_raced few arena ss r (none_left _ e) = tt
  ask_raced few arena ss r (full _ found ts _ inside none at more) = raced_later (step.Looked (Arena arena) found) ts r (ask_raced few (arena + 1) ts r more)
  ask_raced few arena ss r (got _ found offset grant inside answer at) = tt
  ask_raced few arena ss r (raced _ found saw inside other) =
      record {
        arena = arena;
        inside = omega (arith, inside, few);
        earlier = step.Looked (Arena arena) found ∷ [];
        later = [];
        parts = refl;
        word = found;
        left = left_here arena found found Loaded;
        other = other;
      }

  -- a grant is a block that was got, and nothing is opened
  ask_grants : (b : Block) (f arena : ℕ) (ss : List WordStep) (r : Asked) → AskSteps g order words until arena ss r → Among (step.Granted b f) ss → IsGot r
  ask_grants b f arena ss r (none_left _ e) gone = absurd gone
  ask_grants b f arena ss r (full _ found ts _ inside none at more) (inl e) = absurd (let no : ⊥ = cc in no)
  ask_grants b f arena ss r (full _ found ts _ inside none at more) (inr there) = ask_grants b f (arena + 1) ts r more there
  ask_grants b f arena ss r (got _ found offset grant inside answer at) there = tt
  ask_grants b f arena ss r (raced _ found saw inside other) (inl e) = absurd (let no : ⊥ = cc in no)
  ask_grants b f arena ss r (raced _ found saw inside other) (inr (inl e)) = absurd (let no : ⊥ = cc in no)
  ask_grants b f arena ss r (raced _ found saw inside other) (inr (inr gone)) = absurd gone

  ask_opens : (header : ℕ) (b : Block) (cells : List ℕ) (arena : ℕ) (ss : List WordStep) (r : Asked) → AskSteps g order words until arena ss r → Among (step.Opened header b cells) ss → ⊥
  ask_opens header b cells arena ss r (none_left _ e) gone = gone
  ask_opens header b cells arena ss r (full _ found ts _ inside none at more) (inl e) = (let no : ⊥ = cc in no)
  ask_opens header b cells arena ss r (full _ found ts _ inside none at more) (inr there) = ask_opens header b cells (arena + 1) ts r more there
  ask_opens header b cells arena ss r (got _ found offset grant inside answer at) (inl e) = (let no : ⊥ = cc in no)
  ask_opens header b cells arena ss r (got _ found offset grant inside answer at) (inr (inl e)) = (let no : ⊥ = cc in no)
  ask_opens header b cells arena ss r (got _ found offset grant inside answer at) (inr (inr gone)) = gone
  ask_opens header b cells arena ss r (raced _ found saw inside other) (inl e) = (let no : ⊥ = cc in no)
  ask_opens header b cells arena ss r (raced _ found saw inside other) (inr (inl e)) = (let no : ⊥ = cc in no)
  ask_opens header b cells arena ss r (raced _ found saw inside other) (inr (inr gone)) = gone

  ask_only : (arena : ℕ) (ss : List WordStep) (r : Asked) → AskSteps g order words until arena ss r → (s : WordStep) → Among s ss → IsPlaceStep s
  ask_only arena ss r (none_left _ e) s gone = absurd gone
  ask_only arena ss r (full _ found ts _ inside none at more) s (inl e) = is_place _ s e (place.asked arena found)
  ask_only arena ss r (full _ found ts _ inside none at more) s (inr there) = ask_only (arena + 1) ts r more s there
  ask_only arena ss r (got _ found offset grant inside answer at) s (inl e) = is_place _ s e (place.asked arena found)
  ask_only arena ss r (got _ found offset grant inside answer at) s (inr (inl e)) = is_place _ s e (place.granted (block_at (64 * arena + offset) order) found)
  ask_only arena ss r (got _ found offset grant inside answer at) s (inr (inr gone)) = absurd gone
  ask_only arena ss r (raced _ found saw inside other) s (inl e) = is_place _ s e (place.asked arena found)
  ask_only arena ss r (raced _ found saw inside other) s (inr (inl e)) = is_place _ s e (place.missed (Arena arena) saw)
  ask_only arena ss r (raced _ found saw inside other) s (inr (inr gone)) = absurd gone

  ask_publishes : (arena : ℕ) (ss : List WordStep) (r : Asked) → AskSteps g order words until arena ss r → publications ss ≡ 0
  ask_publishes arena ss r (none_left _ e) = refl
  ask_publishes arena ss r (full _ found ts _ inside none at more) = let e = ask_publishes (arena + 1) ts r more in omega (arith, e)
  ask_publishes arena ss r (got _ found offset grant inside answer at) = refl
  ask_publishes arena ss r (raced _ found saw inside other) = refl

-- ---- the new buffer

fills_only : (h : ℕ) (c : Block) (key : BufferKey) (cell : ℕ → ℕ) (done : ℕ) (found : List ℕ) (s : WordStep) → Among s (fill_steps h c key cell done found) → IsPlaceStep s
fills_only h c key cell done [] s gone = absurd gone
fills_only h c key cell done (x ∷ xs) s (inl e) = is_place _ s e (place.filled h c key done (cell done) x)
fills_only h c key cell done (x ∷ xs) s (inr there) = fills_only h c key cell (done + 1) xs s there

fills_publish : (h : ℕ) (c : Block) (key : BufferKey) (cell : ℕ → ℕ) (done : ℕ) (found : List ℕ) → publications (fill_steps h c key cell done found) ≡ 0
fills_publish h c key cell done [] = refl
fills_publish h c key cell done (x ∷ xs) = let e = fills_publish h c key cell (done + 1) xs in omega (arith, e)

module _ (key : Key) (header : ℕ) (b : Block) where
  open_only : (ts : List WordStep) (r : Placed) → OpenSteps key header b ts r → (s : WordStep) → Among s ts → IsPlaceStep s
  open_only ts r (lost saw found far) s (inl e) = is_place _ s e (place.missed (State header) saw)
  open_only ts r (lost saw found far) s (inr (inl e)) = is_place _ s e (place.returned b found)
  open_only ts r (lost saw found far) s (inr (inr gone)) = absurd gone
  open_only ts r (filled cells bytes found named published pin is its) s (inl e) = is_place _ s e (place.opened header b cells)
  open_only ts r (filled cells bytes found named published pin is its) s (inr (inl e)) = is_place _ s e (place.named header b (buffer_key key) named)
  open_only ts r (filled cells bytes found named published pin is its) s (inr (inr there)) =
      let fills = fill_steps header b (buffer_key key) (cell_in bytes) 0 found in
      elim (among_either s fills (step.Published header b (buffer_key key) published ∷ []) there) [
        | inl front ↦ fills_only header b (buffer_key key) (cell_in bytes) 0 found s front
        | inr rest ↦ elim rest [ inl e ↦ is_place _ s e (place.published header b (buffer_key key) published) | inr gone ↦ absurd gone ]
      ]

  open_publishes : (ts : List WordStep) (r : Placed) → OpenSteps key header b ts r → publications ts ≡ made_by r
  open_publishes ts r (lost saw found far) = refl
  open_publishes ts r (filled cells bytes found named published pin is its) =
      let fills = fill_steps header b (buffer_key key) (cell_in bytes) 0 found in
      let sum = publications-append fills (step.Published header b (buffer_key key) published ∷ []) in
      let none = fills_publish header b (buffer_key key) (cell_in bytes) 0 found in
      omega (arith, sum, none)

  -- a header that was granted a block is filled or lost
  open_answer : (xs ts : List WordStep) (r : Placed) → OpenSteps key header b ts r → IsFilled r ⊎ IsLost (xs ++ ts) r
  open_answer xs ts r (lost saw found far) = inr (header, saw, refl, among_back (step.Missed (State header) saw) xs _ (inl refl))
  open_answer xs ts r (filled cells bytes found named published pin is its) = inl tt

  open_opens : (h : ℕ) (c : Block) (cells : List ℕ) (ts : List WordStep) (r : Placed) → OpenSteps key header b ts r → Among (step.Opened h c cells) ts → IsFilled r
  open_opens h c cells ts r (lost saw found far) (inl e) = absurd (let no : ⊥ = cc in no)
  open_opens h c cells ts r (lost saw found far) (inr (inl e)) = absurd (let no : ⊥ = cc in no)
  open_opens h c cells ts r (lost saw found far) (inr (inr gone)) = absurd gone
  open_opens h c cells ts r (filled all bytes found named published pin is its) there = tt

  open_tells : (g : Geometry) (order first way : ℕ) (states : List ℕ) (from until : ℕ) (xs ts : List WordStep) (r : Placed) → header ≡ first + way → IsFirstFree states way → OpenSteps key header b ts r → Tells g order first states from until (xs ++ ts) r
  open_tells g order first way states from until xs ts r at free (lost saw found far) =
      let P : ℕ → Type 0 = λ n. IsHeaderRaced n (xs ++ ts) saw in
      inr (way, free, subst P at (record { missed = among_back (step.Missed (State header) saw) xs _ (inl refl); other = far }))
  open_tells g order first way states from until xs ts r at free (filled cells bytes found named published pin is its) = tt

-- ---- the whole

module _ (g : Geometry) (key : Key) (order first : ℕ) (states : List ℕ) (from until : ℕ) where
  pub place_tells : until ≤ g.arenas → (ss : List WordStep) (r : Placed) → PlaceSteps g key order first states from until ss r → Tells g order first states from until ss r
  place_tells few ss r (set_full none) = (none, refl, refl)
  place_tells few ss r (no_room way words _ is a past) =
      record {
        last = λ arena le lt. (ask_full g order words until from ss asked.Full tt a arena le lt).0;
        none = λ arena le lt. (ask_full g order words until from ss asked.Full tt a arena le lt).1;
        past = past;
      }
  place_tells few ss r (arena_raced way saw words _ is a) = inl (ask_raced g order words until few from ss (asked.Raced saw) a)
  place_tells few ss r (opens way words grant xs ts _ is a o) = open_tells key (first + way) (block_of grant) g order first way states from until xs ts r refl is o

  pub place_granted : (ss : List WordStep) (r : Placed) → PlaceSteps g key order first states from until ss r → (b : Block) (found : ℕ) → Among (step.Granted b found) ss → IsFilled r ⊎ IsLost ss r
  place_granted ss r (set_full none) b found gone = absurd gone
  place_granted ss r (no_room way words _ is a past) b found there = absurd (ask_grants g order words until b found from ss asked.Full a there)
  place_granted ss r (arena_raced way saw words _ is a) b found there = absurd (ask_grants g order words until b found from ss (asked.Raced saw) a there)
  place_granted ss r (opens way words grant xs ts _ is a o) b found there = open_answer key (first + way) (block_of grant) xs ts r o

  pub place_opened : (ss : List WordStep) (r : Placed) → PlaceSteps g key order first states from until ss r → (header : ℕ) (b : Block) (cells : List ℕ) → Among (step.Opened header b cells) ss → IsFilled r
  place_opened ss r (set_full none) header b cells gone = absurd gone
  place_opened ss r (no_room way words _ is a past) header b cells there = absurd (ask_opens g order words until header b cells from ss asked.Full a there)
  place_opened ss r (arena_raced way saw words _ is a) header b cells there = absurd (ask_opens g order words until header b cells from ss (asked.Raced saw) a there)
  place_opened ss r (opens way words grant xs ts _ is a o) header b cells there =
      elim (among_either (step.Opened header b cells) xs ts there) [
        | inl front ↦ absurd (ask_opens g order words until header b cells from xs (asked.Got grant) a front)
        | inr rest ↦ open_opens key (first + way) (block_of grant) header b cells ts r o rest
      ]

  pub place_only : (ss : List WordStep) (r : Placed) → PlaceSteps g key order first states from until ss r → (s : WordStep) → Among s ss → IsPlaceStep s
  place_only ss r (set_full none) s gone = absurd gone
  place_only ss r (no_room way words _ is a past) s there = ask_only g order words until from ss asked.Full a s there
  place_only ss r (arena_raced way saw words _ is a) s there = ask_only g order words until from ss (asked.Raced saw) a s there
  place_only ss r (opens way words grant xs ts _ is a o) s there =
      elim (among_either s xs ts there) [
        | inl front ↦ ask_only g order words until from xs (asked.Got grant) a s front
        | inr rest ↦ open_only key (first + way) (block_of grant) ts r o s rest
      ]

  pub place_publishes : (ss : List WordStep) (r : Placed) → PlaceSteps g key order first states from until ss r → publications ss ≡ made_by r
  place_publishes ss r (set_full none) = refl
  place_publishes ss r (no_room way words _ is a past) = ask_publishes g order words until from ss asked.Full a
  place_publishes ss r (arena_raced way saw words _ is a) = ask_publishes g order words until from ss (asked.Raced saw) a
  place_publishes ss r (opens way words grant xs ts _ is a o) =
      let sum = publications-append xs ts in
      let none = ask_publishes g order words until from xs (asked.Got grant) a in
      let one = open_publishes key (first + way) (block_of grant) ts r o in
      omega (arith, sum, none, one)

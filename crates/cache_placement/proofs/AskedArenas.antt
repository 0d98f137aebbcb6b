-- Which arenas a placement asks.
use Rattle.std.proofs.Common.{◌≡◌, ℕ, ◌+◌, ◌*◌, ◌/◌, ◌^◌, ◌<◌, ◌≤◌, List, [], ◌∷◌, ◌++◌, refl, sym, ap, ◌∙◌, subst, inl, inr, arith}
use Rattle.std.specs.Prelude.{Option, Some, None, ◌⊎◌, slice_index}
use Rattle.std.proofs.lemmas.Nat.{pow_pos}
use Rattle.buddy_arena.specs.Buddy.{IsBuddyAnswer}
use Rattle.buffer_word.specs.declared.key_word.Key.{Key}
use Rattle.pool_model.specs.declared.block.Block.{Block}
use Rattle.pool_model.specs.declared.buffer.BufferKey.{BufferKey}
use Rattle.pool_rule.specs.declared.geometry.Geometry.{Geometry}
use Rattle.pool_rule.specs.declared.geometry.WordName.TheVariants.{Arena, State}
use Rattle.pool_rule.specs.declared.word_step.WordStep.{WordStep}
use Rattle.pool_rule.specs.declared.word_step.WordStep.TheVariants as step
use Rattle.buffer_pool.specs.Made.{cell_in, fill_steps}
use Rattle.buffer_pool.specs.Pools.{block_at, block_of, buffer_key}
use Rattle.cache_lookup.specs.Trails.{Among}
use Rattle.cache_lookup.specs.TrailLaws.{among_either}
use Rattle.cache_placement.specs.declared.arenas.Asked.{Asked}
use Rattle.cache_placement.specs.declared.arenas.Asked.TheVariants as asked
use Rattle.cache_placement.specs.declared.why.Placed.{Placed}
use Rattle.cache_placement.specs.Asking.{AsksNone, asked_by}
use Rattle.cache_placement.specs.Free.{IsFirstFree, NoneFree}
use Rattle.cache_placement.specs.Steps.{AskSteps, OpenSteps, PlaceSteps, none_left, full, got, raced, lost, filled, set_full, no_room, arena_raced, opens}

-- a step is the one that asks none
none_by : (t s : WordStep) → t ≡ s → asked_by t ≡ None → asked_by s ≡ None
none_by t s e h = ap asked_by (sym e) ∙ h

-- a step is the one that asks that arena
one_by : (t s : WordStep) (here arena : ℕ) → t ≡ s → asked_by t ≡ Some here → asked_by s ≡ Some arena → here ≡ arena
one_by t s here arena e is at = let same : Some here ≡ Some arena = sym is ∙ (ap asked_by e ∙ at) in cc

-- a step that asks none asks no arena
none_at : (s : WordStep) (arena : ℕ) → asked_by s ≡ None → asked_by s ≡ Some arena → ⊥
none_at s arena none some = let clash : None ≡ Some arena = sym none ∙ some in let end : ⊥ = cc in end

module _ (g : Geometry) (order : ℕ) (words : List ℕ) (until : ℕ) where
  abbrev Within : ℕ → ℕ → Type 0
  Within from arena = (from ≤ arena) × (arena < until)

  found_place : (word offset arena : ℕ) → IsBuddyAnswer 64 word order (Some offset) → (64 * arena + offset) / 64 ≡ arena
  found_place word offset arena is =
      let size : ℕ = 2 ^ is.0 in
      let some : 0 < size = pow_pos is.0 in
      let inside : offset + size ≤ 64 = is.1.free.here.block.inside in
      omega (arith, some, inside)

  ask_inside : (from : ℕ) (ss : List WordStep) (r : Asked) → AskSteps g order words until from ss r
      → (s : WordStep) (arena : ℕ) → Among s ss → asked_by s ≡ Some arena → Within from arena
  ask_inside from ss r (none_left _ e) s arena gone is = absurd gone
  ask_inside from ss r (full _ found ts _ less none at more) s arena (inl e) is =
      let same = one_by (step.Looked (Arena from) found) s from arena e refl is in (omega (arith, same), omega (arith, same, less))
  ask_inside from ss r (full _ found ts _ less none at more) s arena (inr there) is =
      let rest = ask_inside (from + 1) ts r more s arena there is in
      let low = rest.0 in (omega (arith, low), rest.1)
  ask_inside from ss r (got _ found offset grant less answer at) s arena (inl e) is =
      let same = one_by (step.Looked (Arena from) found) s from arena e refl is in (omega (arith, same), omega (arith, same, less))
  ask_inside from ss r (got _ found offset grant less answer at) s arena (inr (inl e)) is =
      let same = one_by (step.Granted (block_at (64 * from + offset) order) found) s from arena e (ap Some (found_place found offset from answer)) is in
      (omega (arith, same), omega (arith, same, less))
  ask_inside from ss r (got _ found offset grant less answer at) s arena (inr (inr gone)) is = absurd gone
  ask_inside from ss r (raced _ found saw less other) s arena (inl e) is =
      let same = one_by (step.Looked (Arena from) found) s from arena e refl is in (omega (arith, same), omega (arith, same, less))
  ask_inside from ss r (raced _ found saw less other) s arena (inr (inl e)) is =
      absurd (none_at s arena (none_by (step.Missed (Arena from) saw) s e refl) is)
  ask_inside from ss r (raced _ found saw less other) s arena (inr (inr gone)) is = absurd gone

  ask_first : (from : ℕ) (ss : List WordStep) (r : Asked) → from < until → AskSteps g order words until from ss r
      → (found : ℕ) × (rest : List WordStep) × (ss ≡ step.Looked (Arena from) found ∷ rest)
  ask_first from ss r less (none_left _ e) = absurd (omega (arith, e, less))
  ask_first from ss r less (full _ found ts _ inside none at more) = (found, ts, refl)
  ask_first from ss r less (got _ found offset grant inside answer at) = (found, _, refl)
  ask_first from ss r less (raced _ found saw inside other) = (found, _, refl)

fills_ask : (h : ℕ) (c : Block) (key : BufferKey) (cell : ℕ → ℕ) (done : ℕ) (found : List ℕ) → AsksNone (fill_steps h c key cell done found)
fills_ask h c key cell done [] s gone = absurd gone
fills_ask h c key cell done (x ∷ xs) s (inl e) = none_by (step.Filled h c key done (cell done) x) s e refl
fills_ask h c key cell done (x ∷ xs) s (inr there) = fills_ask h c key cell (done + 1) xs s there

module _ (key : Key) (header : ℕ) (b : Block) where
  open_asks : (ts : List WordStep) (r : Placed) → OpenSteps key header b ts r → AsksNone ts
  open_asks ts r (lost saw found far) s (inl e) = none_by (step.Missed (State header) saw) s e refl
  open_asks ts r (lost saw found far) s (inr (inl e)) = none_by (step.Returned b found) s e refl
  open_asks ts r (lost saw found far) s (inr (inr gone)) = absurd gone
  open_asks ts r (filled cells bytes found named published pin is its) s (inl e) = none_by (step.Opened header b cells) s e refl
  open_asks ts r (filled cells bytes found named published pin is its) s (inr (inl e)) =
      none_by (step.Named header b (buffer_key key) named) s e refl
  open_asks ts r (filled cells bytes found named published pin is its) s (inr (inr there)) =
      let fills = fill_steps header b (buffer_key key) (cell_in bytes) 0 found in
      elim (among_either s fills (step.Published header b (buffer_key key) published ∷ []) there) [
        | inl front ↦ fills_ask header b (buffer_key key) (cell_in bytes) 0 found s front
        | inr rest ↦ elim rest [ inl e ↦ none_by (step.Published header b (buffer_key key) published) s e refl | inr gone ↦ absurd gone ]
      ]

module _ (g : Geometry) (key : Key) (order first : ℕ) (states : List ℕ) (from until : ℕ) where
  pub place_inside : (ss : List WordStep) (r : Placed) → PlaceSteps g key order first states from until ss r
      → (s : WordStep) (arena : ℕ) → Among s ss → asked_by s ≡ Some arena → (from ≤ arena) × (arena < until)
  place_inside ss r (set_full none) s arena gone is = absurd gone
  place_inside ss r (no_room way words _ free a past) s arena there is = ask_inside g order words until from ss asked.Full a s arena there is
  place_inside ss r (arena_raced way saw words _ free a) s arena there is =
      ask_inside g order words until from ss (asked.Raced saw) a s arena there is
  place_inside ss r (opens way words grant xs ts _ free a o) s arena there is =
      elim (among_either s xs ts there) [
        | inl front ↦ ask_inside g order words until from xs (asked.Got grant) a s arena front is
        | inr rest ↦ absurd (none_at s arena (open_asks key (first + way) (block_of grant) ts r o s rest) is)
      ]

  pub place_asked : from < until → (way : ℕ) → way < 8 → slice_index states way ≡ 8 → (ss : List WordStep) (r : Placed)
      → PlaceSteps g key order first states from until ss r
      → (found : ℕ) × (rest : List WordStep) × (ss ≡ step.Looked (Arena from) found ∷ rest)
  place_asked less w inside is ss r (set_full none) = absurd (none w inside is)
  place_asked less w inside is ss r (no_room way words _ free a past) = ask_first g order words until from ss asked.Full less a
  place_asked less w inside is ss r (arena_raced way saw words _ free a) = ask_first g order words until from ss (asked.Raced saw) less a
  place_asked less w inside is ss r (opens way words grant xs ts _ free a o) =
      let front = ask_first g order words until from xs (asked.Got grant) less a in
      (front.0, front.1 ++ ts, ap (λ l. l ++ ts) front.2)

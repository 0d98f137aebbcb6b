-- A call's own steps excuse nothing: what holds of the seat at each of them. Source: this project's own.
use Rattle.std.specs.Prelude.{◌≡◌, ℕ, ◌%◌, List, [], ◌∷◌, ◌++◌, ◌⊎◌, Option}
use Rattle.buffer_word.specs.declared.key_word.Key.{Key}
use Rattle.buffer_word.specs.declared.state_word.Mode.{Mode}
use Rattle.buffer_word.specs.declared.state_word.Mode.TheVariants as mode
use Rattle.buffer_word.specs.KeyWord.{key_word}
use Rattle.buffer_word.specs.StateWord.{flag_of}
use Rattle.pool_model.specs.Content.{Files}
use Rattle.pool_rule.specs.declared.geometry.Geometry.{Geometry}
use Rattle.pool_rule.specs.declared.geometry.WordName.TheVariants.{Arena, State, KeyOf}
use Rattle.pool_rule.specs.declared.view.View.{View}
use Rattle.pool_rule.specs.declared.word_step.WordStep.{WordStep}
use Rattle.pool_rule.specs.declared.word_step.WordStep.TheVariants.{Looked, Counted}
use Rattle.pool_rule.specs.Seats.{mark_at}
use Rattle.pool_rule.specs.WordSteps.{IsMade}
use Rattle.cache_lookup.specs.Before.{SameClaims, SameGrants}
use Rattle.cache_lookup.specs.Sets.{IsWay}
use Rattle.cache_lookup.specs.Trails.{Among}

-- the mode that a state word's flags give
abbrev pub HasMode : ℕ → Mode → Type 0
HasMode word m = word % 16 ≡ flag_of m

-- loads among these steps showed the key in that header, and a state that is live or moving
pub record IsShown (key : Key) (before : List WordStep) (header : ℕ) : Type 0 where
  pub key_load : Among (Looked (KeyOf header) (key_word key)) before
  pub word : ℕ
  pub can_pin : HasMode word mode.Live ⊎ HasMode word mode.Moving
  pub state_load : Among (Looked (State header) word) before

-- A step of a call for that key, before which the call made those and at which the seat has that view, is right: at a load of
-- an arena's word the seat has no claim and no grant that it didn't have at the call's start, at a load of a state word and
-- where it adds a count it has no claim. A count is added on a way of the key's set alone, in which loads of this call showed the
-- key in a buffer that is live or moves. A load that shows the key to a new pin, which then is a pin of that key, makes the
-- answer the one that `hit` says.
pub record IsRight (g : Geometry) (key : Key) (hit : Type 0) (start : View) (before : List WordStep) (s : WordStep)
    (v : View) : Type 0 where
  pub arena_load : (arena found : ℕ) → s ≡ Looked (Arena arena) found → SameClaims start v × SameGrants start v
  pub state_load : (header found : ℕ) → s ≡ Looked (State header) found → SameClaims start v
  pub count : (header found : ℕ) → s ≡ Counted header found → SameClaims start v × IsWay g key header × IsShown key before header
  pub pinned : (header : ℕ) → s ≡ Looked (KeyOf header) (key_word key) → ((mark_at v header).hold ≡ (mark_at start header).hold) ⊎ hit

-- The seat made these steps, one after the other and no others, each right at its moment.
abbrev pub AreRight : Option Files → Geometry → ℕ → Key → Type 0 → View → List WordStep → View → List WordStep → View → Type 0
AreRight files g id key hit start before v [] w = w ≡ v
AreRight files g id key hit start before v (s ∷ ss) w =
    (u : View) × IsMade files g id s v u × IsRight g key hit start before s v
    × AreRight files g id key hit start (before ++ s ∷ []) u ss w

-- The protocol of a look-up, branch by branch: by which steps each answer comes.
use Rattle.std.specs.Prelude.{◌≡◌, ◌≢◌, ℕ, ◌+◌, ◌<◌, List, [], ◌∷◌, ◌++◌, ◌⊎◌, Option, slice_index}
use Rattle.buffer_word.specs.declared.key_word.Key.{Key}
use Rattle.buffer_word.specs.declared.state_word.Mode.TheVariants as mode
use Rattle.buffer_word.specs.KeyWord.{key_word}
use Rattle.pool_model.specs.Content.{Files}
use Rattle.pool_rule.specs.declared.geometry.Geometry.{Geometry}
use Rattle.pool_rule.specs.declared.geometry.WordName.TheVariants.{State, KeyOf}
use Rattle.pool_rule.specs.declared.view.View.{View}
use Rattle.pool_rule.specs.declared.word_step.WordStep.{WordStep}
use Rattle.pool_rule.specs.declared.word_step.WordStep.TheVariants.{Looked, Counted, Uncounted}
use Rattle.buffer_pool.specs.declared.token.Pin.{Pin}
use Rattle.buffer_pool.specs.declared.pool.Pool.{Pool}
use Rattle.buffer_pool.specs.declared.seat.PoolSeat.{PoolSeat}
use Rattle.buffer_pool.specs.Made.{AreMade, IsLiveWord}
use Rattle.buffer_pool.specs.Pools.{pin_header}
use Rattle.cache_lookup.specs.declared.ways.Found.{Found}
use Rattle.cache_lookup.specs.declared.ways.Found.TheVariants as found
use Rattle.cache_lookup.specs.declared.ways.Tried.{Tried}
use Rattle.cache_lookup.specs.declared.ways.Tried.TheVariants.{Hit, Busy, Passed}
use Rattle.cache_lookup.specs.LookUps.{IsPinFor}
use Rattle.cache_lookup.specs.Right.{HasMode}

-- what was loaded of a way shows that it hasn't the key
abbrev pub HasNot : Key → ℕ → ℕ → Type 0
HasNot key seen shown = (shown ≢ key_word key) ⊎ (HasMode seen mode.Evicted ⊎ HasMode seen mode.Released)

-- the state that was seen is that of a buffer that may be pinned, at once or once it has moved
abbrev pub MayBePinned : ℕ → Type 0
MayBePinned seen = HasMode seen mode.Live ⊎ HasMode seen mode.Moving

-- a way that was seen to have the key is pinned: a count, and the second look
pub data PinSteps (key : Key) (header seen : ℕ) : List WordStep → Tried → Type 0 where
  held : (word : ℕ) (pin : Pin) → IsLiveWord word → pin_header pin ≡ header
      → PinSteps key header seen (Counted header word ∷ Looked (KeyOf header) (key_word key) ∷ []) (Hit pin)
  refused : (word left : ℕ) → (IsLiveWord word → ⊥)
      → PinSteps key header seen (Counted header word ∷ Uncounted header left ∷ []) (Busy word)
  changed : (word other left : ℕ) → IsLiveWord word → other ≢ key_word key
      → PinSteps key header seen (Counted header word ∷ Looked (KeyOf header) other ∷ Uncounted header left ∷ []) (Passed seen)

-- one way is tried: its state and its key word are loaded
pub data TrySteps (key : Key) (header : ℕ) : List WordStep → Tried → Type 0 where
  has_not : (seen shown : ℕ) → HasNot key seen shown
      → TrySteps key header (Looked (State header) seen ∷ Looked (KeyOf header) shown ∷ []) (Passed seen)
  is_new : (seen : ℕ) → HasMode seen mode.New
      → TrySteps key header (Looked (State header) seen ∷ Looked (KeyOf header) (key_word key) ∷ []) (Busy seen)
  pins : (seen : ℕ) (ss : List WordStep) (r : Tried) → MayBePinned seen → PinSteps key header seen ss r
      → TrySteps key header (Looked (State header) seen ∷ Looked (KeyOf header) (key_word key) ∷ ss) r

-- the ways from one on are tried in order, until one ends the look-up; `states` are the states that were seen in the others
pub data LookSteps (key : Key) (first : ℕ) (states : List ℕ) : ℕ → List WordStep → Found → Type 0 where
  past : (way : ℕ) → way ≡ 8 → LookSteps key first states way [] found.Missing
  passed : (way seen : ℕ) (ss ts : List WordStep) (r : Found) → way < 8 → TrySteps key (first + way) ss (Passed seen)
      → slice_index states way ≡ seen
      → LookSteps key first states (way + 1) ts r → LookSteps key first states way (ss ++ ts) r
  hit : (way : ℕ) (ss : List WordStep) (pin : Pin) → way < 8 → TrySteps key (first + way) ss (Hit pin)
      → LookSteps key first states way ss (found.Hit pin)
  busy : (way word : ℕ) (ss : List WordStep) → way < 8 → TrySteps key (first + way) ss (Busy word)
      → LookSteps key first states way ss (found.Busy word)

-- ---- the seat made such steps

abbrev pub Pins : Option Files → Geometry → ℕ → Key → ℕ → ℕ → View → View → Tried → Type 0
Pins files g id key header seen old new r = (ss : List WordStep) × AreMade files g id ss old new × PinSteps key header seen ss r

abbrev pub Tries : Option Files → Geometry → ℕ → Key → ℕ → View → View → Tried → Type 0
Tries files g id key header old new r = (ss : List WordStep) × AreMade files g id ss old new × TrySteps key header ss r

abbrev pub Looks : Option Files → Geometry → ℕ → Key → ℕ → List ℕ → ℕ → View → View → Found → Type 0
Looks files g id key first states way old new r = (ss : List WordStep) × AreMade files g id ss old new
    × LookSteps key first states way ss r

-- ---- what is handed over

abbrev pub HoldsTried : {W : Type 0} → Pool W → PoolSeat W → Key → Tried → Type 0
HoldsTried pool seat key (Hit pin) = IsPinFor pool seat key pin
HoldsTried pool seat key (Busy word) = Unit {0}
HoldsTried pool seat key (Passed seen) = Unit {0}

-- where the way was passed, that holds
abbrev pub IfPassed : Tried → Type 0 → Type 0
IfPassed (Hit pin) P = Unit {0}
IfPassed (Busy word) P = Unit {0}
IfPassed (Passed seen) P = P

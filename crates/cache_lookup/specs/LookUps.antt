-- What a look-up's answer tells of its steps, and what it leaves. Source: this project's own.
use Rattle.std.specs.Prelude.{◌≡◌, ◌≢◌, ℕ, ◌+◌, ◌<◌, List, [], ◌⊎◌, Option, Some, slice_index}
use Rattle.buffer_word.specs.declared.key_word.Key.{Key}
use Rattle.buffer_word.specs.declared.state_word.Mode.TheVariants as mode
use Rattle.buffer_word.specs.KeyWord.{key_word}
use Rattle.pool_model.specs.Content.{Files}
use Rattle.pool_rule.specs.declared.geometry.Geometry.{Geometry}
use Rattle.pool_rule.specs.declared.geometry.WordName.{WordName}
use Rattle.pool_rule.specs.declared.geometry.WordName.TheVariants.{State, KeyOf}
use Rattle.pool_rule.specs.declared.view.View.{View}
use Rattle.pool_rule.specs.declared.word_step.WordStep.{WordStep}
use Rattle.pool_rule.specs.declared.word_step.WordStep.TheVariants.{Looked, Counted, Uncounted}
use Rattle.pool_rule.specs.Layout.{header_word}
use Rattle.buffer_pool.specs.Made.{IsLiveWord}
use Rattle.buffer_pool.specs.declared.pool.Pool.{Pool}
use Rattle.buffer_pool.specs.declared.seat.PoolSeat.{PoolSeat}
use Rattle.buffer_pool.specs.declared.token.Pin.{Pin}
use Rattle.buffer_pool.specs.Pools.{IsPinOf, pin_header, pin_key, seat_id, sizes_of, view}
use Rattle.cache_lookup.specs.declared.ways.Found.{Found}
use Rattle.cache_lookup.specs.declared.ways.Found.TheVariants.{Hit, Busy, Missing}
use Rattle.cache_lookup.specs.Before.{HasHoldMore, IsAsBefore}
use Rattle.cache_lookup.specs.Exact.{IsExact}
use Rattle.cache_lookup.specs.Right.{AreRight, HasMode}
use Rattle.cache_lookup.specs.Sets.{IsWay, first_way}
use Rattle.cache_lookup.specs.Trails.{Among, events, first_load, last_load}

-- a load showed another key word in that header, or a state that is evicted or released
pub data IsMissing (key : Key) (ss : List WordStep) (header : ℕ) : Type 0 where
  other_key : (shown : ℕ) → shown ≢ key_word key → Among (Looked (KeyOf header) shown) ss → IsMissing key ss header
  no_buffer : (word : ℕ) → HasMode word mode.Evicted ⊎ HasMode word mode.Released → Among (Looked (State header) word) ss
      → IsMissing key ss header

-- the key isn't in that header, of which the first and the last load of the state gave this word
pub record IsPassed (g : Geometry) (key : Key) (ss : List WordStep) (header state : ℕ) : Type 0 where
  pub missing : IsMissing key ss header
  pub first : first_load (header_word g header) (events g ss) ≡ Some state
  pub last : last_load (header_word g header) (events g ss) ≡ Some state

-- A load showed the key in a way, and a step on its state gave the word: a load that of a new buffer, or a count one that
-- isn't live.
pub data IsBusy (g : Geometry) (key : Key) (ss : List WordStep) (word : ℕ) : Type 0 where
  new_way : (header : ℕ) → IsWay g key header → Among (Looked (KeyOf header) (key_word key)) ss → HasMode word mode.New
      → Among (Looked (State header) word) ss → IsBusy g key ss word
  counted : (header : ℕ) → IsWay g key header → Among (Looked (KeyOf header) (key_word key)) ss → (IsLiveWord word → ⊥)
      → Among (Counted header word) ss → IsBusy g key ss word

-- by the answer: the pin is of a way; a way is busy; or no way has the key, and `states` are the states that were seen
abbrev pub Tells : Geometry → Key → List WordStep → List ℕ → Found → Type 0
Tells g key ss states (Hit pin) = IsWay g key (pin_header pin)
Tells g key ss states (Busy word) = IsBusy g key ss word
Tells g key ss states Missing = (way : ℕ) → way < 8 → IsPassed g key ss (first_way g key + way) (slice_index states way)

-- a pin is one hold more, and any other answer leaves the seat what it had
abbrev pub Leaves : View → View → Found → Type 0
Leaves old new (Hit pin) = HasHoldMore old new (pin_header pin)
Leaves old new (Busy word) = IsAsBefore old new
Leaves old new Missing = IsAsBefore old new

abbrev pub IsHit : Found → Type 0
IsHit (Hit pin) = Unit {0}
IsHit (Busy word) = ⊥
IsHit Missing = ⊥

-- the pin is the seat's, of that key
pub record IsPinFor {W : Type 0} (pool : Pool W) (seat : PoolSeat W) (key : Key) (pin : Pin) : Type 0 where
  pub token : IsPinOf pool seat pin
  pub key_is : pin_key pin ≡ key

abbrev pub HoldsFound : {W : Type 0} → Pool W → PoolSeat W → Key → Found → Type 0
HoldsFound pool seat key (Hit pin) = IsPinFor pool seat key pin
HoldsFound pool seat key (Busy word) = Unit {0}
HoldsFound pool seat key Missing = Unit {0}

-- the steps of a look-up: loads, and counts with their return
pub data IsLookStep : WordStep → Type 0 where
  load : (word : WordName) (found : ℕ) → IsLookStep (Looked word found)
  count : (header found : ℕ) → IsLookStep (Counted header found)
  back : (header found : ℕ) → IsLookStep (Uncounted header found)

-- The seat looked a key up by these steps, with that answer. If it knows the words, the answer follows from them.
pub record IsLookUp (files : Option Files) (g : Geometry) (id : ℕ) (key : Key) (ss : List WordStep) (states : List ℕ) (old new : View)
    (found : Found) : Type 0 where
  pub right : AreRight files g id key (IsHit found) old [] old ss new
  pub only : (s : WordStep) → Among s ss → IsLookStep s
  pub leaves : Leaves old new found
  pub tells : Tells g key ss states found
  pub exact : (words : List ℕ) → old.known ≡ Some words → IsExact g key words (first_way g key) 0 states new found

-- some steps did
abbrev pub LooksUp : {W : Type 0} → Option Files → Pool W → PoolSeat W → PoolSeat W → Key → List ℕ → Found → Type 0
LooksUp files pool old new key states found =
    (ss : List WordStep) × IsLookUp files (sizes_of pool) (seat_id old) key ss states (view old) (view new) found

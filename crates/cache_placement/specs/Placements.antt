-- What becomes of a range that is to be placed, and what each answer tells. Source: this project's own.
use Rattle.std.specs.Prelude.{◌≡◌, ◌≢◌, ℕ, ◌+◌, ◌-◌, ◌^◌, ◌<◌, ◌≤◌, List, [], ◌∷◌, ◌++◌, ◌⊎◌, Option, Some, None, slice_index}
use Rattle.buddy_arena.specs.Buddy.{IsBuddyAnswer}
use Rattle.buffer_word.specs.declared.key_word.Key.{Key}
use Rattle.pool_model.specs.declared.block.Block.{Block}
use Rattle.pool_model.specs.Content.{Files}
use Rattle.pool_rule.specs.declared.geometry.Geometry.{Geometry}
use Rattle.pool_rule.specs.declared.geometry.WordName.TheVariants.{Arena, State}
use Rattle.pool_rule.specs.declared.view.View.{View}
use Rattle.pool_rule.specs.declared.word_step.WordStep.{WordStep}
use Rattle.pool_model.specs.declared.buffer.BufferKey.{BufferKey}
use Rattle.pool_rule.specs.declared.geometry.WordName.{WordName}
use Rattle.pool_rule.specs.declared.word_step.WordStep.TheVariants as step
use Rattle.pool_rule.specs.declared.word_step.WordStep.TheVariants.{Looked, Missed, Granted, Returned, Opened, Named, Published}
use Rattle.buffer_pool.specs.declared.pool.Pool.{Pool}
use Rattle.buffer_pool.specs.declared.seat.PoolSeat.{PoolSeat}
use Rattle.buffer_pool.specs.Pools.{pin_header, seat_id, sizes_of, view}
use Rattle.cache_lookup.specs.Before.{HasHoldMore, IsAsBefore}
use Rattle.cache_lookup.specs.LookUps.{IsPinFor}
use Rattle.cache_lookup.specs.Right.{AreRight}
use Rattle.cache_lookup.specs.Trails.{Among, events, last_left, last_load}
use Rattle.cache_placement.specs.declared.why.Placed.{Placed}
use Rattle.cache_placement.specs.declared.why.Placed.TheVariants.{Filled, Bypass}
use Rattle.cache_placement.specs.declared.why.Why.TheVariants.{NoRoom, Raced, Busy, SetFull, PolicyOut}
use Rattle.cache_placement.specs.Asking.{asked_by}
use Rattle.cache_placement.specs.Exact.{AreStates, IsExact}
use Rattle.cache_placement.specs.Free.{IsFirstFree, NoneFree}
use Rattle.cache_placement.specs.Publications.{publications}

-- The words are the last loads of the words of the arenas from one on and below another, and none of these has a free block of the
-- order by them. Past the last of them they are all ones.
pub record HasNoRoom (g : Geometry) (order from until : ℕ) (ss : List WordStep) (words : List ℕ) : Type 0 where
  pub last : (arena : ℕ) → from ≤ arena → arena < until → last_load arena (events g ss) ≡ Some (slice_index words arena)
  pub none : (arena : ℕ) → from ≤ arena → arena < until → IsBuddyAnswer 64 (slice_index words arena) order None
  pub past : (i : ℕ) → until ≤ i → i < 64 → slice_index words i ≡ 2 ^ 64 - 1

-- an exchange on an arena's word gave this word, which is another than the one with which this call's last step on it left it
pub record IsArenaRaced (g : Geometry) (ss : List WordStep) (saw : ℕ) : Type 0 where
  pub arena : ℕ
  pub inside : arena < g.arenas
  pub earlier : List WordStep
  pub later : List WordStep
  pub parts : ss ≡ earlier ++ Missed (Arena arena) saw ∷ later
  pub word : ℕ
  pub left : last_left arena (events g earlier) ≡ Some word
  pub other : saw ≢ word

-- the exchange on a header's state gave this word, not that of a released header without a count
pub record IsHeaderRaced (header : ℕ) (ss : List WordStep) (saw : ℕ) : Type 0 where
  pub missed : Among (Missed (State header) saw) ss
  pub other : saw ≢ 8

-- one of both, where the header is the first that was seen released
abbrev pub IsRaced : Geometry → ℕ → List ℕ → List WordStep → ℕ → Type 0
IsRaced g first states ss saw = IsArenaRaced g ss saw ⊎ ((way : ℕ) × IsFirstFree states way × IsHeaderRaced (first + way) ss saw)

abbrev pub Tells : Geometry → ℕ → ℕ → List ℕ → ℕ → ℕ → List WordStep → Placed → Type 0
Tells g order first states from until ss (Filled pin) = Unit {0}
Tells g order first states from until ss (Bypass (NoRoom words)) = HasNoRoom g order from until ss words
Tells g order first states from until ss (Bypass (Raced saw)) = IsRaced g first states ss saw
Tells g order first states from until ss (Bypass (SetFull seen)) = NoneFree states × (seen ≡ states) × (ss ≡ [])
Tells g order first states from until ss (Bypass (Busy word)) = ⊥
Tells g order first states from until ss (Bypass PolicyOut) = ⊥

-- a pin is one hold more, and after any bypass the seat has what it had
abbrev pub Leaves : View → View → Placed → Type 0
Leaves old new (Filled pin) = HasHoldMore old new (pin_header pin)
Leaves old new (Bypass why) = IsAsBefore old new

abbrev pub IsFilled : Placed → Type 0
IsFilled (Filled pin) = Unit {0}
IsFilled (Bypass why) = ⊥

-- how many buffers an answer stands for
abbrev pub made_by : Placed → ℕ
made_by (Filled pin) = 1
made_by (Bypass why) = 0

-- The steps of a placement: loads of arenas' words, exchanges that found another word, a block that is granted or given back, and
-- a buffer that is opened, named, filled and published.
pub data IsPlaceStep : WordStep → Type 0 where
  asked : (arena found : ℕ) → IsPlaceStep (Looked (Arena arena) found)
  missed : (word : WordName) (found : ℕ) → IsPlaceStep (Missed word found)
  granted : (b : Block) (found : ℕ) → IsPlaceStep (Granted b found)
  returned : (b : Block) (found : ℕ) → IsPlaceStep (Returned b found)
  opened : (header : ℕ) (b : Block) (cells : List ℕ) → IsPlaceStep (Opened header b cells)
  named : (header : ℕ) (b : Block) (key : BufferKey) (found : ℕ) → IsPlaceStep (Named header b key found)
  filled : (header : ℕ) (b : Block) (key : BufferKey) (done value found : ℕ) → IsPlaceStep (step.Filled header b key done value found)
  published : (header : ℕ) (b : Block) (key : BufferKey) (found : ℕ) → IsPlaceStep (Published header b key found)

-- the answer is that the header was lost, by an exchange among these steps
abbrev pub IsLost : List WordStep → Placed → Type 0
IsLost ss placed = (header saw : ℕ) × (placed ≡ Bypass (Raced saw)) × Among (Missed (State header) saw) ss

-- the pin is the seat's, of the key
abbrev pub HoldsPlaced : {W : Type 0} → Pool W → PoolSeat W → Key → Placed → Type 0
HoldsPlaced pool seat key (Filled pin) = IsPinFor pool seat key pin
HoldsPlaced pool seat key (Bypass why) = Unit {0}

-- The seat placed a range by these steps, with that answer. A grant makes the answer that the range is filled, or that the header
-- was lost, and an opening that it is filled; one buffer is published where it is, and else none. No header is evicted or released.
-- No other arenas are asked than those from one on and below another, and where a way was seen free the first of them is asked first.
-- If the seat knows the words, and the states are theirs, the answer follows from them.
pub record IsPlacement (files : Option Files) (g : Geometry) (id : ℕ) (key : Key) (order first : ℕ) (states : List ℕ) (from until : ℕ)
    (ss : List WordStep) (old new : View) (placed : Placed) : Type 0 where
  pub right : AreRight files g id key ⊥ old [] old ss new
  pub leaves : Leaves old new placed
  pub tells : Tells g order first states from until ss placed
  pub granted : (b : Block) (found : ℕ) → Among (Granted b found) ss → IsFilled placed ⊎ IsLost ss placed
  pub opened : (header : ℕ) (b : Block) (cells : List ℕ) → Among (Opened header b cells) ss → IsFilled placed
  pub only : (s : WordStep) → Among s ss → IsPlaceStep s
  pub published : publications ss ≡ made_by placed
  pub inside : (s : WordStep) (arena : ℕ) → Among s ss → asked_by s ≡ Some arena → (from ≤ arena) × (arena < until)
  pub asked : from < until → (way : ℕ) → way < 8 → slice_index states way ≡ 8
      → (found : ℕ) × (rest : List WordStep) × (ss ≡ Looked (Arena from) found ∷ rest)
  pub exact : (words : List ℕ) → old.known ≡ Some words → AreStates g words first states →
      IsExact g order words first states from until new placed

-- some steps did
abbrev pub PlacesRange : {W : Type 0} → Option Files → Pool W → PoolSeat W → PoolSeat W → Key → ℕ → ℕ → List ℕ → ℕ → ℕ → Placed → Type 0
PlacesRange files pool old new key order first states from until placed =
    (ss : List WordStep)
    × IsPlacement files (sizes_of pool) (seat_id old) key order first states from until ss (view old) (view new) placed

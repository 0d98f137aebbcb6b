-- What a fetch's answer tells of its steps, and what it leaves. Source: this project's own.
use Rattle.std.specs.Prelude.{◌≡◌, ℕ, ◌+◌, ◌<◌, ◌%◌, ◌^◌, List, [], ◌∷◌, ◌++◌, ◌⊎◌, Option, Some, slice_index, slice_set}
use Rattle.buffer_word.specs.declared.key_word.Key.{Key}
use Rattle.pool_model.specs.declared.block.Block.{Block}
use Rattle.pool_model.specs.Content.{Files}
use Rattle.pool_rule.specs.declared.geometry.Geometry.{Geometry}
use Rattle.pool_rule.specs.declared.geometry.WordName.TheVariants.{Clock}
use Rattle.pool_rule.specs.declared.view.View.{View}
use Rattle.pool_rule.specs.declared.word_step.WordStep.{WordStep}
use Rattle.pool_rule.specs.declared.word_step.WordStep.TheVariants.{EvictBegun, Granted, HeaderReleased, Opened, Updated}
use Rattle.pool_rule.specs.Layout.{clock_word, header_word, headers_of}
use Rattle.buffer_pool.specs.declared.pool.Pool.{Pool}
use Rattle.buffer_pool.specs.declared.seat.PoolSeat.{PoolSeat}
use Rattle.buffer_pool.specs.Made.{IsLiveWord, touch_steps}
use Rattle.buffer_pool.specs.Pools.{pin_header, seat_id, sizes_of, view}
use Rattle.cache_lookup.specs.Before.{IsAsBefore}
use Rattle.cache_lookup.specs.Exact.{IsFirstWith, state_in}
use Rattle.cache_lookup.specs.LookUps.{IsBusy, IsLookStep}
use Rattle.cache_lookup.specs.Right.{AreRight}
use Rattle.cache_lookup.specs.Sets.{IsWay, first_way}
use Rattle.cache_lookup.specs.Trails.{Among, events, first_load}
use Rattle.cache_placement.specs.declared.why.Why.TheVariants.{NoRoom, Raced, Busy, SetFull, PolicyOut}
use Rattle.cache_placement.specs.Free.{IsOrder}
use Rattle.cache_placement.specs.Placements.{HasNoRoom, IsArenaRaced, IsHeaderRaced}
use Rattle.cache_placement.specs.Publications.{publications}
use Rattle.cache_room.specs.Touchings.{touchings}
use Rattle.cache_room.specs.Tried.{IsTried, last_saw, releases}
use Rattle.evicting_fetch.specs.Needs.{IsNeeded, IsTaken}
use Rattle.range_cache.specs.declared.ranged.Grip.{Grip}
use Rattle.range_cache.specs.declared.ranged.Grip.TheVariants as grip
use Rattle.range_cache.specs.declared.ranged.How.{How}
use Rattle.range_cache.specs.declared.ranged.How.TheVariants.{Hit, Filled, Bypass}
use Rattle.range_cache.specs.declared.ranged.Ranged.{Ranged}
use Rattle.range_cache.specs.Exact.{IsInNoWay}
use Rattle.range_cache.specs.Fetches.{IsFilled, IsLost, IsNowhere, made_by}
use Rattle.range_cache.specs.Ranges.{GripFits, IsHit, IsRanged, Leaves, range_key}

-- the seat has the range of that key, for which nothing was moved
pub record IsGot {W : Type 0} (pool : Pool W) (seat : PoolSeat W) (key : Key) (ranged : Ranged) : Type 0 where
  pub held : IsRanged pool seat ranged
  pub key_is : range_key ranged ≡ key
  pub grip : GripFits ranged.how ranged.held
  pub moved : ranged.moved ≡ 0

-- ---- what each answer tells

-- that is told by the first of these steps, among which no eviction was begun
pub record IsEarly (P : List WordStep → Type 0) (ss : List WordStep) : Type 0 where
  pub front : List WordStep
  pub back : List WordStep
  pub parts : ss ≡ front ++ back
  pub early : (header found : ℕ) → Among (EvictBegun header found) front → ⊥
  pub told : P front

-- No way of the set was free; each was tried, and none released. These are the words that the last steps on the ways' states found.
pub record IsSetFull (g : Geometry) (key : Key) (ss : List WordStep) (states : List ℕ) : Type 0 where
  pub first : IsTaken g key ss
  pub none : releases ss ≡ 0
  pub last : (way : ℕ) → way < 8 → last_saw (header_word g (first_way g key + way)) (events g ss) ≡ Some (slice_index states way)
  pub tried : (way : ℕ) → way < 8 → IsTried (first_way g key + way) ss

-- Each header was tried. Behind the last one that was released all arenas were asked, and these loads of their words show no free block of
-- the order of the key's length.
pub record IsNoRoom (g : Geometry) (key : Key) (ss : List WordStep) (words : List ℕ) : Type 0 where
  pub order : ℕ
  pub is_order : IsOrder g key.len order
  pub earlier : List WordStep
  pub later : List WordStep
  pub parts : ss ≡ earlier ++ later
  pub none : releases later ≡ 0
  pub room : HasNoRoom g order 0 g.arenas later words
  pub tried : (header : ℕ) → header < headers_of g → IsTried header ss

-- The exchange on a way's state gave this word, not that of a released header without a count, which the first load of the state
-- had shown, or which this call's release had left.
pub record IsWayRaced (g : Geometry) (key : Key) (ss : List WordStep) (saw : ℕ) : Type 0 where
  pub header : ℕ
  pub way : IsWay g key header
  pub raced : IsHeaderRaced header ss saw
  pub free : (first_load (header_word g header) (events g ss) ≡ Some 8)
      ⊎ ((b : Block) × (found : ℕ) × Among (HeaderReleased header b found) ss)

-- Where a way has the key, no header was released.
abbrev pub Tells : Geometry → Key → List WordStep → How → Type 0
Tells g key ss Hit = releases ss ≡ 0
Tells g key ss Filled = IsEarly (IsNowhere g key) ss
Tells g key ss (Bypass (NoRoom words)) = IsEarly (IsNowhere g key) ss × IsNoRoom g key ss words
Tells g key ss (Bypass (Raced saw)) = IsEarly (IsNowhere g key) ss × (IsArenaRaced g ss saw ⊎ IsWayRaced g key ss saw)
Tells g key ss (Bypass (Busy word)) = (releases ss ≡ 0) × IsEarly (λ xs. IsBusy g key xs word) ss
Tells g key ss (Bypass (SetFull states)) = IsEarly (IsNowhere g key) ss × IsSetFull g key ss states
Tells g key ss (Bypass PolicyOut) = ⊥

-- ---- the clock

-- what is pinned is touched once
abbrev pub touched_for : How → ℕ
touched_for Hit = 1
touched_for Filled = 1
touched_for (Bypass why) = 0

-- the clock's value after a tick
abbrev pub next_tick : ℕ → ℕ
next_tick clock = (clock + 1) % 2 ^ 64

-- the last steps touch the header that is pinned, at that tick; a bypass touches none
abbrev pub IsTouch : Grip → ℕ → List WordStep → Type 0
IsTouch (grip.Pin pin) tick end = (touches last : ℕ) × (end ≡ touch_steps (pin_header pin) tick touches last)
IsTouch (grip.Bypass key) tick end = end ≡ []

-- the first step is a tick of the clock, and the last ones touch what is pinned
pub record IsTicked (ss : List WordStep) (held : Grip) : Type 0 where
  pub clock : ℕ
  pub between : List WordStep
  pub end : List WordStep
  pub steps : ss ≡ Updated Clock clock (next_tick clock) ∷ (between ++ end)
  pub touch : IsTouch held (next_tick clock) end

-- the words after a tick
abbrev pub ticked : Geometry → List ℕ → List ℕ
ticked g words = slice_set words (clock_word g) (next_tick (slice_index words (clock_word g)))

-- ---- by the words

-- The first way that has the key decides: a hit if it is live, and else busy with its state, and then nothing but the clock has changed.
-- Every other answer comes where no way has it.
abbrev pub IsLooked : Geometry → Key → List ℕ → View → How → Type 0
IsLooked g key words new Hit = (way : ℕ) × IsFirstWith g key words (first_way g key) 0 way × IsLiveWord (state_in g
    words (first_way g key + way))
IsLooked g key words new Filled = IsInNoWay g key words
IsLooked g key words new (Bypass (Busy word)) =
    (way : ℕ) × IsFirstWith g key words (first_way g key) 0 way × (word ≡ state_in g words (first_way g key + way))
    × (IsLiveWord word → ⊥) × (new.known ≡ Some words)
IsLooked g key words new (Bypass (SetFull states)) = IsInNoWay g key words
IsLooked g key words new (Bypass (NoRoom seen)) = IsInNoWay g key words
IsLooked g key words new (Bypass (Raced saw)) = IsInNoWay g key words
IsLooked g key words new (Bypass PolicyOut) = ⊥

-- ---- the whole

-- The seat fetched a range by these steps, with that answer, and its trail grew by them and by no others. A pin of the key makes it a
-- hit; a grant makes it filled, or the header was lost; an opening makes it filled; and one buffer is published where it is filled, and
-- else none. What is pinned is touched, once, and nothing else is. `evicted` counts the headers that were released, and `needed` says
-- for what they went. If the seat knows the words, whether the range is in the cache follows from them as they are after the tick.
pub record IsFetch (files : Option Files) (g : Geometry) (id : ℕ) (key : Key) (ss : List WordStep) (old new : View)
    (ranged : Ranged) : Type 0 where
  pub right : AreRight files g id key (IsHit ranged.how) old [] old ss new
  pub leaves : Leaves old new ranged
  pub tells : Tells g key ss ranged.how
  pub granted : (b : Block) (found : ℕ) → Among (Granted b found) ss → IsFilled ranged.how ⊎ IsLost ss ranged.how
  pub opened : (header : ℕ) (b : Block) (cells : List ℕ) → Among (Opened header b cells) ss → IsFilled ranged.how
  pub published : publications ss ≡ made_by ranged.how
  pub touched : touchings ss ≡ touched_for ranged.how
  pub trail : new.trail ≡ old.trail ++ events g ss
  pub clock : IsTicked ss ranged.held
  pub evicted : ranged.evicted ≡ releases ss
  pub needed : IsNeeded g key ss
  pub looked : (words : List ℕ) → old.known ≡ Some words → IsLooked g key (ticked g words) new ranged.how

-- A fetch whose read failed ticked, made loads, and counts that it took back, and its trail grew by these: nothing but the clock has
-- changed.
pub record IsFailedFetch (files : Option Files) (g : Geometry) (id : ℕ) (key : Key) (ss : List WordStep) (old new : View) : Type 0 where
  pub right : AreRight files g id key ⊥ old [] old ss new
  pub clock : ℕ
  pub rest : List WordStep
  pub steps : ss ≡ Updated Clock clock (next_tick clock) ∷ rest
  pub only : (s : WordStep) → Among s rest → IsLookStep s
  pub trail : new.trail ≡ old.trail ++ events g ss
  pub leaves : IsAsBefore old new
  pub words : (words : List ℕ) → old.known ≡ Some words → new.known ≡ Some (ticked g words)

-- some steps did
abbrev pub Fetches : {W : Type 0} → Option Files → Pool W → PoolSeat W → PoolSeat W → Key → Ranged → Type 0
Fetches files pool old new key ranged = (ss : List WordStep) × IsFetch files (sizes_of pool) (seat_id old) key ss
    (view old) (view new) ranged

abbrev pub FailsToFetch : {W : Type 0} → Option Files → Pool W → PoolSeat W → PoolSeat W → Key → Type 0
FailsToFetch files pool old new key = (ss : List WordStep) × IsFailedFetch files (sizes_of pool) (seat_id old) key ss (view old) (view new)

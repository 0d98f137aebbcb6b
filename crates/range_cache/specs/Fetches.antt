-- What a fetch's answer tells of its steps, what it leaves, and what it reads. Source: this project's own.
use Rattle.std.specs.Prelude.{◌≡◌, ◌≢◌, ℕ, ◌+◌, ◌<◌, ◌≤◌, List, [], ◌∷◌, ◌++◌, ◌⊎◌, Option, Some, IsSomeAnd, slice_index}
use Rattle.buffer_word.specs.declared.key_word.Key.{Key}
use Rattle.outside.specs.declared.file_ref.FileRange.{FileRange}
use Rattle.outside.specs.declared.file_ref.FileRef.{FileRef}
use Rattle.outside.specs.Told.{Extended}
use Rattle.pool_model.specs.declared.block.Block.{Block}
use Rattle.pool_model.specs.Content.{Files}
use Rattle.pool_rule.specs.declared.geometry.Geometry.{Geometry}
use Rattle.pool_rule.specs.declared.geometry.WordName.TheVariants.{State}
use Rattle.pool_rule.specs.declared.view.View.{View}
use Rattle.pool_rule.specs.declared.word_step.WordStep.{WordStep}
use Rattle.pool_rule.specs.declared.word_step.WordStep.TheVariants.{Missed, Granted, Opened}
use Rattle.pool_rule.specs.Layout.{header_word}
use Rattle.buffer_pool.specs.declared.pool.Pool.{Pool}
use Rattle.buffer_pool.specs.declared.seat.PoolSeat.{PoolSeat}
use Rattle.buffer_pool.specs.Pools.{seat_id, sizes_of, view}
use Rattle.cache_lookup.specs.Before.{IsAsBefore}
use Rattle.cache_lookup.specs.LookUps.{IsBusy, IsLookStep, IsMissing}
use Rattle.cache_lookup.specs.Right.{AreRight}
use Rattle.cache_lookup.specs.Sets.{IsWay}
use Rattle.cache_lookup.specs.Trails.{Among, events, first_load, last_load}
use Rattle.cache_placement.specs.declared.why.Why.TheVariants.{NoRoom, Raced, Busy, SetFull, PolicyOut}
use Rattle.cache_placement.specs.Free.{IsOrder}
use Rattle.cache_placement.specs.Placements.{HasNoRoom, IsArenaRaced, IsHeaderRaced}
use Rattle.cache_lookup.specs.Sets.{first_way}
use Rattle.cache_placement.specs.Publications.{publications}
use Rattle.range_cache.specs.declared.ranged.How.{How}
use Rattle.range_cache.specs.declared.ranged.How.TheVariants.{Hit, Filled, Bypass}
use Rattle.range_cache.specs.declared.ranged.Ranged.{Ranged}
use Rattle.range_cache.specs.Exact.{IsExact}
use Rattle.range_cache.specs.Ranges.{IsHit, Leaves}

-- the key is a range of the file
pub record IsOfFile (key : Key) (file : FileRef) : Type 0 where
  pub number : key.file ≡ file.number
  pub range : key.at + key.len ≤ file.len

-- ---- what each answer tells

-- in each way a load showed another key word, or a state that is evicted or released
abbrev pub IsNowhere : Geometry → Key → List WordStep → Type 0
IsNowhere g key ss = (header : ℕ) → IsWay g key header → IsMissing key ss header

-- the first load of each way's state gave another word than that of a released header without a count, and these are the last
-- words that loads gave
pub record IsSetFull (g : Geometry) (key : Key) (ss : List WordStep) (states : List ℕ) : Type 0 where
  pub first : (way : ℕ) → way < 8 → IsSomeAnd (first_load (header_word g (first_way g key + way)) (events g ss)) (λ word. word ≢ 8)
  pub last : (way : ℕ) → way < 8 → last_load (header_word g (first_way g key + way)) (events g ss) ≡ Some (slice_index states way)

-- the last loads of the arenas' words show no free block of the order of the key's length
abbrev pub IsNoRoom : Geometry → Key → List WordStep → List ℕ → Type 0
IsNoRoom g key ss words = (order : ℕ) × IsOrder g key.len order × HasNoRoom g order 0 g.arenas ss words

-- The exchange on a way's state gave this word, not that of a released header without a count, which the first load of the state
-- had shown.
pub record IsWayRaced (g : Geometry) (key : Key) (ss : List WordStep) (saw : ℕ) : Type 0 where
  pub header : ℕ
  pub way : IsWay g key header
  pub raced : IsHeaderRaced header ss saw
  pub first : first_load (header_word g header) (events g ss) ≡ Some 8

abbrev pub Tells : Geometry → Key → List WordStep → How → Type 0
Tells g key ss Hit = Unit {0}
Tells g key ss Filled = IsNowhere g key ss
Tells g key ss (Bypass (NoRoom words)) = IsNowhere g key ss × IsNoRoom g key ss words
Tells g key ss (Bypass (Raced saw)) = IsNowhere g key ss × (IsArenaRaced g ss saw ⊎ IsWayRaced g key ss saw)
Tells g key ss (Bypass (Busy word)) = IsBusy g key ss word
Tells g key ss (Bypass (SetFull states)) = IsNowhere g key ss × IsSetFull g key ss states
Tells g key ss (Bypass PolicyOut) = ⊥

abbrev pub IsFilled : How → Type 0
IsFilled Hit = ⊥
IsFilled Filled = Unit {0}
IsFilled (Bypass why) = ⊥

-- how many buffers an answer stands for: what was filled was published, and nothing else was
abbrev pub made_by : How → ℕ
made_by Hit = 0
made_by Filled = 1
made_by (Bypass why) = 0

-- the answer is that the header was lost, by an exchange among these steps
abbrev pub IsLost : List WordStep → How → Type 0
IsLost ss how = (header saw : ℕ) × (how ≡ Bypass (Raced saw)) × Among (Missed (State header) saw) ss

-- The seat fetched a range by these steps, with that answer, and its trail grew by them and by no others. A pin of the key makes it a
-- hit; a grant makes it filled, or the header was lost; an opening makes it filled; and one buffer is published where it is filled, and
-- else none. If the seat knows the words, the answer follows from them.
pub record IsFetch (files : Option Files) (g : Geometry) (id : ℕ) (key : Key) (ss : List WordStep) (old new : View)
    (ranged : Ranged) : Type 0 where
  pub right : AreRight files g id key (IsHit ranged.how) old [] old ss new
  pub leaves : Leaves old new ranged
  pub tells : Tells g key ss ranged.how
  pub granted : (b : Block) (found : ℕ) → Among (Granted b found) ss → IsFilled ranged.how ⊎ IsLost ss ranged.how
  pub opened : (header : ℕ) (b : Block) (cells : List ℕ) → Among (Opened header b cells) ss → IsFilled ranged.how
  pub published : publications ss ≡ made_by ranged.how
  pub trail : new.trail ≡ old.trail ++ events g ss
  pub exact : (words : List ℕ) → old.known ≡ Some words → IsExact g key words new ranged.how

-- A fetch whose read failed made loads alone, and counts that it took back, and its trail grew by these: the seat has what it had. If
-- it knows the words, they are as they were.
pub record IsFailedFetch (files : Option Files) (g : Geometry) (id : ℕ) (key : Key) (ss : List WordStep) (old new : View) : Type 0 where
  pub right : AreRight files g id key ⊥ old [] old ss new
  pub only : (s : WordStep) → Among s ss → IsLookStep s
  pub trail : new.trail ≡ old.trail ++ events g ss
  pub leaves : IsAsBefore old new
  pub words : (words : List ℕ) → old.known ≡ Some words → new.known ≡ Some words

-- some steps did
abbrev pub Fetches : {W : Type 0} → Option Files → Pool W → PoolSeat W → PoolSeat W → Key → Ranged → Type 0
Fetches files pool old new key ranged =
    (ss : List WordStep) × IsFetch files (sizes_of pool) (seat_id old) key ss (view old) (view new) ranged

abbrev pub FailsToFetch : {W : Type 0} → Option Files → Pool W → PoolSeat W → PoolSeat W → Key → Type 0
FailsToFetch files pool old new key = (ss : List WordStep)
    × IsFailedFetch files (sizes_of pool) (seat_id old) key ss (view old) (view new)

-- ---- what is read of the store

-- nothing for a hit, and else the range, once
abbrev pub Reads : Option (List FileRange) → Option (List FileRange) → FileRange → How → Type 0
Reads before after range Hit = after ≡ before
Reads before after range Filled = Extended before after (range ∷ [])
Reads before after range (Bypass why) = Extended before after (range ∷ [])

-- A fetch by a seat that knows the words: nobody else makes a step, and the answer follows from the words. Source: this project's own.
use Rattle.std.specs.Prelude.{◌≡◌, ◌≢◌, ℕ, ◌+◌, ◌<◌, List, Some, None, slice_index}
use Rattle.buddy_arena.specs.Buddy.{IsBuddyAnswer}
use Rattle.buffer_word.specs.declared.key_word.Key.{Key}
use Rattle.pool_rule.specs.declared.geometry.Geometry.{Geometry}
use Rattle.pool_rule.specs.declared.view.View.{View}
use Rattle.buffer_pool.specs.Made.{IsLiveWord}
use Rattle.cache_lookup.specs.Exact.{IsFirstWith, IsWithout, state_in}
use Rattle.cache_lookup.specs.Sets.{first_way}
use Rattle.cache_placement.specs.declared.why.Why.TheVariants.{NoRoom, Raced, Busy, SetFull, PolicyOut}
use Rattle.cache_placement.specs.Exact.{IsFirstArena}
use Rattle.cache_placement.specs.Free.{IsOrder}
use Rattle.range_cache.specs.declared.ranged.How.{How}
use Rattle.range_cache.specs.declared.ranged.How.TheVariants.{Hit, Filled, Bypass}

-- by the words no way of the key's set has the key
abbrev pub IsInNoWay : Geometry → Key → List ℕ → Type 0
IsInNoWay g key words = (way : ℕ) → way < 8 → IsWithout g key words (first_way g key + way)

-- by the words it is the lowest way of the key's set that is released, without a count
pub record IsFreeWay (g : Geometry) (key : Key) (words : List ℕ) (way : ℕ) : Type 0 where
  pub inside : way < 8
  pub free : state_in g words (first_way g key + way) ≡ 8
  pub lowest : (lower : ℕ) → lower < way → state_in g words (first_way g key + lower) ≢ 8

abbrev pub HasFreeWay : Geometry → Key → List ℕ → Type 0
HasFreeWay g key words = (way : ℕ) × IsFreeWay g key words way

-- the first arena with a free block of the order of the key's length
abbrev pub HasArena : Geometry → Key → List ℕ → Type 0
HasArena g key words = (order arena offset : ℕ) × IsOrder g key.len order × IsFirstArena order words 0 g.arenas arena offset

-- no arena has one
abbrev pub HasNoArena : Geometry → Key → List ℕ → Type 0
HasNoArena g key words = (order : ℕ) × IsOrder g key.len order
    × ((arena : ℕ) → arena < g.arenas → IsBuddyAnswer 64 (slice_index words arena) order None)

-- The first way that has the key decides: a hit if it is live, and else busy with its state. Where no way has it, the lowest free way
-- and the first arena with a block are taken, if there are both. Nothing is lost to another seat, and a bypass leaves the words as
-- they were.
abbrev pub IsExact : Geometry → Key → List ℕ → View → How → Type 0
IsExact g key words new Hit = (way : ℕ) × IsFirstWith g key words (first_way g key) 0 way
    × IsLiveWord (state_in g words (first_way g key + way))
IsExact g key words new Filled = IsInNoWay g key words × HasFreeWay g key words × HasArena g key words
IsExact g key words new (Bypass (Busy word)) =
    (way : ℕ) × IsFirstWith g key words (first_way g key) 0 way × (word ≡ state_in g words (first_way g key + way))
    × (IsLiveWord word → ⊥) × (new.known ≡ Some words)
IsExact g key words new (Bypass (SetFull states)) =
    IsInNoWay g key words × ((way : ℕ) → way < 8 → state_in g words (first_way g key + way) ≢ 8) × (new.known ≡ Some words)
IsExact g key words new (Bypass (NoRoom seen)) = IsInNoWay g key words × HasFreeWay g key words × HasNoArena g key words
    × (new.known ≡ Some words)
IsExact g key words new (Bypass (Raced saw)) = ⊥
IsExact g key words new (Bypass PolicyOut) = ⊥

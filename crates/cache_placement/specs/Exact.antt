-- A placement by a seat that knows the words: which answer comes, by the words alone. Source: this project's own.
use Rattle.std.specs.Prelude.{◌≡◌, ℕ, ◌+◌, ◌*◌, ◌<◌, ◌≤◌, List, Some, None, slice_index}
use Rattle.buddy_arena.specs.Buddy.{IsBuddyAnswer}
use Rattle.pool_rule.specs.declared.geometry.Geometry.{Geometry}
use Rattle.pool_rule.specs.declared.view.View.{View}
use Rattle.pool_rule.specs.Layout.{header_word}
use Rattle.buffer_pool.specs.Pools.{block_at, pin_block, pin_header}
use Rattle.cache_placement.specs.declared.why.Placed.{Placed}
use Rattle.cache_placement.specs.declared.why.Placed.TheVariants.{Filled, Bypass}
use Rattle.cache_placement.specs.declared.why.Why.TheVariants.{NoRoom, Raced, Busy, SetFull, PolicyOut}
use Rattle.cache_placement.specs.Free.{IsFirstFree}

-- the first arena, from one on and below another, whose word has a free block of the order, and where
pub record IsFirstArena (order : ℕ) (words : List ℕ) (from until arena offset : ℕ) : Type 0 where
  pub inside : arena < until
  pub answer : IsBuddyAnswer 64 (slice_index words arena) order (Some offset)
  pub before : (lower : ℕ) → from ≤ lower → lower < arena → IsBuddyAnswer 64 (slice_index words lower) order None

-- the states are those that the words have
abbrev pub AreStates : Geometry → List ℕ → ℕ → List ℕ → Type 0
AreStates g words first states = (way : ℕ) → way < 8 → slice_index states way ≡ slice_index words (header_word g (first + way))

-- The range is filled in the lowest free way, with the block of the first arena that has one; or the answer shows that there is
-- no way or no arena, and the words are as they were. Nothing is lost to another seat.
abbrev pub IsExact : Geometry → ℕ → List ℕ → ℕ → List ℕ → ℕ → ℕ → View → Placed → Type 0
IsExact g order words first states from until new (Filled pin) =
    (way arena offset : ℕ) × IsFirstFree states way × IsFirstArena order words from until arena offset × (pin_header pin ≡ first + way)
    × (pin_block pin ≡ block_at (64 * arena + offset) order)
IsExact g order words first states from until new (Bypass (NoRoom seen)) =
    ((way : ℕ) × IsFirstFree states way) × ((arena : ℕ) → from ≤ arena → arena < until → slice_index seen arena ≡ slice_index words arena)
    × (new.known ≡ Some words)
IsExact g order words first states from until new (Bypass (SetFull seen)) = new.known ≡ Some words
IsExact g order words first states from until new (Bypass (Raced saw)) = ⊥
IsExact g order words first states from until new (Bypass (Busy word)) = ⊥
IsExact g order words first states from until new (Bypass PolicyOut) = ⊥

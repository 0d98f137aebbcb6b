-- A look-up by a seat that knows the words: which answer comes, by the words alone. Source: this project's own.
use Rattle.std.specs.Prelude.{◌≡◌, ◌≢◌, ℕ, ◌+◌, ◌%◌, ◌^◌, ◌<◌, ◌≤◌, List, ◌⊎◌, Some, slice_index, slice_set}
use Rattle.buffer_word.specs.declared.key_word.Key.{Key}
use Rattle.buffer_word.specs.declared.state_word.Mode.TheVariants as mode
use Rattle.buffer_word.specs.KeyWord.{key_word}
use Rattle.pool_rule.specs.declared.geometry.Geometry.{Geometry}
use Rattle.pool_rule.specs.declared.view.View.{View}
use Rattle.pool_rule.specs.Layout.{header_word}
use Rattle.buffer_pool.specs.Made.{IsLiveWord}
use Rattle.buffer_pool.specs.Pools.{pin_header}
use Rattle.cache_lookup.specs.declared.ways.Found.{Found}
use Rattle.cache_lookup.specs.declared.ways.Found.TheVariants.{Hit, Busy, Missing}
use Rattle.cache_lookup.specs.Right.{HasMode}

-- the state of a header
abbrev pub state_in : Geometry → List ℕ → ℕ → ℕ
state_in g words header = slice_index words (header_word g header)

-- by the words the header hasn't the key: its key word is another, or its buffer is evicted, or it is released
abbrev pub IsWithout : Geometry → Key → List ℕ → ℕ → Type 0
IsWithout g key words header =
    (slice_index words (header_word g header + 1) ≢ key_word key)
    ⊎ (HasMode (state_in g words header) mode.Evicted ⊎ HasMode (state_in g words header) mode.Released)

-- the first of the ways from header `first` on that has the key, counted from way `from` on
pub record IsFirstWith (g : Geometry) (key : Key) (words : List ℕ) (first from way : ℕ) : Type 0 where
  pub inside : way < 8
  pub has : slice_index words (header_word g (first + way) + 1) ≡ key_word key
  pub before : (lower : ℕ) → from ≤ lower → lower < way → IsWithout g key words (first + lower)

-- The first way that has the key decides: it is pinned if it is live, and then its count is one more; else it is busy with that
-- state, and the words are as they were. Where no way has it, `states` are the ways' states, and the words are as they were.
abbrev pub IsExact : Geometry → Key → List ℕ → ℕ → ℕ → List ℕ → View → Found → Type 0
IsExact g key words first from states new (Hit pin) =
    (way : ℕ) × IsFirstWith g key words first from way × (pin_header pin ≡ first + way) × IsLiveWord (state_in g words (first + way))
    × (new.known ≡ Some (slice_set words (header_word g (first + way)) ((state_in g words (first + way) + 16) % 2 ^ 64)))
IsExact g key words first from states new (Busy word) =
    (way : ℕ) × IsFirstWith g key words first from way × (word ≡ state_in g words (first + way)) × (IsLiveWord word → ⊥)
    × (new.known ≡ Some words)
IsExact g key words first from states new Missing =
    ((way : ℕ) → from ≤ way → way < 8 → IsWithout g key words (first + way) × (slice_index states way ≡ state_in g words (first + way)))
    × (new.known ≡ Some words)

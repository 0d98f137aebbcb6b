-- The protocol by which a range is placed, branch by branch.
use Rattle.std.specs.Prelude.{◌≡◌, ◌≢◌, ℕ, ◌+◌, ◌*◌, ◌-◌, ◌^◌, ◌<◌, ◌≤◌, List, [], ◌∷◌, ◌++◌, Option, Some, None, slice_index}
use Rattle.buddy_arena.specs.Buddy.{IsBuddyAnswer}
use Rattle.buffer_word.specs.declared.key_word.Key.{Key}
use Rattle.pool_model.specs.declared.block.Block.{Block}
use Rattle.pool_model.specs.Content.{Files}
use Rattle.pool_rule.specs.declared.geometry.Geometry.{Geometry}
use Rattle.pool_rule.specs.declared.geometry.WordName.TheVariants.{Arena, State}
use Rattle.pool_rule.specs.declared.view.View.{View}
use Rattle.pool_rule.specs.declared.word_step.WordStep.{WordStep}
use Rattle.pool_rule.specs.declared.word_step.WordStep.TheVariants.{Looked, Missed, Granted, Returned, Opened, Named, Published}
use Rattle.buffer_pool.specs.declared.token.Grant.{Grant}
use Rattle.buffer_pool.specs.declared.token.Pin.{Pin}
use Rattle.buffer_pool.specs.declared.pool.Pool.{Pool}
use Rattle.buffer_pool.specs.declared.seat.PoolSeat.{PoolSeat}
use Rattle.buffer_pool.specs.Made.{AreMade, cell_in, fill_steps}
use Rattle.buffer_pool.specs.Pools.{IsGrantOf, block_at, block_of, buffer_key, pin_block, pin_header}
use Rattle.cache_placement.specs.declared.arenas.Asked.{Asked}
use Rattle.cache_placement.specs.declared.arenas.Asked.TheVariants.{Got, Full}
use Rattle.cache_placement.specs.declared.arenas.Asked.TheVariants as asked
use Rattle.cache_placement.specs.declared.why.Placed.{Placed}
use Rattle.cache_placement.specs.declared.why.Placed.TheVariants.{Filled, Bypass}
use Rattle.cache_placement.specs.declared.why.Why.TheVariants.{NoRoom, Raced, SetFull}
use Rattle.cache_placement.specs.Free.{IsFirstFree, NoneFree}

-- the arenas from one on, below number `until`, are asked in order; `words` has each word that was loaded
pub data AskSteps (g : Geometry) (order : ℕ) (words : List ℕ) (until : ℕ) : ℕ → List WordStep → Asked → Type 0 where
  none_left : (arena : ℕ) → arena ≡ until → AskSteps g order words until arena [] Full
  full : (arena word : ℕ) (ss : List WordStep) (r : Asked) → arena < until → IsBuddyAnswer 64 word order None
      → slice_index words arena ≡ word
      → AskSteps g order words until (arena + 1) ss r → AskSteps g order words until arena (Looked (Arena arena) word ∷ ss) r
  got : (arena word offset : ℕ) (grant : Grant) → arena < until → IsBuddyAnswer 64 word order (Some offset)
      → block_of grant ≡ block_at (64 * arena + offset) order
      → AskSteps g order words until arena (Looked (Arena arena) word ∷ Granted
      (block_at (64 * arena + offset) order) word ∷ []) (Got grant)
  raced : (arena word saw : ℕ) → arena < until → saw ≢ word
      → AskSteps g order words until arena (Looked (Arena arena) word ∷ Missed (Arena arena) saw ∷ []) (asked.Raced saw)

-- the header is lost and the block given back; or it is opened, named, filled and published
pub data OpenSteps (key : Key) (header : ℕ) (b : Block) : List WordStep → Placed → Type 0 where
  lost : (saw found : ℕ) → saw ≢ 8 → OpenSteps key header b (Missed (State header) saw ∷ Returned b found ∷ []) (Bypass (Raced saw))
  filled : (cells bytes found : List ℕ) (named published : ℕ) (pin : Pin) → pin_header pin ≡ header → pin_block pin ≡ b
      → OpenSteps key header b (Opened header b cells ∷ Named header b (buffer_key key) named ∷
      (fill_steps header b (buffer_key key) (cell_in bytes) 0 found
      ++ Published header b (buffer_key key) published ∷ [])) (Filled pin)

-- a header, a block, and a buffer of both
pub data PlaceSteps (g : Geometry) (key : Key) (order first : ℕ) (states : List ℕ) (from until : ℕ) : List WordStep → Placed → Type 0 where
  set_full : NoneFree states → PlaceSteps g key order first states from until [] (Bypass (SetFull states))
  no_room : (way : ℕ) (words : List ℕ) (ss : List WordStep) → IsFirstFree states way → AskSteps g order words until from ss Full
      → ((i : ℕ) → until ≤ i → i < 64 → slice_index words i ≡ 2 ^ 64 - 1)
      → PlaceSteps g key order first states from until ss (Bypass (NoRoom words))
  arena_raced : (way saw : ℕ) (words : List ℕ) (ss : List WordStep) → IsFirstFree states way
      → AskSteps g order words until from ss (asked.Raced saw)
      → PlaceSteps g key order first states from until ss (Bypass (Raced saw))
  opens : (way : ℕ) (words : List ℕ) (grant : Grant) (ss ts : List WordStep) (r : Placed) → IsFirstFree states way
      → AskSteps g order words until from ss (Got grant)
      → OpenSteps key (first + way) (block_of grant) ts r → PlaceSteps g key order first states from until (ss ++ ts) r

-- ---- the seat made such steps

abbrev pub Asks : Option Files → Geometry → ℕ → ℕ → List ℕ → ℕ → ℕ → View → View → Asked → Type 0
Asks files g id order words until arena old new r =
    (ss : List WordStep) × AreMade files g id ss old new × AskSteps g order words until arena ss r

abbrev pub Opens : Option Files → Geometry → ℕ → Key → ℕ → Block → View → View → Placed → Type 0
Opens files g id key header b old new r = (ss : List WordStep) × AreMade files g id ss old new × OpenSteps key header b ss r

abbrev pub Places : Option Files → Geometry → ℕ → Key → ℕ → ℕ → List ℕ → ℕ → ℕ → View → View → Placed → Type 0
Places files g id key order first states from until old new r = (ss : List WordStep) × AreMade files g id ss old new
    × PlaceSteps g key order first states from until ss r

-- the block that was got is a token of the seat's, of that order
abbrev pub HoldsAsked : {W : Type 0} → Pool W → PoolSeat W → ℕ → Asked → Type 0
HoldsAsked pool seat order (Got grant) = IsGrantOf pool seat grant × ((block_of grant).order ≡ order)
HoldsAsked pool seat order (asked.Raced saw) = Unit {0}
HoldsAsked pool seat order Full = Unit {0}

-- Several steps of a seat in a row, and what each step has to do with.
use Rattle.std.specs.Prelude.{◌≡◌, ◌≢◌, ℕ, ◌+◌, ◌*◌, ◌/◌, ◌%◌, ◌^◌, max, nat_eq, if◌then◌else◌, drop}
use Rattle.std.specs.Prelude.{slice_index, List, [], ◌∷◌, Option, Some, None, Result, Ok, Err, ◌⊎◌}
use Rattle.std.specs.Int.{from_le_bytes, to_le_bytes, w64}
use Rattle.buffer_word.specs.declared.key_word.Key.{Key}
use Rattle.buffer_word.specs.KeyWord.{key_word}
use Rattle.pool_model.specs.declared.block.Block.{Block}
use Rattle.pool_model.specs.declared.buffer.BufferKey.{BufferKey}
use Rattle.pool_model.specs.Content.{Files}
use Rattle.pool_rule.specs.declared.geometry.Geometry.{Geometry}
use Rattle.pool_rule.specs.declared.geometry.WordName.{WordName}
use Rattle.pool_rule.specs.declared.geometry.WordName.TheVariants as name
use Rattle.pool_rule.specs.declared.view.View.{View}
use Rattle.pool_rule.specs.declared.word_step.WordStep.{WordStep}
use Rattle.pool_rule.specs.declared.word_step.WordStep.TheVariants.{Looked, LookedAtCell, Missed, Granted, Returned}
use Rattle.pool_rule.specs.declared.word_step.WordStep.TheVariants.{Opened, Named, Filled, Published, Counted}
use Rattle.pool_rule.specs.declared.word_step.WordStep.TheVariants.{Uncounted, EvictBegun, HeaderReleased, Updated}
use Rattle.pool_rule.specs.WordSteps.{IsIdleWord, IsMade, block_in}
use Rattle.buffer_pool.specs.declared.fault.Held.{Held}
use Rattle.buffer_pool.specs.declared.fault.NotPinned.{NotPinned}
use Rattle.buffer_pool.specs.declared.fault.NotPinned.TheVariants.{Busy, Other}
use Rattle.buffer_pool.specs.declared.token.Evicting.{Evicting}
use Rattle.buffer_pool.specs.declared.pool.Pool.{Pool}
use Rattle.buffer_pool.specs.declared.seat.PoolSeat.{PoolSeat}
use Rattle.buffer_pool.specs.Pools.{evicting_block, seat_id, sizes_of, view}

-- the seat made these steps, one after the other, and no others
abbrev pub AreMade : Option Files → Geometry → ℕ → List WordStep → View → View → Type 0
AreMade files g id [] old new = new ≡ old
AreMade files g id (s ∷ ss) old new = (mid : View) × IsMade files g id s old mid × AreMade files g id ss mid new

-- the seat of a pool made this step
abbrev pub Makes : {W : Type 0} → Option Files → Pool W → PoolSeat W → PoolSeat W → WordStep → Type 0
Makes files pool old new s = IsMade files (sizes_of pool) (seat_id old) s (view old) (view new)

-- and these, one after the other
abbrev pub MakesAll : {W : Type 0} → Option Files → Pool W → PoolSeat W → PoolSeat W → List WordStep → Type 0
MakesAll files pool old new ss = AreMade files (sizes_of pool) (seat_id old) ss (view old) (view new)

-- ---- what a step has to do with

-- the header whose pin, bid or claim a step may change
abbrev pub header_of_word : WordName → Option ℕ
header_of_word (name.Arena i) = None
header_of_word (name.State header) = None
header_of_word (name.KeyOf header) = Some header
header_of_word (name.Touches header) = None
header_of_word (name.Last header) = None
header_of_word name.Clock = None

abbrev pub header_of : WordStep → Option ℕ
header_of (Looked word found) = header_of_word word
header_of (LookedAtCell cell found) = None
header_of (Missed word found) = None
header_of (Granted b found) = None
header_of (Returned b found) = None
header_of (Opened header b cells) = Some header
header_of (Named header b key found) = Some header
header_of (Filled header b key done value found) = Some header
header_of (Published header b key found) = Some header
header_of (Counted header found) = Some header
header_of (Uncounted header found) = Some header
header_of (EvictBegun header found) = Some header
header_of (HeaderReleased header b found) = Some header
header_of (Updated word found left) = None

-- the place whose granted block a step may change
abbrev pub place_of : WordStep → Option ℕ
place_of (Looked word found) = None
place_of (LookedAtCell cell found) = None
place_of (Missed word found) = None
place_of (Granted b found) = Some b.place
place_of (Returned b found) = Some b.place
place_of (Opened header b cells) = Some b.place
place_of (Named header b key found) = None
place_of (Filled header b key done value found) = None
place_of (Published header b key found) = None
place_of (Counted header found) = None
place_of (Uncounted header found) = None
place_of (EvictBegun header found) = None
place_of (HeaderReleased header b found) = Some b.place
place_of (Updated word found left) = None

-- ---- the steps of calls

-- a cell of bytes: the eight from byte 8 * j on, little endian, and zeros past the end
unfoldable pub cell_in : List ℕ → ℕ → ℕ
cell_in bytes j = from_le_bytes w64 (drop (8 * j) bytes)

-- The steps that fill the cells of a key from number `done` on, each with the value that `cell` gives it. The words that
-- they found are as many as the cells.
abbrev pub fill_steps : ℕ → Block → BufferKey → (ℕ → ℕ) → ℕ → List ℕ → List WordStep
fill_steps header b key cell done [] = []
fill_steps header b key cell done (found ∷ rest) = Filled header b key done (cell done) found ∷ fill_steps header b key cell (done + 1) rest

-- the steps of a touch at a tick, with the words that they found
abbrev pub touch_steps : ℕ → ℕ → ℕ → ℕ → List WordStep
touch_steps header tick touches last =
    Updated (name.Touches header) touches ((touches + 1) % 2 ^ 64) ∷ Updated (name.Last header) last (max last tick) ∷ []

-- how many cells hold a byte of a range that begins `skip` bytes into the first of them
abbrev pub cells_touched : ℕ → ℕ → ℕ
cells_touched skip len = if nat_eq len 0 then 0 else (skip + len + 7) / 8

-- byte n of cells: eight in each, the lowest first
abbrev pub byte_of : List ℕ → ℕ → ℕ
byte_of cells n = slice_index (to_le_bytes w64 (slice_index cells (n / 8))) (n % 8)

-- the steps that load cells from one on, one for each word that was found
abbrev pub load_steps : ℕ → List ℕ → List WordStep
load_steps cell [] = []
load_steps cell (found ∷ rest) = LookedAtCell cell found ∷ load_steps (cell + 1) rest

-- a state word without a flag is that of a live buffer
abbrev pub IsLiveWord : ℕ → Type 0
IsLiveWord word = word % 16 ≡ 0

-- The steps of a pin, by its answer. A count is added; it holds where the word was that of a live buffer, and then the key
-- word is loaded. Where the word wasn't, or the key is another, the count is taken back.
abbrev pub Pins : {T : Type 0} → Option Files → Geometry → ℕ → ℕ → Key → View → View → Result T NotPinned → Type 0
Pins files g id header key old new (Ok pin) =
    (word : ℕ) × IsLiveWord word × AreMade files g id (Counted header word ∷ Looked (name.KeyOf header) (key_word key) ∷ []) old new
Pins files g id header key old new (Err (Busy word)) =
    (found : ℕ) × (IsLiveWord word → ⊥) × AreMade files g id (Counted header word ∷ Uncounted header found ∷ []) old new
Pins files g id header key old new (Err (Other other)) =
    (word : ℕ) × (found : ℕ) × IsLiveWord word × (other ≢ key_word key)
    × AreMade files g id (Counted header word ∷ Looked (name.KeyOf header) other ∷ Uncounted header found ∷ []) old new

-- The steps of an eviction's beginning, by its answer. The state is loaded, and if it is that of a live buffer without a count,
-- one exchange from that word decides; the buffer's block is the word's. It is refused where either gave another word.
abbrev pub Evicts : Option Files → Geometry → ℕ → ℕ → View → View → Result Evicting Held → Type 0
Evicts files g id header old new (Ok evicting) =
    (word : ℕ) × IsIdleWord word × (evicting_block evicting ≡ block_in word)
    × AreMade files g id (Looked (name.State header) word ∷ EvictBegun header word ∷ []) old new
Evicts files g id header old new (Err held) =
    ((IsIdleWord held.word → ⊥) × AreMade files g id (Looked (name.State header) held.word ∷ []) old new)
    ⊎ ((word : ℕ) × IsIdleWord word × (held.word ≢ word)
    × AreMade files g id (Looked (name.State header) word ∷ Missed (name.State header) held.word ∷ []) old new)

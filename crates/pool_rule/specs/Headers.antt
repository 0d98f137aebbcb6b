-- When the words of a header, and what each seat has of it, stand for its buffer. Source: this project's own.
use Rattle.std.specs.Prelude.{◌≡◌, ℕ, ◌+◌, ◌*◌, ◌<◌, List, length, Option, None, Some, IfSome, IsSomeAnd, slice_index}
use Rattle.pool_model.specs.declared.block.Block.{Block}
use Rattle.pool_model.specs.declared.buffer.Buffer.{Buffer}
use Rattle.pool_model.specs.declared.buffer.BufferKey.{BufferKey}
use Rattle.pool_model.specs.declared.buffer.BufferMode.{BufferMode}
use Rattle.pool_model.specs.declared.buffer.BufferMode.TheVariants as mode
use Rattle.pool_model.specs.declared.buffer.Target.{Target}
use Rattle.pool_model.specs.Buffer.{Holds}
use Rattle.buffer_word.specs.declared.key_word.Key.{Key}
use Rattle.buffer_word.specs.declared.state_word.Mode.{Mode}
use Rattle.buffer_word.specs.declared.state_word.Mode.TheVariants.{Released, New, Live, Moving, Evicted}
use Rattle.buffer_word.specs.KeyWord.{IsKey, key_word}
use Rattle.buffer_word.specs.StateWord.{word_of}
use Rattle.pool_rule.specs.declared.geometry.Geometry.{Geometry}
use Rattle.pool_rule.specs.declared.view.Claim.{Claim}
use Rattle.pool_rule.specs.declared.view.Claim.TheVariants.{Unclaimed, Fresh, Gone, Carried}
use Rattle.pool_rule.specs.declared.view.Hold.{Hold}
use Rattle.pool_rule.specs.declared.view.Hold.TheVariants.{Free, Bid, Pinned}
use Rattle.pool_rule.specs.declared.view.Mark.{Mark}
use Rattle.pool_rule.specs.Layout.{block_cells}

-- ---- the state word

-- the mode in the word of a buffer's mode
abbrev pub mode_of : BufferMode → Mode
mode_of mode.New = New
mode_of mode.Live = Live
mode_of mode.Moving = Moving
mode_of mode.Evicted = Evicted

-- the word of a header with that count and that buffer, or none: then it is released, with order and place 0
abbrev pub state_of : ℕ → Option Buffer → ℕ
state_of count None = word_of count Released 0 0
state_of count (Some b) = word_of count (mode_of b.mode) b.block.order b.block.place

-- a pin or a bid counts once
abbrev pub hold_count : Hold → ℕ
hold_count Free = 0
hold_count Bid = 1
hold_count (Pinned block key) = 1

-- ---- the key word and the cells

-- the key as its word packs it
abbrev pub packed : BufferKey → Key
packed k = record { file = k.file; at = k.at; len = k.len }

-- the block's cells stand in the words: `cell` gives each, counted over all minimum blocks
abbrev pub AreCells : Geometry → (ℕ → ℕ) → Block → List ℕ → Type 0
AreCells g cell b cells = (j : ℕ) → j < length cells → slice_index cells j ≡ cell (b.place * block_cells g + j)

-- what the words say of a buffer beside its state
pub record HasContent (g : Geometry) (key : ℕ) (cell : ℕ → ℕ) (b : Buffer) : Type 0 where
  pub key_packs : IfSome b.key (λ k. IsKey (packed k))
  pub key_is : IfSome b.key (λ k. key ≡ key_word (packed k))
  pub cells : AreCells g cell b.block b.cells
  pub target_cells : IfSome b.target (λ (t : Target). AreCells g cell t.block t.cells)

-- ---- what one seat has of a header

-- the seat holds the buffer
abbrev pub HeldBy : ℕ → Option Buffer → Type 0
HeldBy seat buffer = IsSomeAnd buffer (λ (b : Buffer). Holds seat b.holders)

-- the seat is the buffer's claimant
abbrev pub ClaimedBy : ℕ → Option Buffer → Type 0
ClaimedBy seat buffer = IsSomeAnd buffer (λ (b : Buffer). b.claimant ≡ Some seat)

-- the value, if it is known, is that one
abbrev pub IsKnown : {A : Type 0} → Option A → Option A → Type 0
IsKnown known value = IfSome known (λ k. value ≡ Some k)

-- A pin is one of the buffer's holders, and has its block, and its key if the key is known. Whoever has no pin is no holder.
abbrev pub HoldFits : ℕ → Option Buffer → Hold → Type 0
HoldFits seat buffer Free = HeldBy seat buffer → ⊥
HoldFits seat buffer Bid = HeldBy seat buffer → ⊥
HoldFits seat buffer (Pinned block key) = IsSomeAnd buffer (λ (b : Buffer). Holds seat b.holders × (b.block ≡ block) × IsKnown key b.key)

-- A claim is the buffer's, with block, target and number of cells done. A new one knows the key exactly where the buffer
-- has one; a moving one may know the key and the next cell. Whoever has no claim isn't the claimant.
abbrev pub ClaimFits : ℕ → Option Buffer → Claim → Type 0
ClaimFits seat buffer Unclaimed = ClaimedBy seat buffer → ⊥
ClaimFits seat buffer (Fresh block key done) =
    IsSomeAnd buffer (λ (b : Buffer). (b.mode ≡ mode.New) × (b.claimant ≡ Some seat) × (b.block ≡ block) × (b.key ≡ key) × (b.done ≡ done))
ClaimFits seat buffer (Gone block) =
    IsSomeAnd buffer (λ (b : Buffer). (b.mode ≡ mode.Evicted) × (b.claimant ≡ Some seat) × (b.block ≡ block))
ClaimFits seat buffer (Carried block target key done next) =
    IsSomeAnd buffer (λ (b : Buffer). (b.mode ≡ mode.Moving) × (b.claimant ≡ Some seat) × (b.block ≡ block)
    × IsSomeAnd b.target (λ (t : Target). t.block ≡ target) × IsKnown key b.key × (b.done ≡ done)
    × IfSome next (λ x. slice_index b.cells done ≡ x))

abbrev pub MarkFits : ℕ → Option Buffer → Mark → Type 0
MarkFits seat buffer m = HoldFits seat buffer m.hold × ClaimFits seat buffer m.claim

-- ---- the header

-- The words of a header are state and key; `count` is how many seats have a pin or a bid on it, and `marks` what each
-- seat has of it. They stand for that buffer, or none.
pub record IsHeader (g : Geometry) (state key : ℕ) (cell : ℕ → ℕ) (count : ℕ) (marks : ℕ → Mark) (buffer : Option Buffer) : Type 0 where
  pub state_is : state ≡ state_of count buffer
  pub content : IfSome buffer (HasContent g key cell)
  pub each_seat : (seat : ℕ) → MarkFits seat buffer (marks seat)

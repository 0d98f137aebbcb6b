-- When a pool is lawful. Source: this project's own.
use Rattle.std.specs.Prelude.{◌≡◌, ℕ, ◌≤◌, List, [], length, Option, None, IsSome, IsSomeAnd, MatchOption, IfSome}
use Rattle.pool_model.specs.declared.block.Block.{Block}
use Rattle.pool_model.specs.declared.buffer.Buffer.{Buffer}
use Rattle.pool_model.specs.declared.buffer.BufferKey.{BufferKey}
use Rattle.pool_model.specs.declared.buffer.BufferMode.{BufferMode}
use Rattle.pool_model.specs.declared.buffer.BufferMode.TheVariants.{New, Live, Moving, Evicted}
use Rattle.pool_model.specs.declared.buffer.Target.{Target}
use Rattle.pool_model.specs.declared.pool.PlainPool.{PlainPool}
use Rattle.pool_model.specs.declared.setting.Setting.{Setting}
use Rattle.pool_model.specs.Block.{IsBlock}
use Rattle.pool_model.specs.Buffer.{AreCellsOf, Fits}
use Rattle.pool_model.specs.Content.{IsRange, FirstCells, cells_of}
use Rattle.pool_model.specs.Pool.{buffer_at, grant_at, block_of, owners}

-- a buffer with a holder is live
abbrev pub HoldersFit : BufferMode → List ℕ → Type 0
HoldersFit Live holders = Unit {0}
HoldersFit New holders = holders ≡ []
HoldersFit Moving holders = holders ≡ []
HoldersFit Evicted holders = holders ≡ []

-- a live buffer has no claimant, and any other has one
abbrev pub ClaimFits : BufferMode → Option ℕ → Type 0
ClaimFits Live claimant = claimant ≡ None
ClaimFits New claimant = IsSome claimant
ClaimFits Moving claimant = IsSome claimant
ClaimFits Evicted claimant = IsSome claimant

-- a target is a block of the pool, of the order of its buffer's, with all its cells
pub record IsTarget (setting : Setting) (places : ℕ) (from : Block) (t : Target) : Type 0 where
  pub is_block : IsBlock setting.greatest_order places t.block
  pub same_order : t.block.order ≡ from.order
  pub all_cells : AreCellsOf setting t.block t.cells

-- a moving buffer has a target, and no other has one
abbrev pub TargetFits : Setting → ℕ → BufferMode → Block → Option Target → Type 0
TargetFits setting places Moving from target = IsSomeAnd target (IsTarget setting places from)
TargetFits setting places New from target = target ≡ None
TargetFits setting places Live from target = target ≡ None
TargetFits setting places Evicted from target = target ≡ None

-- a buffer that isn't new has a key, and a new one without a key has no cell done
abbrev pub HasKey : BufferMode → Option BufferKey → ℕ → Type 0
HasKey New key done = MatchOption key (done ≡ 0) (λ _. Unit {0})
HasKey Live key done = IsSome key
HasKey Moving key done = IsSome key
HasKey Evicted key done = IsSome key

-- Where told: all cells that the key of a live, moving or evicted buffer has are its content, and so are the first
-- `done` cells of a new buffer, and of a moving one's target.
abbrev pub HoldsContent : Setting → BufferMode → BufferKey → List ℕ → Option Target → ℕ → Type 0
HoldsContent setting New key cells target done = FirstCells setting.files key cells done
HoldsContent setting Live key cells target done = FirstCells setting.files key cells (cells_of key)
HoldsContent setting Evicted key cells target done = FirstCells setting.files key cells (cells_of key)
HoldsContent setting Moving key cells target done =
    FirstCells setting.files key cells (cells_of key) × IfSome target (λ t. FirstCells setting.files key t.cells done)

-- a key's block holds its length, where told it is a range of a file, and the cells hold its content
pub record IsKeyOf (setting : Setting) (b : Buffer) (key : BufferKey) : Type 0 where
  pub fits : Fits setting key b.block
  pub is_range : IsRange setting.files key
  pub content : HoldsContent setting b.mode key b.cells b.target b.done

pub record IsLawfulBuffer (setting : Setting) (places : ℕ) (b : Buffer) : Type 0 where
  pub is_block : IsBlock setting.greatest_order places b.block
  pub all_cells : AreCellsOf setting b.block b.cells
  pub holders : HoldersFit b.mode b.holders
  pub claim : ClaimFits b.mode b.claimant
  pub target : TargetFits setting places b.mode b.block b.target
  pub has_key : HasKey b.mode b.key b.done
  pub key : IfSome b.key (IsKeyOf setting b)

-- A pool is lawful where no minimum block is in two of its blocks, targets and grants, and each of its buffers and
-- grants is as it should be. That a header has one buffer at most, and a buffer one claimant and one target at most,
-- is their type.
pub record IsLawful (setting : Setting) (pool : PlainPool) : Type 0 where
  pub apart : (m : ℕ) → owners pool m ≤ 1
  pub buffers : (header : ℕ) → IfSome (buffer_at pool header) (IsLawfulBuffer setting (length pool.grants))
  pub grants : (place : ℕ) →
      IfSome (grant_at pool place) (λ g. IsBlock setting.greatest_order (length pool.grants) (block_of place g))

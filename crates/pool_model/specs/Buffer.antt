-- One buffer: what each step on it needs, and what it gives. Source: this project's own.
use Rattle.std.specs.Prelude.{◌≡◌, ◌==◌, ℕ, ◌+◌, ◌<◌, ◌≤◌, not, IsTrue, List, [], ◌∷◌, ◌++◌, length}
use Rattle.std.specs.Prelude.{filter, None, Some, IsSomeAnd, option_map, slice_index, slice_set}
use Rattle.std.specs.List.{list_any}
use Rattle.pool_model.specs.declared.block.Block.{Block}
use Rattle.pool_model.specs.declared.buffer.Buffer.{Buffer}
use Rattle.pool_model.specs.declared.buffer.BufferKey.{BufferKey}
use Rattle.pool_model.specs.declared.buffer.BufferMode.TheVariants.{New, Live, Moving, Evicted}
use Rattle.pool_model.specs.declared.buffer.Target.{Target}
use Rattle.pool_model.specs.declared.setting.Setting.{Setting}
use Rattle.pool_model.specs.Block.{bytes_in, cells_for}
use Rattle.pool_model.specs.Content.{IsRange, IsCell, cells_of}

-- the seat is one of the holders
abbrev pub Holds : ℕ → List ℕ → Type 0
Holds seat holders = IsTrue (list_any (λ s. s == seat) holders)

-- the block has room for the key's bytes
abbrev pub Fits : Setting → BufferKey → Block → Type 0
Fits setting key b = key.len ≤ bytes_in setting.min_block b

-- the cells are as many as the block has
abbrev pub AreCellsOf : Setting → Block → List ℕ → Type 0
AreCellsOf setting b cells = length cells ≡ cells_for (bytes_in setting.min_block b)

-- the seat has the buffer for itself
abbrev pub Claimed : ℕ → Buffer → Type 0
Claimed seat b = b.claimant ≡ Some seat

-- a cell of the key is still to be filled or copied, and none is
abbrev pub HasNext : Buffer → Type 0
HasNext b = IsSomeAnd b.key (λ key. b.done < cells_of key)

abbrev pub IsDone : Buffer → Type 0
IsDone b = IsSomeAnd b.key (λ key. b.done ≡ cells_of key)

-- Open: a new buffer, and then the steps on one buffer, each with what it needs

abbrev pub opened : Block → ℕ → List ℕ → Buffer
opened block seat cells =
    record { block = block; mode = New; key = None; cells = cells; holders = []; claimant = Some seat; target = None; done = 0 }

abbrev pub CanName : Setting → ℕ → BufferKey → Buffer → Type 0
CanName setting seat key b =
    (b.mode ≡ New) × Claimed seat b × (b.key ≡ None) × Fits setting key b.block × IsRange setting.files key

abbrev pub named : BufferKey → Buffer → Buffer
named key b = record b { key = Some key }

abbrev pub CanFill : Setting → ℕ → ℕ → Buffer → Type 0
CanFill setting seat value b =
    (b.mode ≡ New) × Claimed seat b × HasNext b × IsSomeAnd b.key (λ key. IsCell setting.files key b.done value)

abbrev pub filled : ℕ → Buffer → Buffer
filled value b = record b { cells = slice_set b.cells b.done value; done = b.done + 1 }

abbrev pub CanPublish : ℕ → Buffer → Type 0
CanPublish seat b = (b.mode ≡ New) × Claimed seat b × IsDone b

abbrev pub published : ℕ → Buffer → Buffer
published seat b = record b { mode = Live; claimant = None; holders = seat ∷ [] }

abbrev pub CanPin : ℕ → Buffer → Type 0
CanPin seat b = (b.mode ≡ Live) × (Holds seat b.holders → ⊥)

abbrev pub pinned : ℕ → Buffer → Buffer
pinned seat b = record b { holders = b.holders ++ seat ∷ [] }

abbrev pub CanUnpin : ℕ → Buffer → Type 0
CanUnpin seat b = Holds seat b.holders

abbrev pub unpinned : ℕ → Buffer → Buffer
unpinned seat b = record b { holders = filter (λ s. not (s == seat)) b.holders }

-- live, and nobody holds it
abbrev pub IsIdle : Buffer → Type 0
IsIdle b = (b.mode ≡ Live) × (b.holders ≡ [])

abbrev pub evicting : ℕ → Buffer → Buffer
evicting seat b = record b { mode = Evicted; claimant = Some seat }

abbrev pub CanRelease : ℕ → Buffer → Type 0
CanRelease seat b = (b.mode ≡ Evicted) × Claimed seat b

abbrev pub CanMove : Block → Buffer → Type 0
CanMove target b = IsIdle b × (target.order ≡ b.block.order)

abbrev pub moving : ℕ → Block → List ℕ → Buffer → Buffer
moving seat block cells b =
    record b { mode = Moving; claimant = Some seat; target = Some (record { block = block; cells = cells }); done = 0 }

abbrev pub CanCopy : ℕ → Buffer → Type 0
CanCopy seat b = (b.mode ≡ Moving) × Claimed seat b × HasNext b

-- the target with the next of the cells
abbrev pub copied_to : ℕ → List ℕ → Target → Target
copied_to done cells t = record t { cells = slice_set t.cells done (slice_index cells done) }

abbrev pub copied : Buffer → Buffer
copied b = record b { target = option_map (copied_to b.done b.cells) b.target; done = b.done + 1 }

abbrev pub CanSettle : ℕ → Buffer → Type 0
CanSettle seat b = (b.mode ≡ Moving) × Claimed seat b × IsDone b

-- live again, at the block and with the cells that are given
abbrev pub live_at : Block → List ℕ → Buffer → Buffer
live_at block cells b = record b { block = block; cells = cells; mode = Live; claimant = None; target = None }

abbrev pub CanCancel : ℕ → Buffer → Type 0
CanCancel seat b = (b.mode ≡ Moving) × Claimed seat b

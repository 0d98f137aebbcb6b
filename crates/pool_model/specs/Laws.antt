-- The laws of the pool.
use Rattle.std.specs.Prelude.{◌≡◌, ◌≢◌, ℕ, List, [], ◌∷◌, Some, IsSomeAnd, ◌⊎◌}
use Rattle.pool_model.specs.declared.buffer.Buffer.{Buffer}
use Rattle.pool_model.specs.declared.buffer.BufferMode.TheVariants.{Live}
use Rattle.pool_model.specs.declared.pool.PlainPool.{PlainPool}
use Rattle.pool_model.specs.declared.setting.Setting.{Setting}
use Rattle.pool_model.specs.declared.step.Step.{Step}
use Rattle.pool_model.specs.declared.step.Step.TheVariants.{Grant, Ungrant, Open, Name, Fill, Publish, Pin, Unpin}
use Rattle.pool_model.specs.declared.step.Step.TheVariants.{BeginEvict, Release, BeginMove, Copy, Settle, Cancel}
use Rattle.pool_model.specs.Block.{Within}
use Rattle.pool_model.specs.Buffer.{Holds}
use Rattle.pool_model.specs.Lawful.{IsLawful}
use Rattle.pool_model.specs.Parts.{Has, buffer_block, buffer_target, IsOwnedOnce, OwnersCountParts}
use Rattle.pool_model.specs.Pool.{buffer_at, grant_at, empty_pool}
use Rattle.pool_model.specs.declared.pool.GrantedBlock.{GrantedBlock}
use Rattle.pool_model.specs.Step.{IsRun, Needs, after}

-- the header's buffer has a holder
abbrev pub IsHeld : PlainPool → ℕ → Type 0
IsHeld p header = IsSomeAnd (buffer_at p header) (λ (b : Buffer). b.holders ≢ [])

-- the step moves, evicts or grants minimum block m
abbrev pub Takes : Step → PlainPool → ℕ → Type 0
Takes (Grant seat b) p m = Within b m
Takes (BeginEvict seat header) p m = Has p (buffer_block header) m
Takes (Release seat header) p m = Has p (buffer_block header) m
Takes (BeginMove seat header target cells) p m = Has p (buffer_block header) m ⊎ Within target m
Takes (Copy seat header) p m = Has p (buffer_block header) m ⊎ Has p (buffer_target header) m
Takes (Settle seat header) p m = Has p (buffer_block header) m ⊎ Has p (buffer_target header) m
Takes (Cancel seat header) p m = Has p (buffer_block header) m ⊎ Has p (buffer_target header) m
Takes (Ungrant seat b) p m = ⊥
Takes (Open seat header b cells) p m = ⊥
Takes (Name seat header key) p m = ⊥
Takes (Fill seat header value) p m = ⊥
Takes (Publish seat header) p m = ⊥
Takes (Pin seat header) p m = ⊥
Takes (Unpin seat header) p m = ⊥

-- no minimum block of a held buffer is taken
abbrev pub SparesHeld : Step → PlainPool → Type 0
SparesHeld s p = (header m : ℕ) → IsHeld p header → Has p (buffer_block header) m → Takes s p m → ⊥

-- the buffer is live where it was, with its key and its cells
pub record StaysAs (old new : Buffer) : Type 0 where
  pub live : new.mode ≡ Live
  pub same_block : new.block ≡ old.block
  pub same_key : new.key ≡ old.key
  pub same_cells : new.cells ≡ old.cells

-- each held buffer stays as it is, but for its holders
abbrev pub KeepsHeld : Step → PlainPool → Type 0
KeepsHeld s p =
    (header : ℕ) (b : Buffer) → buffer_at p header ≡ Some b → b.holders ≢ [] → IsSomeAnd (buffer_at (after s p) header) (StaysAs b)

-- each pool on the way is lawful, and each step leaves the held buffers alone
abbrev pub IsLawfulOnTheWay : Setting → List Step → PlainPool → Type 0
IsLawfulOnTheWay w [] p = IsLawful w p
IsLawfulOnTheWay w (s ∷ ss) p = IsLawful w p × SparesHeld s p × KeepsHeld s p × IsLawfulOnTheWay w ss (after s p)

-- whatever the setting, the headers, the places and the steps
abbrev pub EveryRunIsLawful : Type 0
EveryRunIsLawful =
    (w : Setting) (headers places : ℕ) (steps : List Step) → IsRun w steps (empty_pool headers places)
    → IsLawfulOnTheWay w steps (empty_pool headers places)

-- the seat that makes a step
abbrev pub maker_of : Step → ℕ
maker_of (Grant seat b) = seat
maker_of (Ungrant seat b) = seat
maker_of (Open seat header b cells) = seat
maker_of (Name seat header key) = seat
maker_of (Fill seat header value) = seat
maker_of (Publish seat header) = seat
maker_of (Pin seat header) = seat
maker_of (Unpin seat header) = seat
maker_of (BeginEvict seat header) = seat
maker_of (Release seat header) = seat
maker_of (BeginMove seat header target cells) = seat
maker_of (Copy seat header) = seat
maker_of (Settle seat header) = seat
maker_of (Cancel seat header) = seat

-- the seat is still a holder of the buffer, which is as it was but for its other holders
pub record StaysHeldBy (seat : ℕ) (old new : Buffer) : Type 0 where
  pub held : Holds seat new.holders
  pub stays : StaysAs old new

-- no step changes a buffer that another seat has for itself, takes another seat's grant away, or ends another seat's
-- pin, and a buffer that another seat has pinned stays as it is, but for its other holders
pub record SparesOthers (s : Step) (p : PlainPool) : Type 0 where
  pub claims : (header seat : ℕ) (b : Buffer) → buffer_at p header ≡ Some b → b.claimant ≡ Some seat
      → seat ≢ maker_of s → buffer_at (after s p) header ≡ Some b
  pub grants : (place : ℕ) (g : GrantedBlock) → grant_at p place ≡ Some g → g.owner ≢ maker_of s → grant_at (after s p) place ≡ Some g
  pub holds : (header seat : ℕ) (b : Buffer) → buffer_at p header ≡ Some b → Holds seat b.holders → seat ≢ maker_of s
      → IsSomeAnd (buffer_at (after s p) header) (StaysHeldBy seat b)

-- whatever the lawful pool and the step
abbrev pub OthersAreSpared : Type 0
OthersAreSpared = (w : Setting) (s : Step) (p : PlainPool) → IsLawful w p → Needs w s p → SparesOthers s p

-- in any pool, lawful or not
abbrev pub OwnersAreParts : Type 0
OwnersAreParts = (p : PlainPool) (m : ℕ) → OwnersCountParts p m

-- in a lawful pool no two of the blocks, targets and grants have a minimum block in common
abbrev pub LawfulIsDisjoint : Type 0
LawfulIsDisjoint = (w : Setting) (p : PlainPool) → IsLawful w p → (m : ℕ) → IsOwnedOnce p m

-- What has a minimum block, by name: the plain reading of the sum `owners`.
use Rattle.std.specs.Prelude.{◌≡◌, ◌↔◌, ℕ, ◌≤◌, IsSomeAnd}
use Rattle.pool_model.specs.declared.buffer.Buffer.{Buffer}
use Rattle.pool_model.specs.declared.buffer.Target.{Target}
use Rattle.pool_model.specs.declared.pool.GrantedBlock.{GrantedBlock}
use Rattle.pool_model.specs.declared.pool.PlainPool.{PlainPool}
use Rattle.pool_model.specs.Block.{Within}
use Rattle.pool_model.specs.Pool.{buffer_at, grant_at, block_of, owners}

-- the block of a header's buffer, its target, or the grant whose block begins at a place
pub data Part : Type 0 where
  buffer_block : ℕ → Part
  buffer_target : ℕ → Part
  granted_block : ℕ → Part

-- the part is there, and minimum block m is in it
abbrev pub Has : PlainPool → Part → ℕ → Type 0
Has pool (buffer_block header) m = IsSomeAnd (buffer_at pool header) (λ (b : Buffer). Within b.block m)
Has pool (buffer_target header) m =
    IsSomeAnd (buffer_at pool header) (λ (b : Buffer). IsSomeAnd b.target (λ (t : Target). Within t.block m))
Has pool (granted_block place) m =
    IsSomeAnd (grant_at pool place) (λ (g : GrantedBlock). Within (block_of place g) m)

-- no part has the minimum block
abbrev pub IsUnowned : PlainPool → ℕ → Type 0
IsUnowned pool m = (a : Part) → Has pool a m → ⊥

-- at most one part has the minimum block
abbrev pub IsOwnedOnce : PlainPool → ℕ → Type 0
IsOwnedOnce pool m = (a b : Part) → Has pool a m → Has pool b m → a ≡ b

-- the sum of the owners says how many parts have a minimum block, as far as none and at most one go
pub record OwnersCountParts (pool : PlainPool) (m : ℕ) : Type 0 where
  pub none : (owners pool m ≡ 0) ↔ IsUnowned pool m
  pub at_most_one : (owners pool m ≤ 1) ↔ IsOwnedOnce pool m

-- The pool: its buffers by header, and its grants by the place at which their blocks begin. Source: this project's own.
use Rattle.std.specs.Prelude.{◌≡◌, ℕ, ◌+◌, List, [], ◌∷◌, Option, None, Some, replicate, slice_index_or, slice_set}
use Rattle.pool_model.specs.declared.block.Block.{Block}
use Rattle.pool_model.specs.declared.buffer.Buffer.{Buffer}
use Rattle.pool_model.specs.declared.buffer.Target.{Target}
use Rattle.pool_model.specs.declared.pool.GrantedBlock.{GrantedBlock}
use Rattle.pool_model.specs.declared.pool.PlainPool.{PlainPool}
use Rattle.pool_model.specs.Block.{covers}

-- the pool with no buffer and no grant, of that many headers and places
abbrev pub empty_pool : ℕ → ℕ → PlainPool
empty_pool headers places = record { buffers = replicate headers None; grants = replicate places None }

-- the buffer of a header, if it has one
abbrev pub buffer_at : PlainPool → ℕ → Option Buffer
buffer_at pool header = slice_index_or pool.buffers header None

-- the grant whose block begins at a place, if there is one
abbrev pub grant_at : PlainPool → ℕ → Option GrantedBlock
grant_at pool place = slice_index_or pool.grants place None

-- the block of the grant at a place
abbrev pub block_of : ℕ → GrantedBlock → Block
block_of place g = record { place = place; order = g.order }

-- the block is a grant of the seat's
abbrev pub HasGrant : PlainPool → ℕ → Block → Type 0
HasGrant pool seat b = grant_at pool b.place ≡ Some (record { order = b.order; owner = seat })

-- the pool with another buffer in a header, or none
abbrev pub with_buffer : ℕ → Option Buffer → PlainPool → PlainPool
with_buffer header buffer pool = record pool { buffers = slice_set pool.buffers header buffer }

-- the pool in which the block is a grant of the seat's
abbrev pub with_grant : ℕ → Block → PlainPool → PlainPool
with_grant seat b pool = record pool { grants = slice_set pool.grants b.place (Some (record { order = b.order; owner = seat })) }

-- the pool in which no granted block begins where this one does
abbrev pub without_grant : Block → PlainPool → PlainPool
without_grant b pool = record pool { grants = slice_set pool.grants b.place None }

-- the sum of what f gives for each element and its index, counted from i
abbrev pub total : {A : Type 0} → (ℕ → A → ℕ) → ℕ → List A → ℕ
total f i [] = 0
total f i (x ∷ xs) = f i x + total f (i + 1) xs

abbrev pub target_covers : ℕ → Option Target → ℕ
target_covers m None = 0
target_covers m (Some t) = covers t.block m

abbrev pub buffer_covers : ℕ → ℕ → Option Buffer → ℕ
buffer_covers m header None = 0
buffer_covers m header (Some b) = covers b.block m + target_covers m b.target

abbrev pub grant_covers : ℕ → ℕ → Option GrantedBlock → ℕ
grant_covers m place None = 0
grant_covers m place (Some g) = covers (block_of place g) m

-- how many blocks, targets and grants have minimum block m
unfoldable pub owners : PlainPool → ℕ → ℕ
owners pool m = total (buffer_covers m) 0 pool.buffers + total (grant_covers m) 0 pool.grants

-- The steps of the pool: what each needs, and the pool that it gives. What isn't named stays. Source: this project's own.
use Rattle.std.specs.Prelude.{◌≡◌, ℕ, ◌<◌, List, [], ◌∷◌, length, Option, None, Some, IsSomeAnd, option_map}
use Rattle.pool_model.specs.declared.block.Block.{Block}
use Rattle.pool_model.specs.declared.buffer.Buffer.{Buffer}
use Rattle.pool_model.specs.declared.buffer.Target.{Target}
use Rattle.pool_model.specs.declared.pool.PlainPool.{PlainPool}
use Rattle.pool_model.specs.declared.setting.Setting.{Setting}
use Rattle.pool_model.specs.declared.step.Step.{Step}
use Rattle.pool_model.specs.declared.step.Step.TheVariants.{Grant, Ungrant, Open, Name, Fill, Publish, Pin, Unpin}
use Rattle.pool_model.specs.declared.step.Step.TheVariants.{BeginEvict, Release, BeginMove, Copy, Settle, Cancel}
use Rattle.pool_model.specs.Block.{IsBlock, Within}
use Rattle.pool_model.specs.Buffer.{AreCellsOf, opened, CanName, named, CanFill, filled, CanPublish, published}
use Rattle.pool_model.specs.Buffer.{CanPin, pinned, CanUnpin, unpinned, IsIdle, evicting, CanRelease, CanMove}
use Rattle.pool_model.specs.Buffer.{moving, CanCopy, copied, CanSettle, live_at, CanCancel}
use Rattle.pool_model.specs.Pool.{buffer_at, HasGrant, with_buffer, with_grant, without_grant, owners}

-- no block, target or grant has a minimum block of this one
abbrev pub IsFree : PlainPool → Block → Type 0
IsFree pool b = (m : ℕ) → Within b m → owners pool m ≡ 0

-- the header is one of the pool's, and has no buffer
abbrev pub IsReleased : PlainPool → ℕ → Type 0
IsReleased pool header = (header < length pool.buffers) × (buffer_at pool header ≡ None)

-- what a step needs
abbrev pub Needs : Setting → Step → PlainPool → Type 0
Needs w (Grant seat b) p = IsBlock w.greatest_order (length p.grants) b × IsFree p b
Needs w (Ungrant seat b) p = HasGrant p seat b
Needs w (Open seat header b cells) p = IsReleased p header × HasGrant p seat b × AreCellsOf w b cells
Needs w (Name seat header key) p = IsSomeAnd (buffer_at p header) (CanName w seat key)
Needs w (Fill seat header value) p = IsSomeAnd (buffer_at p header) (CanFill w seat value)
Needs w (Publish seat header) p = IsSomeAnd (buffer_at p header) (CanPublish seat)
Needs w (Pin seat header) p = IsSomeAnd (buffer_at p header) (CanPin seat)
Needs w (Unpin seat header) p = IsSomeAnd (buffer_at p header) (CanUnpin seat)
Needs w (BeginEvict seat header) p = IsSomeAnd (buffer_at p header) IsIdle
Needs w (Release seat header) p = IsSomeAnd (buffer_at p header) (CanRelease seat)
Needs w (BeginMove seat header target cells) p =
    IsSomeAnd (buffer_at p header) (CanMove target) × HasGrant p seat target × AreCellsOf w target cells
Needs w (Copy seat header) p = IsSomeAnd (buffer_at p header) (CanCopy seat)
Needs w (Settle seat header) p = IsSomeAnd (buffer_at p header) (CanSettle seat)
Needs w (Cancel seat header) p = IsSomeAnd (buffer_at p header) (CanCancel seat)

-- the pool in which a header's buffer is changed
abbrev pub with_change : ℕ → (Buffer → Buffer) → PlainPool → PlainPool
with_change header change p = with_buffer header (option_map change (buffer_at p header)) p

-- the pool in which a header has no buffer any more, and its block is the seat's grant
abbrev pub with_release : ℕ → ℕ → Option Buffer → PlainPool → PlainPool
with_release seat header None p = p
with_release seat header (Some b) p = with_grant seat b.block (with_buffer header None p)

-- the pool in which the buffer stands at its target, and its old block is the seat's grant
abbrev pub with_settled : ℕ → ℕ → Buffer → Option Target → PlainPool → PlainPool
with_settled seat header b None p = p
with_settled seat header b (Some t) p =
    with_grant seat b.block (with_buffer header (Some (live_at t.block t.cells b)) p)

abbrev pub with_settle : ℕ → ℕ → Option Buffer → PlainPool → PlainPool
with_settle seat header None p = p
with_settle seat header (Some b) p = with_settled seat header b b.target p

-- the pool in which the buffer stands where it stood, and its target is the seat's grant
abbrev pub with_cancelled : ℕ → ℕ → Buffer → Option Target → PlainPool → PlainPool
with_cancelled seat header b None p = p
with_cancelled seat header b (Some t) p =
    with_grant seat t.block (with_buffer header (Some (live_at b.block b.cells b)) p)

abbrev pub with_cancel : ℕ → ℕ → Option Buffer → PlainPool → PlainPool
with_cancel seat header None p = p
with_cancel seat header (Some b) p = with_cancelled seat header b b.target p

-- the pool that a step gives
abbrev pub after : Step → PlainPool → PlainPool
after (Grant seat b) p = with_grant seat b p
after (Ungrant seat b) p = without_grant b p
after (Open seat header b cells) p = without_grant b (with_buffer header (Some (opened b seat cells)) p)
after (Name seat header key) p = with_change header (named key) p
after (Fill seat header value) p = with_change header (filled value) p
after (Publish seat header) p = with_change header (published seat) p
after (Pin seat header) p = with_change header (pinned seat) p
after (Unpin seat header) p = with_change header (unpinned seat) p
after (BeginEvict seat header) p = with_change header (evicting seat) p
after (Release seat header) p = with_release seat header (buffer_at p header) p
after (BeginMove seat header target cells) p = without_grant target (with_change header (moving seat target cells) p)
after (Copy seat header) p = with_change header copied p
after (Settle seat header) p = with_settle seat header (buffer_at p header) p
after (Cancel seat header) p = with_cancel seat header (buffer_at p header) p

-- each step meets its needs
abbrev pub IsRun : Setting → List Step → PlainPool → Type 0
IsRun w [] p = Unit {0}
IsRun w (s ∷ ss) p = Needs w s p × IsRun w ss (after s p)

-- the pool that the steps lead to
abbrev pub run : List Step → PlainPool → PlainPool
run [] p = p
run (s ∷ ss) p = run ss (after s p)

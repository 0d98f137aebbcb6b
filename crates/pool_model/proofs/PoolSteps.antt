-- Each step keeps the pool lawful.
use Rattle.std.proofs.Common.{◌≡◌, ℕ, ◌+◌, ◌<◌, ◌≤◌, List, length, set, refl, arith, ap, inl, inr}
use Rattle.std.specs.Prelude.{Option, None, Some, IsSomeAnd, IfSome, option_map}
use Rattle.std.proofs.lemmas.List.{length-set}
use Rattle.pool_model.specs.declared.block.Block.{Block}
use Rattle.pool_model.specs.declared.buffer.Buffer.{Buffer}
use Rattle.pool_model.specs.declared.buffer.BufferMode.TheVariants.{Moving}
use Rattle.pool_model.specs.declared.buffer.Target.{Target}
use Rattle.pool_model.specs.declared.pool.GrantedBlock.{GrantedBlock}
use Rattle.pool_model.specs.declared.pool.PlainPool.{PlainPool}
use Rattle.pool_model.specs.declared.setting.Setting.{Setting}
use Rattle.pool_model.specs.declared.step.Step.{Step}
use Rattle.pool_model.specs.declared.step.Step.TheVariants.{Grant, Ungrant, Open, Name, Fill, Publish, Pin, Unpin, BeginEvict, Release, BeginMove, Copy, Settle, Cancel}
use Rattle.pool_model.specs.Block.{IsBlock, covers}
use Rattle.pool_model.specs.Buffer.{AreCellsOf, opened, named, filled, published, pinned, unpinned, evicting, moving, copied, copied_to, live_at, CanRelease, CanSettle, CanCancel, IsIdle}
use Rattle.pool_model.specs.Lawful.{IsLawful, IsLawfulBuffer, IsTarget}
use Rattle.pool_model.specs.Pool.{buffer_at, grant_at, block_of, HasGrant, with_buffer, with_grant, without_grant, buffer_covers, grant_covers, target_covers, owners}
use Rattle.pool_model.specs.Step.{Needs, IsFree, IsReleased, after, with_change}
use Rattle.pool_model.proofs.Options.{value_of, if_value, if_each-set}
use Rattle.pool_model.proofs.Owners.{covers_cases, owners-set_buffer, owners-set_grant, owners-set_both, header_below, place_below, place_of_block}
use Rattle.pool_model.proofs.BufferSteps.{opened-lawful, named-lawful, filled-lawful, published-lawful, pinned-lawful, unpinned-lawful, evicting-lawful, moving-lawful, copied-lawful, settled-lawful, cancelled-lawful}

abbrev IsGrantable : Setting → ℕ → ℕ → GrantedBlock → Type 0
IsGrantable w places place g = IsBlock w.greatest_order places (block_of place g)

-- the buffer of a header, in a lawful pool
pub buffer_lawful : (w : Setting) (p : PlainPool) (header : ℕ) (b : Buffer) → IsLawful w p → buffer_at p header ≡ Some b → IsLawfulBuffer w (length p.grants) b
buffer_lawful w p header b l e = if_value (IsLawfulBuffer w (length p.grants)) (buffer_at p header) b e (l.buffers header)

-- the block of a grant, in a lawful pool
pub grant_lawful : (w : Setting) (p : PlainPool) (seat : ℕ) (b : Block) → IsLawful w p → HasGrant p seat b → IsBlock w.greatest_order (length p.grants) b
grant_lawful w p seat b l e =
    if_value (IsGrantable w (length p.grants) b.place) (grant_at p b.place) (record { order = b.order; owner = seat }) e (l.grants b.place)

-- one header and one place change, and the pool stays lawful
keeps_both : (w : Setting) (p : PlainPool) (header : ℕ) (o : Option Buffer) (place : ℕ) (g : Option GrantedBlock) → IsLawful w p → IfSome o (IsLawfulBuffer w (length p.grants)) → IfSome g (IsGrantable w (length p.grants) place) → ((m : ℕ) → owners (record { buffers = set p.buffers header o; grants = set p.grants place g }) m ≤ 1) → IsLawful w (record { buffers = set p.buffers header o; grants = set p.grants place g })
keeps_both w p header o place g l good granted apart =
    record {
      apart = apart;
      buffers = rw length-set (if_each-set (λ k. IsLawfulBuffer w (length p.grants)) p.buffers header o good l.buffers);
      grants = rw length-set (if_each-set (IsGrantable w (length p.grants)) p.grants place g granted l.grants);
    }

-- a header changes
keeps_buffer : (w : Setting) (p : PlainPool) (header : ℕ) (o : Option Buffer) → IsLawful w p → IfSome o (IsLawfulBuffer w (length p.grants)) → ((m : ℕ) → owners (with_buffer header o p) m ≤ 1) → IsLawful w (with_buffer header o p)
keeps_buffer w p header o l good apart =
    record {
      apart = apart;
      buffers = if_each-set (λ k. IsLawfulBuffer w (length p.grants)) p.buffers header o good l.buffers;
      grants = l.grants;
    }

-- a place changes
keeps_grant : (w : Setting) (p : PlainPool) (place : ℕ) (g : Option GrantedBlock) → IsLawful w p → IfSome g (IsGrantable w (length p.grants) place) → ((m : ℕ) → owners (record p { grants = set p.grants place g }) m ≤ 1) → IsLawful w (record p { grants = set p.grants place g })
keeps_grant w p place g l granted apart =
    record {
      apart = apart;
      buffers = rw length-set l.buffers;
      grants = rw length-set (if_each-set (IsGrantable w (length p.grants)) p.grants place g granted l.grants);
    }

-- a step that leaves the block of the buffer and of its target
change_keeps : (w : Setting) (p : PlainPool) (header : ℕ) (b : Buffer) (change : Buffer → Buffer) → IsLawful w p → buffer_at p header ≡ Some b → IsLawfulBuffer w (length p.grants) (change b) → ((m : ℕ) → buffer_covers m header (Some (change b)) ≡ buffer_covers m header (Some b)) → IsLawful w (with_change header change p)
change_keeps w p header b change l e good same =
    rw e
    (keeps_buffer w p header (Some (change b)) l good
    (λ m.
    let count = owners-set_buffer p header (Some (change b)) m (header_below p header b e) in
    let old = ap (buffer_covers m header) e in
    omega (arith, count, old, same m, l.apart m)))

-- a step that turns part of a buffer into a grant
gives_keeps : (w : Setting) (p : PlainPool) (header : ℕ) (b : Buffer) (o : Option Buffer) (seat : ℕ) (given : Block) → IsLawful w p → buffer_at p header ≡ Some b → IfSome o (IsLawfulBuffer w (length p.grants)) → IsBlock w.greatest_order (length p.grants) given → ((m : ℕ) → buffer_covers m header o + covers given m ≤ buffer_covers m header (Some b)) → IsLawful w (with_grant seat given (with_buffer header o p))
gives_keeps w p header b o seat given l e good is_block parts =
    let g : GrantedBlock = record { order = given.order; owner = seat } in
    keeps_both w p header o given.place (Some g) l good is_block
    (λ m.
    let count = owners-set_both p header o given.place (Some g) m (header_below p header b e) (place_of_block (length p.grants) given is_block.inside) in
    let old = ap (buffer_covers m header) e in
    omega (arith, count, old, parts m, l.apart m))

-- a step that turns a grant into part of a buffer
takes_keeps : (w : Setting) (p : PlainPool) (header : ℕ) (o : Option Buffer) (seat : ℕ) (taken : Block) → IsLawful w p → header < length p.buffers → HasGrant p seat taken → IfSome o (IsLawfulBuffer w (length p.grants)) → ((m : ℕ) → buffer_covers m header o ≤ buffer_covers m header (buffer_at p header) + covers taken m) → IsLawful w (without_grant taken (with_buffer header o p))
takes_keeps w p header o seat taken l below e good parts =
    keeps_both w p header o taken.place None l good tt
    (λ m.
    let count = owners-set_both p header o taken.place None m below (place_below p taken.place _ e) in
    let old = ap (grant_covers m taken.place) e in
    omega (arith, count, old, parts m, l.apart m))

Grant-keeps : (w : Setting) (p : PlainPool) (seat : ℕ) (b : Block) → IsLawful w p → IsBlock w.greatest_order (length p.grants) b → IsFree p b → IsLawful w (with_grant seat b p)
Grant-keeps w p seat b l is_block free =
    let g : GrantedBlock = record { order = b.order; owner = seat } in
    keeps_grant w p b.place (Some g) l is_block
    (λ m.
    let count = owners-set_grant p b.place (Some g) m (place_of_block (length p.grants) b is_block.inside) in
    elim (covers_cases b m) [
      | inl in_it ↦ omega (arith, count, in_it.0, free m in_it.1)
      | inr out ↦ omega (arith, count, out.0, l.apart m)
    ])

Ungrant-keeps : (w : Setting) (p : PlainPool) (seat : ℕ) (b : Block) → IsLawful w p → HasGrant p seat b → IsLawful w (without_grant b p)
Ungrant-keeps w p seat b l e =
    keeps_grant w p b.place None l tt
    (λ m.
    let count = owners-set_grant p b.place None m (place_below p b.place _ e) in
    omega (arith, count, l.apart m))

Open-keeps : (w : Setting) (p : PlainPool) (seat header : ℕ) (b : Block) (cells : List ℕ) → IsLawful w p → IsReleased p header → HasGrant p seat b → AreCellsOf w b cells → IsLawful w (after (Open seat header b cells) p)
Open-keeps w p seat header b cells l released e all_cells =
    takes_keeps w p header (Some (opened b seat cells)) seat b l released.0 e
    (opened-lawful w (length p.grants) b seat cells (grant_lawful w p seat b l e) all_cells)
    (λ m. omega arith)

Release-keeps : (w : Setting) (p : PlainPool) (seat header : ℕ) → IsLawful w p → IsSomeAnd (buffer_at p header) (CanRelease seat) → IsLawful w (after (Release seat header) p)
Release-keeps w p seat header l needs =
    let found = value_of (CanRelease seat) (buffer_at p header) needs in
    let good = buffer_lawful w p header found.0 l found.1 in
    rw found.1 (gives_keeps w p header found.0 None seat found.0.block l found.1 tt good.is_block (λ m. omega arith))

BeginMove-keeps : (w : Setting) (p : PlainPool) (seat header : ℕ) (target : Block) (cells : List ℕ) (b : Buffer) → IsLawful w p → buffer_at p header ≡ Some b → IsIdle b → target.order ≡ b.block.order → HasGrant p seat target → AreCellsOf w target cells → IsLawful w (after (BeginMove seat header target cells) p)
BeginMove-keeps w p seat header target cells b l e idle same_order granted all_cells =
    let good = buffer_lawful w p header b l e in
    rw e
    (takes_keeps w p header (Some (moving seat target cells b)) seat target l (header_below p header b e) granted
    (moving-lawful w (length p.grants) seat target cells b good idle (grant_lawful w p seat target l granted) same_order all_cells)
    (λ m. omega (arith, ap (buffer_covers m header) e)))

Settle-keeps : (w : Setting) (p : PlainPool) (seat header : ℕ) (b : Buffer) (t : Target) → IsLawful w p → buffer_at p header ≡ Some b → b.target ≡ Some t → CanSettle seat b → IsLawful w (after (Settle seat header) p)
Settle-keeps w p seat header b t l e at_target can =
    let good = buffer_lawful w p header b l e in
    rw (e, at_target)
    (gives_keeps w p header b (Some (live_at t.block t.cells b)) seat b.block l e
    (settled-lawful w (length p.grants) seat b t good can at_target) good.is_block
    (λ m. omega (arith, ap (target_covers m) at_target)))

Cancel-keeps : (w : Setting) (p : PlainPool) (seat header : ℕ) (b : Buffer) (t : Target) → IsLawful w p → buffer_at p header ≡ Some b → b.target ≡ Some t → CanCancel seat b → IsBlock w.greatest_order (length p.grants) t.block → IsLawful w (after (Cancel seat header) p)
Cancel-keeps w p seat header b t l e at_target can is_block =
    let good = buffer_lawful w p header b l e in
    rw (e, at_target)
    (gives_keeps w p header b (Some (live_at b.block b.cells b)) seat t.block l e
    (cancelled-lawful w (length p.grants) seat b good can) is_block
    (λ m. omega (arith, ap (target_covers m) at_target)))

-- the target of a moving buffer
pub target_of : (w : Setting) (places : ℕ) (b : Buffer) → IsLawfulBuffer w places b → b.mode ≡ Moving → (t : Target) × (b.target ≡ Some t) × IsTarget w places b.block t
target_of w places b l e =
    let moves : IsSomeAnd b.target (IsTarget w places b.block) = rw e at l.target in
    value_of (IsTarget w places b.block) b.target moves

target_covers-copied : (m done : ℕ) (cells : List ℕ) (t : Option Target) → target_covers m (option_map (copied_to done cells) t) ≡ target_covers m t
target_covers-copied m done cells None = refl
target_covers-copied m done cells (Some t) = refl

-- a step that meets its needs leads from a lawful pool to a lawful one
pub step_keeps : (w : Setting) (s : Step) (p : PlainPool) → IsLawful w p → Needs w s p → IsLawful w (after s p)
step_keeps w (Grant seat b) p l needs = Grant-keeps w p seat b l needs.0 needs.1
step_keeps w (Ungrant seat b) p l needs = Ungrant-keeps w p seat b l needs
step_keeps w (Open seat header b cells) p l needs = Open-keeps w p seat header b cells l needs.0 needs.1 needs.2
step_keeps w (Name seat header key) p l needs =
    let found = value_of _ (buffer_at p header) needs in
    let good = buffer_lawful w p header found.0 l found.1 in
    change_keeps w p header found.0 (named key) l found.1 (named-lawful w (length p.grants) seat key found.0 good found.2) (λ m. refl)
step_keeps w (Fill seat header value) p l needs =
    let found = value_of _ (buffer_at p header) needs in
    let good = buffer_lawful w p header found.0 l found.1 in
    change_keeps w p header found.0 (filled value) l found.1 (filled-lawful w (length p.grants) seat value found.0 good found.2) (λ m. refl)
step_keeps w (Publish seat header) p l needs =
    let found = value_of _ (buffer_at p header) needs in
    let good = buffer_lawful w p header found.0 l found.1 in
    change_keeps w p header found.0 (published seat) l found.1 (published-lawful w (length p.grants) seat found.0 good found.2) (λ m. refl)
step_keeps w (Pin seat header) p l needs =
    let found = value_of _ (buffer_at p header) needs in
    let good = buffer_lawful w p header found.0 l found.1 in
    change_keeps w p header found.0 (pinned seat) l found.1 (pinned-lawful w (length p.grants) seat found.0 good found.2) (λ m. refl)
step_keeps w (Unpin seat header) p l needs =
    let found = value_of _ (buffer_at p header) needs in
    let good = buffer_lawful w p header found.0 l found.1 in
    change_keeps w p header found.0 (unpinned seat) l found.1 (unpinned-lawful w (length p.grants) seat found.0 good) (λ m. refl)
step_keeps w (BeginEvict seat header) p l needs =
    let found = value_of _ (buffer_at p header) needs in
    let good = buffer_lawful w p header found.0 l found.1 in
    change_keeps w p header found.0 (evicting seat) l found.1 (evicting-lawful w (length p.grants) seat found.0 good found.2) (λ m. refl)
step_keeps w (Release seat header) p l needs = Release-keeps w p seat header l needs
step_keeps w (BeginMove seat header target cells) p l needs =
    let found = value_of _ (buffer_at p header) needs.0 in
    BeginMove-keeps w p seat header target cells found.0 l found.1 found.2.0 found.2.1 needs.1 needs.2
step_keeps w (Copy seat header) p l needs =
    let found = value_of _ (buffer_at p header) needs in
    let good = buffer_lawful w p header found.0 l found.1 in
    change_keeps w p header found.0 copied l found.1 (copied-lawful w (length p.grants) seat found.0 good found.2)
    (λ m. omega (arith, target_covers-copied m found.0.done found.0.cells found.0.target))
step_keeps w (Settle seat header) p l needs =
    let found = value_of _ (buffer_at p header) needs in
    let good = buffer_lawful w p header found.0 l found.1 in
    let t = target_of w (length p.grants) found.0 good found.2.0 in
    Settle-keeps w p seat header found.0 t.0 l found.1 t.1 found.2
step_keeps w (Cancel seat header) p l needs =
    let found = value_of _ (buffer_at p header) needs in
    let good = buffer_lawful w p header found.0 l found.1 in
    let t = target_of w (length p.grants) found.0 good found.2.0 in
    Cancel-keeps w p seat header found.0 t.0 l found.1 t.1 found.2 t.2.is_block

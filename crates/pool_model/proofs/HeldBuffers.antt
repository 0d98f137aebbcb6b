-- No step takes a minimum block of a held buffer, and each step leaves held buffers as they are.
use Rattle.std.proofs.Common.{◌≡◌, ◌≢◌, ℕ, List, [], length, get_or, set, refl, ap, sym, subst, ◌∙◌, arith, inl, inr, ◌⊎◌}
use Rattle.std.specs.Prelude.{Option, None, Some, IsSomeAnd, IfSome, option_map}
use Rattle.std.proofs.lemmas.Bool.{cases_eq}
use Rattle.std.proofs.lemmas.List.{get_or-set_same, get_or-set_other}
use Rattle.pool_model.specs.declared.block.Block.{Block}
use Rattle.pool_model.specs.declared.buffer.Buffer.{Buffer}
use Rattle.pool_model.specs.declared.buffer.BufferMode.{BufferMode}
use Rattle.pool_model.specs.declared.buffer.BufferMode.TheVariants.{New, Live, Moving, Evicted}
use Rattle.pool_model.specs.declared.pool.GrantedBlock.{GrantedBlock}
use Rattle.pool_model.specs.declared.pool.PlainPool.{PlainPool}
use Rattle.pool_model.specs.declared.setting.Setting.{Setting}
use Rattle.pool_model.specs.declared.step.Step.{Step}
use Rattle.pool_model.specs.declared.step.Step.TheVariants.{Grant, Ungrant, Open, Name, Fill, Publish, Pin, Unpin, BeginEvict, Release, BeginMove, Copy, Settle, Cancel}
use Rattle.pool_model.specs.Block.{Within}
use Rattle.pool_model.specs.Buffer.{pinned, unpinned}
use Rattle.pool_model.specs.Lawful.{IsLawful, IsLawfulBuffer, HoldersFit}
use Rattle.pool_model.specs.Laws.{IsHeld, SparesHeld, KeepsHeld, StaysAs, maker_of}
use Rattle.pool_model.specs.Parts.{Has, buffer_block, buffer_target, granted_block}
use Rattle.pool_model.specs.Pool.{buffer_at, grant_at, block_of, HasGrant}
use Rattle.pool_model.specs.Step.{Needs, after}
use Rattle.pool_model.proofs.Owners.{header_below}
use Rattle.pool_model.proofs.PoolSteps.{buffer_lawful, target_of}
use Rattle.pool_model.proofs.Options.{value_of, at_value, some_and}
use Rattle.pool_model.proofs.PartsAreOwners.{owners-part, owned_once}

-- what a held buffer is

pub live_if_held : (mode : BufferMode) (holders : List ℕ) → HoldersFit mode holders → holders ≢ [] → mode ≡ Live
live_if_held Live holders fit held = refl
live_if_held New holders fit held = absurd (held fit)
live_if_held Moving holders fit held = absurd (held fit)
live_if_held Evicted holders fit held = absurd (held fit)

-- nobody holds the header's buffer
abbrev IsUnheld : PlainPool → ℕ → Type 0
IsUnheld p header = IsSomeAnd (buffer_at p header) (λ (b : Buffer). b.holders ≡ [])

unheld_since : (w : Setting) (p : PlainPool) (header : ℕ) (P : Buffer → Type 0) → IsLawful w p → ((b : Buffer) → IsLawfulBuffer w (length p.grants) b → P b → b.holders ≡ []) → IsSomeAnd (buffer_at p header) P → IsUnheld p header
unheld_since w p header P l why needs =
    let found = value_of P (buffer_at p header) needs in
    some_and (λ (b : Buffer). b.holders ≡ []) (buffer_at p header) found.0 found.1
    (why found.0 (buffer_lawful w p header found.0 l found.1) found.2)

-- a header whose buffer is held isn't one whose buffer nobody holds
apart : (p : PlainPool) (header other : ℕ) (b : Buffer) → buffer_at p header ≡ Some b → b.holders ≢ [] → IsUnheld p other → header ≢ other
apart p header other b e held none same =
    let P : ℕ → Type 0 = λ h. IsUnheld p h in
    held (at_value (λ (x : Buffer). x.holders ≡ []) (buffer_at p header) b e (subst P (sym same) none))

-- which steps find their header's buffer unheld

idle_new : (w : Setting) (places : ℕ) (b : Buffer) → IsLawfulBuffer w places b → b.mode ≡ New → b.holders ≡ []
idle_new w places b l e = rw e at l.holders

idle_moving : (w : Setting) (places : ℕ) (b : Buffer) → IsLawfulBuffer w places b → b.mode ≡ Moving → b.holders ≡ []
idle_moving w places b l e = rw e at l.holders

idle_evicted : (w : Setting) (places : ℕ) (b : Buffer) → IsLawfulBuffer w places b → b.mode ≡ Evicted → b.holders ≡ []
idle_evicted w places b l e = rw e at l.holders

-- the header whose buffer a step takes, if it takes that of one
taken_header : Step → Option ℕ
taken_header (BeginEvict seat header) = Some header
taken_header (Release seat header) = Some header
taken_header (BeginMove seat header target cells) = Some header
taken_header (Copy seat header) = Some header
taken_header (Settle seat header) = Some header
taken_header (Cancel seat header) = Some header
taken_header _ = None

taken_unheld : (w : Setting) (s : Step) (p : PlainPool) → IsLawful w p → Needs w s p → IfSome (taken_header s) (IsUnheld p)
unfolding taken_header
taken_unheld w (BeginEvict seat header) p l needs = unheld_since w p header _ l (λ b g n. n.1) needs
taken_unheld w (Release seat header) p l needs =
    unheld_since w p header _ l (λ b g n. idle_evicted w (length p.grants) b g n.0) needs
taken_unheld w (BeginMove seat header target cells) p l needs = unheld_since w p header _ l (λ b g n. n.0.1) needs.0
taken_unheld w (Copy seat header) p l needs =
    unheld_since w p header _ l (λ b g n. idle_moving w (length p.grants) b g n.0) needs
taken_unheld w (Settle seat header) p l needs =
    unheld_since w p header _ l (λ b g n. idle_moving w (length p.grants) b g n.0) needs
taken_unheld w (Cancel seat header) p l needs =
    unheld_since w p header _ l (λ b g n. idle_moving w (length p.grants) b g n.0) needs
taken_unheld w _ p l needs = tt

-- who has a minimum block of one header's buffer has it of that header
same_block : (w : Setting) (p : PlainPool) (header other m : ℕ) → IsLawful w p → Has p (buffer_block header) m → Has p (buffer_block other) m → header ≡ other
same_block w p header other m l a b =
    let same = owned_once p m (l.apart m) (buffer_block header) (buffer_block other) a b in
    cc

no_target : (w : Setting) (p : PlainPool) (header other m : ℕ) → IsLawful w p → Has p (buffer_block header) m → Has p (buffer_target other) m → ⊥
no_target w p header other m l a b =
    let same = owned_once p m (l.apart m) (buffer_block header) (buffer_target other) a b in
    cc

spares_block : (w : Setting) (p : PlainPool) (header other m : ℕ) → IsLawful w p → IsHeld p header → IsUnheld p other → Has p (buffer_block header) m → Has p (buffer_block other) m → ⊥
spares_block w p header other m l held none a b =
    let found = value_of (λ (x : Buffer). x.holders ≢ []) (buffer_at p header) held in
    apart p header other found.0 found.1 found.2 none (same_block w p header other m l a b)

spares_moving : (w : Setting) (p : PlainPool) (header other m : ℕ) → IsLawful w p → IsHeld p header → IsUnheld p other → Has p (buffer_block header) m → Has p (buffer_block other) m ⊎ Has p (buffer_target other) m → ⊥
spares_moving w p header other m l held none a takes =
    elim takes [ inl b ↦ spares_block w p header other m l held none a b | inr t ↦ no_target w p header other m l a t ]

spares_grant : (w : Setting) (p : PlainPool) (header m seat : ℕ) (b : Block) → IsLawful w p → HasGrant p seat b → Has p (buffer_block header) m → Within b m → ⊥
spares_grant w p header m seat b l e a within =
    let granted : Has p (granted_block b.place) m = some_and (λ (g : GrantedBlock). Within (block_of b.place g) m) (grant_at p b.place) _ e within in
    let same = owned_once p m (l.apart m) (buffer_block header) (granted_block b.place) a granted in
    cc

pub step_spares : (w : Setting) (s : Step) (p : PlainPool) → IsLawful w p → Needs w s p → SparesHeld s p
unfolding taken_header
step_spares w (Grant seat b) p l needs header m held a takes =
    omega (arith, needs.1 m takes, owners-part p (buffer_block header) m a)
step_spares w (BeginEvict seat other) p l needs header m held a takes =
    spares_block w p header other m l held (taken_unheld w (BeginEvict seat other) p l needs) a takes
step_spares w (Release seat other) p l needs header m held a takes =
    spares_block w p header other m l held (taken_unheld w (Release seat other) p l needs) a takes
step_spares w (BeginMove seat other target cells) p l needs header m held a takes =
    elim takes [
      | inl b ↦ spares_block w p header other m l held (taken_unheld w (BeginMove seat other target cells) p l needs) a b
      | inr t ↦ spares_grant w p header m seat target l needs.1 a t
    ]
step_spares w (Copy seat other) p l needs header m held a takes =
    spares_moving w p header other m l held (taken_unheld w (Copy seat other) p l needs) a takes
step_spares w (Settle seat other) p l needs header m held a takes =
    spares_moving w p header other m l held (taken_unheld w (Settle seat other) p l needs) a takes
step_spares w (Cancel seat other) p l needs header m held a takes =
    spares_moving w p header other m l held (taken_unheld w (Cancel seat other) p l needs) a takes
step_spares w (Ungrant seat b) p l needs header m held a takes = takes
step_spares w (Open seat other b cells) p l needs header m held a takes = takes
step_spares w (Name seat other key) p l needs header m held a takes = takes
step_spares w (Fill seat other value) p l needs header m held a takes = takes
step_spares w (Publish seat other) p l needs header m held a takes = takes
step_spares w (Pin seat other) p l needs header m held a takes = takes
step_spares w (Unpin seat other) p l needs header m held a takes = takes

-- a held buffer stays as it is

pub stays : (w : Setting) (p : PlainPool) (header : ℕ) (b : Buffer) → IsLawful w p → buffer_at p header ≡ Some b → b.holders ≢ [] → StaysAs b b
stays w p header b l e held =
    let good = buffer_lawful w p header b l e in
    record { live = live_if_held b.mode b.holders good.holders held; same_block = refl; same_key = refl; same_cells = refl }

-- another header changes
other_changes : (p : PlainPool) (header other : ℕ) (b : Buffer) (Q : Buffer → Type 0) (o : Option Buffer) → buffer_at p header ≡ Some b → Q b → header ≢ other → IsSomeAnd (get_or (set p.buffers other o) header None) Q
other_changes p header other b Q o e q ne =
    rw (get_or-set_other p.buffers other header o None ne) (some_and Q (buffer_at p header) b e q)

-- the holders alone may change
holders_change : (p : PlainPool) (header other : ℕ) (b : Buffer) (Q : Buffer → Type 0) (change : Buffer → Buffer) → buffer_at p header ≡ Some b → Q b → Q (change b) → IsSomeAnd (get_or (set p.buffers other (option_map change (buffer_at p other))) header None) Q
holders_change p header other b Q change e q changed =
    elim (cases_eq header other) [
      | inr ne ↦ other_changes p header other b Q _ e q ne
      | inl same ↦
          let below = header_below p header b e in
          let here = get_or-set_same p.buffers header (option_map change (buffer_at p header)) None below in
          rw (← same) (some_and Q _ (change b) (here ∙ ap (option_map change) e) changed)
    ]

unheld_new : (w : Setting) (p : PlainPool) (header : ℕ) (P : Buffer → Type 0) → IsLawful w p → ((b : Buffer) → P b → b.mode ≡ New) → IsSomeAnd (buffer_at p header) P → IsUnheld p header
unheld_new w p header P l new needs =
    unheld_since w p header P l (λ b g n. idle_new w (length p.grants) b g (new b n)) needs

-- a released header has no held buffer
pub apart_released : (p : PlainPool) (header other : ℕ) (b : Buffer) → buffer_at p header ≡ Some b → buffer_at p other ≡ None → header ≢ other
apart_released p header other b e none same =
    let P : ℕ → Type 0 = λ h. buffer_at p h ≡ None in
    let gone : buffer_at p header ≡ None = subst P (sym same) none in
    cc

-- what is said of a held buffer, and stays if the step's maker pins or unpins it, is said of it after the step
pub step_keeps : (w : Setting) (s : Step) (p : PlainPool) → IsLawful w p → Needs w s p → (header : ℕ) (b : Buffer) → buffer_at p header ≡ Some b → b.holders ≢ [] → (Q : Buffer → Type 0) → Q b → Q (pinned (maker_of s) b) → Q (unpinned (maker_of s) b) → IsSomeAnd (buffer_at (after s p) header) Q
unfolding taken_header
step_keeps w (Grant seat given) p l needs header b e held Q q more less =
    some_and Q (buffer_at p header) b e q
step_keeps w (Ungrant seat given) p l needs header b e held Q q more less =
    some_and Q (buffer_at p header) b e q
step_keeps w (Open seat other given cells) p l needs header b e held Q q more less =
    other_changes p header other b Q _ e q (apart_released p header other b e needs.0.1)
step_keeps w (Name seat other key) p l needs header b e held Q q more less =
    other_changes p header other b Q _ e q
    (apart p header other b e held (unheld_new w p other _ l (λ b n. n.0) needs))
step_keeps w (Fill seat other value) p l needs header b e held Q q more less =
    other_changes p header other b Q _ e q
    (apart p header other b e held (unheld_new w p other _ l (λ b n. n.0) needs))
step_keeps w (Publish seat other) p l needs header b e held Q q more less =
    other_changes p header other b Q _ e q
    (apart p header other b e held (unheld_new w p other _ l (λ b n. n.0) needs))
step_keeps w (Pin seat other) p l needs header b e held Q q more less =
    holders_change p header other b Q (pinned seat) e q more
step_keeps w (Unpin seat other) p l needs header b e held Q q more less =
    holders_change p header other b Q (unpinned seat) e q less
step_keeps w (BeginEvict seat other) p l needs header b e held Q q more less =
    other_changes p header other b Q _ e q
    (apart p header other b e held (taken_unheld w (BeginEvict seat other) p l needs))
step_keeps w (Release seat other) p l needs header b e held Q q more less =
    let found = value_of _ (buffer_at p other) needs in
    rw found.1
    (other_changes p header other b Q None e q
    (apart p header other b e held (taken_unheld w (Release seat other) p l needs)))
step_keeps w (BeginMove seat other target cells) p l needs header b e held Q q more less =
    other_changes p header other b Q _ e q
    (apart p header other b e held (taken_unheld w (BeginMove seat other target cells) p l needs))
step_keeps w (Copy seat other) p l needs header b e held Q q more less =
    other_changes p header other b Q _ e q
    (apart p header other b e held (taken_unheld w (Copy seat other) p l needs))
step_keeps w (Settle seat other) p l needs header b e held Q q more less =
    let found = value_of _ (buffer_at p other) needs in
    let t = target_of w (length p.grants) found.0 (buffer_lawful w p other found.0 l found.1) found.2.0 in
    rw (found.1, t.1)
    (other_changes p header other b Q _ e q
    (apart p header other b e held (taken_unheld w (Settle seat other) p l needs)))
step_keeps w (Cancel seat other) p l needs header b e held Q q more less =
    let found = value_of _ (buffer_at p other) needs in
    let t = target_of w (length p.grants) found.0 (buffer_lawful w p other found.0 l found.1) found.2.0 in
    rw (found.1, t.1)
    (other_changes p header other b Q _ e q
    (apart p header other b e held (taken_unheld w (Cancel seat other) p l needs)))

pub step_keeps_held : (w : Setting) (s : Step) (p : PlainPool) → IsLawful w p → Needs w s p → KeepsHeld s p
step_keeps_held w s p l needs header b e held =
    let q = stays w p header b l e held in
    let still : (new : List ℕ) → StaysAs b (record b { holders = new }) = λ new. record { live = q.live; same_block = refl; same_key = refl; same_cells = refl } in
    step_keeps w s p l needs header b e held (StaysAs b) q (still _) (still _)

-- No step changes what another seat has for itself.
use Rattle.std.proofs.Common.{◌≡◌, ◌≢◌, ℕ, length, get_or, set, ap, sym, subst, ◌∙◌, arith}
use Rattle.std.specs.Prelude.{Option, None, Some, IsSomeAnd}
use Rattle.std.proofs.lemmas.List.{get_or-set_other}
use Rattle.std.proofs.lemmas.Nat.{pow_pos}
use Rattle.pool_model.specs.declared.block.Block.{Block}
use Rattle.pool_model.specs.declared.buffer.Buffer.{Buffer}
use Rattle.pool_model.specs.declared.buffer.Target.{Target}
use Rattle.pool_model.specs.declared.buffer.BufferMode.TheVariants.{Live}
use Rattle.pool_model.specs.declared.pool.GrantedBlock.{GrantedBlock}
use Rattle.pool_model.specs.declared.pool.PlainPool.{PlainPool}
use Rattle.pool_model.specs.declared.setting.Setting.{Setting}
use Rattle.pool_model.specs.declared.step.Step.{Step}
use Rattle.pool_model.specs.declared.step.Step.TheVariants.{Grant, Ungrant, Open, Name, Fill, Publish, Pin, Unpin, BeginEvict, Release, BeginMove, Copy, Settle, Cancel}
use Rattle.pool_model.specs.Block.{Within}
use Rattle.pool_model.specs.Buffer.{CanUnpin}
use Rattle.pool_model.specs.Lawful.{IsLawful, IsLawfulBuffer}
use Rattle.pool_model.specs.Laws.{SparesOthers}
use Rattle.pool_model.specs.Parts.{Has, buffer_block, buffer_target, granted_block}
use Rattle.pool_model.specs.Pool.{buffer_at, grant_at, block_of, HasGrant}
use Rattle.pool_model.specs.Step.{Needs, IsFree}
use Rattle.pool_model.proofs.HeldBuffers.{live_if_held, apart_released}
use Rattle.pool_model.proofs.PoolSteps.{buffer_lawful, target_of}
use Rattle.pool_model.proofs.Options.{value_of, some_and}
use Rattle.pool_model.proofs.PartsAreOwners.{owners-part, owned_once}
use Rattle.pool_model.proofs.Pins.{held_some, step_spares_pins}

claimed_apart : (p : PlainPool) (header other seat : ℕ) (b : Buffer) (P : Buffer → Type 0) → buffer_at p header ≡ Some b → b.claimant ≡ Some seat → IsSomeAnd (buffer_at p other) P → ((x : Buffer) → buffer_at p other ≡ Some x → P x → x.claimant ≡ Some seat → ⊥) → header ≢ other
claimed_apart p header other seat b P e c needs why same =
    let found = value_of P (buffer_at p other) needs in
    let Q : ℕ → Type 0 = λ h. buffer_at p h ≡ Some b in
    let here : buffer_at p other ≡ Some b = subst Q same e in
    let both : Some found.0 ≡ Some b = sym found.1 ∙ here in
    let is : found.0 ≡ b = cc in
    why found.0 found.1 found.2 (ap (λ (x : Buffer). x.claimant) is ∙ c)

another : (seat maker : ℕ) (x : Buffer) → seat ≢ maker → x.claimant ≡ Some maker → x.claimant ≡ Some seat → ⊥
another seat maker x ne a b =
    let both : Some seat ≡ Some maker = sym b ∙ a in
    let same : seat ≡ maker = cc in
    ne same

unclaimed : (w : Setting) (places seat : ℕ) (x : Buffer) → IsLawfulBuffer w places x → x.mode ≡ Live → x.claimant ≡ Some seat → ⊥
unclaimed w places seat x l live c =
    let none : x.claimant ≡ None = rw live at l.claim in
    let both : Some seat ≡ None = sym c ∙ none in
    cc

kept : (p : PlainPool) (header other : ℕ) (b : Buffer) (o : Option Buffer) → buffer_at p header ≡ Some b → header ≢ other → get_or (set p.buffers other o) header None ≡ Some b
kept p header other b o e ne = get_or-set_other p.buffers other header o None ne ∙ e

kept_grant : (p : PlainPool) (place other : ℕ) (g : GrantedBlock) (o : Option GrantedBlock) → grant_at p place ≡ Some g → place ≢ other → get_or (set p.grants other o) place None ≡ Some g
kept_grant p place other g o e ne = get_or-set_other p.grants other place o None ne ∙ e

first_within : (b : Block) → Within b b.place
first_within b = (omega arith, omega (arith, pow_pos b.order))

-- whose grant a step takes is the maker's
own_apart : (p : PlainPool) (place maker : ℕ) (g : GrantedBlock) (b : Block) → grant_at p place ≡ Some g → g.owner ≢ maker → HasGrant p maker b → place ≢ b.place
own_apart p place maker g b e ne has same =
    let Q : ℕ → Type 0 = λ k. grant_at p k ≡ Some g in
    let here : grant_at p b.place ≡ Some g = subst Q same e in
    let both : Some g ≡ Some (record { order = b.order; owner = maker }) = sym here ∙ has in
    let is : g ≡ record { order = b.order; owner = maker } = cc in
    ne (ap (λ (x : GrantedBlock). x.owner) is)

has_grant_first : (p : PlainPool) (place : ℕ) (g : GrantedBlock) → grant_at p place ≡ Some g → Has p (granted_block place) place
has_grant_first p place g e = some_and (λ (x : GrantedBlock). Within (block_of place x) place) (grant_at p place) g e (first_within (block_of place g))

free_apart : (p : PlainPool) (place : ℕ) (g : GrantedBlock) (b : Block) → grant_at p place ≡ Some g → IsFree p b → place ≢ b.place
free_apart p place g b e free same =
    let Q : ℕ → Type 0 = λ k. Within b k in
    omega (arith, free place (subst Q (sym same) (first_within b)), owners-part p (granted_block place) place (has_grant_first p place g e))

block_apart : (w : Setting) (p : PlainPool) (place header : ℕ) (g : GrantedBlock) (b : Buffer) → IsLawful w p → grant_at p place ≡ Some g → buffer_at p header ≡ Some b → place ≢ b.block.place
block_apart w p place header g b l e at same =
    let Q : ℕ → Type 0 = λ k. Within b.block k in
    let here : Has p (buffer_block header) place = some_and (λ (x : Buffer). Within x.block place) (buffer_at p header) b at (subst Q (sym same) (first_within b.block)) in
    let one = owned_once p place (l.apart place) (buffer_block header) (granted_block place) here (has_grant_first p place g e) in
    cc

target_apart : (w : Setting) (p : PlainPool) (place header : ℕ) (g : GrantedBlock) (b : Buffer) (t : Target) → IsLawful w p → grant_at p place ≡ Some g → buffer_at p header ≡ Some b → b.target ≡ Some t → place ≢ t.block.place
target_apart w p place header g b t l e at has same =
    let Q : ℕ → Type 0 = λ k. Within t.block k in
    let inner : IsSomeAnd b.target (λ (x : Target). Within x.block place) = some_and (λ (x : Target). Within x.block place) b.target t has (subst Q (sym same) (first_within t.block)) in
    let here : Has p (buffer_target header) place = some_and (λ (x : Buffer). IsSomeAnd x.target (λ (y : Target). Within y.block place)) (buffer_at p header) b at inner in
    let one = owned_once p place (l.apart place) (buffer_target header) (granted_block place) here (has_grant_first p place g e) in
    cc

pub step_spares_others : (w : Setting) (s : Step) (p : PlainPool) → IsLawful w p → Needs w s p → SparesOthers s p
step_spares_others w (Grant maker given) p l needs =
    record {
      claims = λ header seat b e c ne. e;
      grants = λ place g e ne. kept_grant p place given.place g _ e (free_apart p place g given e needs.1);
      holds = step_spares_pins w (Grant maker given) p l needs;
    }
step_spares_others w (Ungrant maker given) p l needs =
    record {
      claims = λ header seat b e c ne. e;
      grants = λ place g e ne. kept_grant p place given.place g _ e (own_apart p place maker g given e ne needs);
      holds = step_spares_pins w (Ungrant maker given) p l needs;
    }
step_spares_others w (Open maker other given cells) p l needs =
    record {
      claims = λ header seat b e c ne. kept p header other b _ e (apart_released p header other b e needs.0.1);
      grants = λ place g e ne. kept_grant p place given.place g _ e (own_apart p place maker g given e ne needs.1);
      holds = step_spares_pins w (Open maker other given cells) p l needs;
    }
step_spares_others w (Name maker other key) p l needs =
    record {
      claims = λ header seat b e c ne. kept p header other b _ e (claimed_apart p header other seat b _ e c needs (λ x at can own. another seat maker x ne can.1 own));
      grants = λ place g e ne. e;
      holds = step_spares_pins w (Name maker other key) p l needs;
    }
step_spares_others w (Fill maker other value) p l needs =
    record {
      claims = λ header seat b e c ne. kept p header other b _ e (claimed_apart p header other seat b _ e c needs (λ x at can own. another seat maker x ne can.1 own));
      grants = λ place g e ne. e;
      holds = step_spares_pins w (Fill maker other value) p l needs;
    }
step_spares_others w (Publish maker other) p l needs =
    record {
      claims = λ header seat b e c ne. kept p header other b _ e (claimed_apart p header other seat b _ e c needs (λ x at can own. another seat maker x ne can.1 own));
      grants = λ place g e ne. e;
      holds = step_spares_pins w (Publish maker other) p l needs;
    }
step_spares_others w (Pin maker other) p l needs =
    record {
      claims = λ header seat b e c ne. kept p header other b _ e (claimed_apart p header other seat b _ e c needs (λ x at can own. unclaimed w (length p.grants) seat x (buffer_lawful w p other x l at) can.0 own));
      grants = λ place g e ne. e;
      holds = step_spares_pins w (Pin maker other) p l needs;
    }
step_spares_others w (Unpin maker other) p l needs =
    record {
      claims = λ header seat b e c ne. kept p header other b _ e (claimed_apart p header other seat b (CanUnpin maker) e c needs
          (λ x at can own. let good = buffer_lawful w p other x l at in unclaimed w (length p.grants) seat x good (live_if_held x.mode x.holders good.holders (held_some maker x.holders can)) own));
      grants = λ place g e ne. e;
      holds = step_spares_pins w (Unpin maker other) p l needs;
    }
step_spares_others w (BeginEvict maker other) p l needs =
    record {
      claims = λ header seat b e c ne. kept p header other b _ e (claimed_apart p header other seat b _ e c needs (λ x at can own. unclaimed w (length p.grants) seat x (buffer_lawful w p other x l at) can.0 own));
      grants = λ place g e ne. e;
      holds = step_spares_pins w (BeginEvict maker other) p l needs;
    }
step_spares_others w (Release maker other) p l needs =
    let found = value_of _ (buffer_at p other) needs in
    record {
      claims = λ header seat b e c ne. rw found.1 (kept p header other b None e (claimed_apart p header other seat b _ e c needs (λ x at can own. another seat maker x ne can.1 own)));
      grants = λ place g e ne. rw found.1 (kept_grant p place found.0.block.place g _ e (block_apart w p place other g found.0 l e found.1));
      holds = step_spares_pins w (Release maker other) p l needs;
    }
step_spares_others w (BeginMove maker other target cells) p l needs =
    record {
      claims = λ header seat b e c ne. kept p header other b _ e (claimed_apart p header other seat b _ e c needs.0 (λ x at can own. unclaimed w (length p.grants) seat x (buffer_lawful w p other x l at) can.0.0 own));
      grants = λ place g e ne. kept_grant p place target.place g _ e (own_apart p place maker g target e ne needs.1);
      holds = step_spares_pins w (BeginMove maker other target cells) p l needs;
    }
step_spares_others w (Copy maker other) p l needs =
    record {
      claims = λ header seat b e c ne. kept p header other b _ e (claimed_apart p header other seat b _ e c needs (λ x at can own. another seat maker x ne can.1 own));
      grants = λ place g e ne. e;
      holds = step_spares_pins w (Copy maker other) p l needs;
    }
step_spares_others w (Settle maker other) p l needs =
    let found = value_of _ (buffer_at p other) needs in
    let t = target_of w (length p.grants) found.0 (buffer_lawful w p other found.0 l found.1) found.2.0 in
    record {
      claims = λ header seat b e c ne. rw (found.1, t.1) (kept p header other b _ e (claimed_apart p header other seat b _ e c needs (λ x at can own. another seat maker x ne can.1 own)));
      grants = λ place g e ne. rw (found.1, t.1) (kept_grant p place found.0.block.place g _ e (block_apart w p place other g found.0 l e found.1));
      holds = step_spares_pins w (Settle maker other) p l needs;
    }
step_spares_others w (Cancel maker other) p l needs =
    let found = value_of _ (buffer_at p other) needs in
    let t = target_of w (length p.grants) found.0 (buffer_lawful w p other found.0 l found.1) found.2.0 in
    record {
      claims = λ header seat b e c ne. rw (found.1, t.1) (kept p header other b _ e (claimed_apart p header other seat b _ e c needs (λ x at can own. another seat maker x ne can.1 own)));
      grants = λ place g e ne. rw (found.1, t.1) (kept_grant p place t.0.block.place g _ e (target_apart w p place other g found.0 t.0 l e found.1 t.1));
      holds = step_spares_pins w (Cancel maker other) p l needs;
    }

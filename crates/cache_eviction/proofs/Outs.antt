-- An eviction's steps as one list, and what they leave.
use Rattle.std.proofs.Common.{◌≡◌, ℕ, List, [], ◌∷◌, refl, sym, ◌∙◌, subst, inl, inr}
use Rattle.std.specs.Prelude.{Option, Err}
use Rattle.std.proofs.lemmas.Option.{none-some}
use Rattle.pool_model.specs.declared.block.Block.{Block}
use Rattle.pool_model.specs.Content.{Files}
use Rattle.pool_rule.specs.declared.geometry.Geometry.{Geometry}
use Rattle.pool_rule.specs.declared.geometry.WordName.TheVariants.{State}
use Rattle.pool_rule.specs.declared.view.View.{View}
use Rattle.pool_rule.specs.declared.word_step.WordStep.{WordStep}
use Rattle.pool_rule.specs.declared.word_step.WordStep.TheVariants.{EvictBegun, HeaderReleased, Looked, Returned}
use Rattle.pool_rule.specs.Seats.{granted_at, mark_at}
use Rattle.pool_rule.specs.WordSteps.{IsIdleWord, IsMade, block_in}
use Rattle.buffer_pool.specs.declared.fault.Held.{Held}
use Rattle.buffer_pool.specs.Callers.{all_then, made_granted, made_mark, out_granted, out_mark}
use Rattle.buffer_pool.specs.Made.{AreMade, Evicts}
use Rattle.cache_eviction.specs.Evictions.{HeldSteps, OutSteps, lost, out, shown}

module _ (files : Option Files) (g : Geometry) (id : ℕ) where
  abbrev Begun : ℕ → Block → View → View → Type 0
  Begun header e v w = (word : ℕ) × IsIdleWord word × (e ≡ block_in word) × AreMade files g id (Looked (State header) word ∷ EvictBegun header word ∷ []) v w

  pub outs : (id1 id2 header h : ℕ) (e b : Block) (v u w x : View) → id1 ≡ id → id2 ≡ id → h ≡ header → b ≡ e → Begun header e v u →
      ((released : ℕ) × IsMade files g id1 (HeaderReleased h e released) u w) → ((given : ℕ) × IsMade files g id2 (Returned b given) w x) →
      (ss : List WordStep) × AreMade files g id ss v x × OutSteps header ss e
  outs id1 id2 header h e b v u w x e1 e2 eh eb begun released given =
      let word = begun.0 in
      let is : e ≡ block_in word = begun.2 in
      let R : ℕ × ℕ × Block → Type 0 = λ z. IsMade files g z.0 (HeaderReleased z.1 z.2 released.0) u w in
      let step1 = subst R (λ i. (e1 i, eh i, is i)) released.1 in
      let eb2 : b ≡ block_in word = eb ∙ is in
      let G : ℕ × Block → Type 0 = λ z. IsMade files g z.0 (Returned z.1 given.0) w x in
      let step2 = subst G (λ i. (e2 i, eb2 i)) given.1 in
      let ss : List WordStep = Looked (State header) word ∷ EvictBegun header word ∷ HeaderReleased header (block_in word) released.0 ∷ Returned (block_in word) given.0 ∷ [] in
      let all : AreMade files g id ss v x = all_then files g id (Looked (State header) word ∷ EvictBegun header word ∷ [])
      (HeaderReleased header (block_in word) released.0 ∷ Returned (block_in word) given.0 ∷ []) v u x begun.3 (w, step1, (x, step2, refl)) in
      let O : Block → Type 0 = λ z. OutSteps header ss z in
      (ss, all, subst O (sym is) (out word released.0 given.0 begun.1))

  -- the exchange, whose view is the last
  begun_step : (header word : ℕ) (y u : View) → AreMade files g id (EvictBegun header word ∷ []) y u → IsMade files g id (EvictBegun header word) y u
  begun_step header word y u made = let P : View → Type 0 = λ z. IsMade files g id (EvictBegun header word) y z in subst P (sym made.2) made.1

  pub outs_mark : (id1 id2 header h : ℕ) (e b : Block) (v u w x : View) → h ≡ header → b ≡ e → Begun header e v u →
      ((released : ℕ) × IsMade files g id1 (HeaderReleased h e released) u w) → ((given : ℕ) × IsMade files g id2 (Returned b given) w x) →
      (other : ℕ) → mark_at x other ≡ mark_at v other
  outs_mark id1 id2 header h e b v u w x eh eb begun released given other =
      let R : ℕ → Type 0 = λ z. IsMade files g id1 (HeaderReleased z e released.0) u w in
      let G : Block → Type 0 = λ z. IsMade files g id2 (Returned z given.0) w x in
      let y = begun.3.0 in
      out_mark files g id id1 id2 header begun.0 released.0 given.0 e y u w x (begun_step header begun.0 y u begun.3.2) (subst R eh released.1) (subst G eb given.1) other
      ∙ made_mark files g id (Looked (State header) begun.0) v y begun.3.1 other (none-some other)

  pub outs_granted : (id1 id2 header h : ℕ) (e b : Block) (v u w x : View) → h ≡ header → b ≡ e → Begun header e v u →
      ((released : ℕ) × IsMade files g id1 (HeaderReleased h e released) u w) → ((given : ℕ) × IsMade files g id2 (Returned b given) w x) →
      (place : ℕ) → granted_at x place ≡ granted_at v place
  outs_granted id1 id2 header h e b v u w x eh eb begun released given place =
      let R : ℕ → Type 0 = λ z. IsMade files g id1 (HeaderReleased z e released.0) u w in
      let G : Block → Type 0 = λ z. IsMade files g id2 (Returned z given.0) w x in
      let y = begun.3.0 in
      out_granted files g id id1 id2 header begun.0 released.0 given.0 e y u w x (begun_step header begun.0 y u begun.3.2) (subst R eh released.1) (subst G eb given.1) place
      ∙ made_granted files g id (Looked (State header) begun.0) v y begun.3.1 place (none-some place)

  pub refuses : (header : ℕ) (v w : View) (held : Held) → Evicts files g id header v w (Err held) → (ss : List WordStep) × AreMade files g id ss v w × HeldSteps header ss held.word
  refuses header v w held refused =
      elim refused [
        | inl was ↦ (_, was.1, shown held.word was.0)
        | inr late ↦ (_, late.3, lost late.0 held.word late.1 late.2)
      ]

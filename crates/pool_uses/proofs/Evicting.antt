-- The steps of an eviction whose block is granted again, as one list, and that a pin refuses an eviction.
use Rattle.std.proofs.Common.{◌≡◌, ℕ, ◌+◌, ◌*◌, ◌/◌, ◌<◌, [], ◌∷◌, refl, sym, ap, ◌∙◌, subst, arith}
use Rattle.std.specs.Prelude.{Option}
use Rattle.std.proofs.lemmas.Nat.{pow_pos}
use Rattle.std.proofs.lemmas.Option.{none-some}
use Rattle.buddy_arena.specs.Buddy.{IsClearBlock}
use Rattle.pool_model.specs.declared.block.Block.{Block}
use Rattle.pool_model.specs.declared.buffer.BufferKey.{BufferKey}
use Rattle.pool_model.specs.Content.{Files}
use Rattle.pool_rule.specs.declared.geometry.Geometry.{Geometry}
use Rattle.pool_rule.specs.declared.geometry.WordName.TheVariants.{Arena, State}
use Rattle.pool_rule.specs.declared.view.Hold.TheVariants.{Free, Pinned}
use Rattle.pool_rule.specs.declared.view.Mark.{Mark}
use Rattle.pool_rule.specs.declared.view.View.{View}
use Rattle.pool_rule.specs.declared.word_step.WordStep.TheVariants.{EvictBegun, Granted, HeaderReleased, Looked, Returned}
use Rattle.pool_rule.specs.Layout.{IsBlockIn}
use Rattle.pool_rule.specs.Seats.{mark_at}
use Rattle.pool_rule.specs.WordSteps.{IsIdleWord, IsMade, block_in}
use Rattle.buffer_pool.specs.Callers.{all_then, begun_clear, made_mark}
use Rattle.buffer_pool.specs.Made.{AreMade}
use Rattle.pool_uses.specs.Evictions.{GrantsAgain}

-- a block's arena is one of the pool's
pub in_arena : (g : Geometry) (b : Block) → IsBlockIn g b → b.place / 64 < g.arenas
in_arena g b is = let inside = is.inside in omega (arith, inside, pow_pos b.order)

-- an offset that was found lies in the arena
pub same_arena : (arena order offset word own : ℕ) → IsClearBlock 64 word offset own → (64 * arena + offset) / 64 ≡ arena
same_arena arena order offset word own is = let inside = is.block.inside in omega (arith, inside, pow_pos own)

module _ (files : Option Files) (g : Geometry) (id : ℕ) where
  pub grants_again : (id1 id2 id3 id4 header h : ℕ) (e b c : Block) (word : ℕ) (v0 v1 v2 v3 v4 v5 : View) → id1 ≡ id → id2 ≡ id → id3 ≡ id → id4 ≡ id → h ≡ header → b ≡ e →
      c.order ≡ e.order → c.place / 64 ≡ e.place / 64 →
      ((state : ℕ) × IsIdleWord state × (e ≡ block_in state) × AreMade files g id (Looked (State header) state ∷ EvictBegun header state ∷ []) v0 v1) →
      ((released : ℕ) × IsMade files g id1 (HeaderReleased h e released) v1 v2) → ((given : ℕ) × IsMade files g id2 (Returned b given) v2 v3) →
      IsMade files g id3 (Looked (Arena (e.place / 64)) word) v3 v4 → IsMade files g id4 (Granted c word) v4 v5 → GrantsAgain files g id header c v0 v5
  grants_again id1 id2 id3 id4 header h e b c word v0 v1 v2 v3 v4 v5 e1 e2 e3 e4 eh eb order arena begun released given looked taken =
      let state = begun.0 in
      let is : e ≡ block_in state = begun.2 in
      let R : ℕ × ℕ × Block → Type 0 = λ z. IsMade files g z.0 (HeaderReleased z.1 z.2 released.0) v1 v2 in
      let step1 = subst R (λ i. (e1 i, eh i, is i)) released.1 in
      let eb2 : b ≡ block_in state = eb ∙ is in
      let G : ℕ × Block → Type 0 = λ z. IsMade files g z.0 (Returned z.1 given.0) v2 v3 in
      let step2 = subst G (λ i. (e2 i, eb2 i)) given.1 in
      let L : ℕ × Block → Type 0 = λ z. IsMade files g z.0 (Looked (Arena (z.1.place / 64)) word) v3 v4 in
      let step3 = subst L (λ i. (e3 i, is i)) looked in
      let T : ℕ → Type 0 = λ z. IsMade files g z (Granted c word) v4 v5 in
      let step4 = subst T e4 taken in
      let o : c.order ≡ (block_in state).order = order ∙ ap (λ (x : Block). x.order) is in
      let a : c.place / 64 ≡ (block_in state).place / 64 = arena ∙ ap (λ (x : Block). x.place / 64) is in
      let all = all_then files g id (Looked (State header) state ∷ EvictBegun header state ∷ [])
      (HeaderReleased header (block_in state) released.0 ∷ Returned (block_in state) given.0 ∷ Looked (Arena ((block_in state).place / 64)) word ∷ Granted c word ∷ [])
      v0 v1 v5 begun.3 (v2, step1, (v3, step2, (v4, step3, (v5, step4, refl)))) in
      (state, released.0, given.0, word, begun.1, o, a, all)

  -- whoever begins to evict a buffer had no pin of it
  pub pin_refuses : (header : ℕ) (b : Block) (k : Option BufferKey) (v w : View) → (mark_at v header).hold ≡ Pinned b k →
      ((state : ℕ) × IsIdleWord state × AreMade files g id (Looked (State header) state ∷ EvictBegun header state ∷ []) v w) → ⊥
  pin_refuses header b k v w pinned begun =
      let u = begun.2.0 in
      let same = made_mark files g id (Looked (State header) begun.0) v u begun.2.1 header (none-some header) in
      let clear = begun_clear files g id header begun.0 u begun.2.2.0 begun.2.2.1 in
      let f : Pinned b k ≡ Free = sym pinned ∙ ap (λ (m : Mark). m.hold) (sym same ∙ clear) in
      cc

-- The steps by which a policy learns of headers, one after the other.
use Rattle.std.proofs.Common.{◌≡◌, ◌≢◌, ℕ, suc, ◌+◌, List, [], ◌∷◌, ◌++◌, refl, sym, subst, add-one}
use Rattle.std.specs.Prelude.{Option}
use Rattle.lrfu_policy.specs.Policy.{Ranking, with_touches}
use Rattle.pool_model.specs.Content.{Files}
use Rattle.pool_rule.specs.declared.geometry.Geometry.{Geometry}
use Rattle.pool_rule.specs.declared.geometry.WordName.TheVariants.{KeyOf, Last, Touches}
use Rattle.pool_rule.specs.declared.view.View.{View}
use Rattle.pool_rule.specs.declared.word_step.WordStep.{WordStep}
use Rattle.pool_rule.specs.declared.word_step.WordStep.TheVariants.{Looked, Updated}
use Rattle.pool_rule.specs.WordSteps.{IsMade}
use Rattle.buffer_pool.specs.Callers.{all_then}
use Rattle.buffer_pool.specs.Made.{AreMade}
use Rattle.cache_consult.specs.Consults.{ConsultSteps, Consults, LearnSteps, Learns, learnt, taken_before, untouched}

module _ (files : Option Files) (g : Geometry) (id : ℕ) where
  -- a header without touches
  pub asked : (header seen : ℕ) (p : Ranking) (v w : View) → seen ≡ 0 → IsMade files g id (Looked (Touches header) seen) v w → Learns files g id header p p v w
  asked header seen p v w none m =
      let P : ℕ → Type 0 = λ k. IsMade files g id (Looked (Touches header) k) v w in
      (Looked (Touches header) 0 ∷ [], (w, subst P none m, refl), untouched)

  -- touches that another seat took first
  pub missed : (id1 header seen touches : ℕ) (p : Ranking) (v u w : View) → id1 ≡ id → seen ≢ 0 → touches ≡ 0 →
      IsMade files g id (Looked (Touches header) seen) v u → IsMade files g id1 (Updated (Touches header) touches 0) u w → Learns files g id header p p v w
  missed id1 header seen touches p v u w e some none m t =
      let P : ℕ × ℕ → Type 0 = λ z. IsMade files g z.0 (Updated (Touches header) z.1 0) u w in
      let taken = subst P (λ k. (e k, none k)) t in
      (Looked (Touches header) seen ∷ Updated (Touches header) 0 0 ∷ [], (u, m, (w, taken, refl)), taken_before seen some)

  -- touches that were taken
  pub learns : (id1 id2 id3 header seen touches key last : ℕ) (p q : Ranking) (v0 v1 v2 v3 v4 : View) → id1 ≡ id → id2 ≡ id → id3 ≡ id → seen ≢ 0 → touches ≢ 0 →
      IsMade files g id (Looked (Touches header) seen) v0 v1 → IsMade files g id1 (Updated (Touches header) touches 0) v1 v2 →
      IsMade files g id2 (Looked (KeyOf header) key) v2 v3 → IsMade files g id3 (Looked (Last header) last) v3 v4 → q ≡ with_touches header key touches last p →
      Learns files g id header p q v0 v4
  learns id1 id2 id3 header seen touches key last p q v0 v1 v2 v3 v4 e1 e2 e3 some any a b c d is =
      let ss : List WordStep = Looked (Touches header) seen ∷ Updated (Touches header) touches 0 ∷ Looked (KeyOf header) key ∷ Looked (Last header) last ∷ [] in
      let B : ℕ → Type 0 = λ z. IsMade files g z (Updated (Touches header) touches 0) v1 v2 in
      let C : ℕ → Type 0 = λ z. IsMade files g z (Looked (KeyOf header) key) v2 v3 in
      let D : ℕ → Type 0 = λ z. IsMade files g z (Looked (Last header) last) v3 v4 in
      let made : AreMade files g id ss v0 v4 = (v1, a, (v2, subst B e1 b, (v3, subst C e2 c, (v4, subst D e3 d, refl)))) in
      let L : Ranking → Type 0 = λ r. LearnSteps header p ss r in
      let steps : LearnSteps header p ss q = subst L (sym is) (learnt seen touches key last some any) in
      (ss, made, steps)

  -- one header more
  pub one_more : (id1 n : ℕ) (p r q : Ranking) (v u w : View) → id1 ≡ id → Consults files g id n p r v u → Learns files g id1 n r q u w → Consults files g id (n + 1) p q v w
  one_more id1 n p r q v u w e before next =
      let A : ℕ → Type 0 = λ z. AreMade files g z next.0 u w in
      let all = all_then files g id before.0 next.0 v u w before.1 (subst A e next.1) in
      let S : ℕ → Type 0 = λ k. ConsultSteps k p (before.0 ++ next.0) q in
      let steps : ConsultSteps (suc n) p (before.0 ++ next.0) q = (r, before.0, next.0, before.2, next.2, refl) in
      (before.0 ++ next.0, all, subst S (sym (add-one n)) steps)

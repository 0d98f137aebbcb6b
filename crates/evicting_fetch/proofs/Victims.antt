-- The victims of a fetch: the steps before and behind the search for them.
use Rattle.std.proofs.Common.{◌≡◌, ℕ, List, [], ◌∷◌, ◌++◌, sym, ap, ◌∙◌, subst, inl, inr}
use Rattle.std.specs.Prelude.{Option}
use Rattle.buffer_word.specs.declared.key_word.Key.{Key}
use Rattle.lrfu_policy.specs.Policy.{Ranking}
use Rattle.pool_model.specs.Content.{Files}
use Rattle.pool_rule.specs.declared.geometry.Geometry.{Geometry}
use Rattle.pool_rule.specs.declared.geometry.WordName.TheVariants.{Clock}
use Rattle.pool_rule.specs.declared.view.View.{View}
use Rattle.pool_rule.specs.declared.word_step.WordStep.{WordStep}
use Rattle.pool_rule.specs.declared.word_step.WordStep.TheVariants.{EvictBegun, Updated}
use Rattle.pool_rule.specs.WordSteps.{IsMade}
use Rattle.buffer_pool.specs.Callers.{all_then}
use Rattle.buffer_pool.specs.Made.{AreMade, touch_steps}
use Rattle.cache_lookup.specs.LookUps.{IsLookStep}
use Rattle.cache_lookup.specs.Sets.{first_way}
use Rattle.cache_lookup.specs.Trails.{Among}
use Rattle.cache_placement.specs.declared.why.Why.{Why}
use Rattle.cache_room.specs.Searches.{EvictsNone, FullBy, Ranks}
use Rattle.cache_room.specs.SearchLaws.{evicts_both, ranked_none, ranked_within}
use Rattle.evicting_fetch.specs.Victims.{why_not}
use Rattle.range_cache.specs.declared.ranged.Ranged.{Ranged}

look_evicts : (header found : ℕ) → IsLookStep (EvictBegun header found) → ⊥
look_evicts header found h = elim h [ ]

pub touch_evicts : (header tick touches last : ℕ) → EvictsNone (touch_steps header tick touches last)
touch_evicts header tick touches last h found there =
    elim there [ inl e ↦ (let clash : ⊥ = cc in clash) | inr more ↦ elim more [ inl e ↦ (let clash : ⊥ = cc in clash) | inr ended ↦ ended ] ]

pub none_evicts : EvictsNone []
none_evicts header found gone = gone

module _ (files : Option Files) (g : Geometry) (id clock now : ℕ) (v u0 u1 : View) (tick : IsMade files g id (Updated Clock clock now) v u0) (ss : List WordStep) (only : (s : WordStep) → Among s ss → IsLookStep s) (made : AreMade files g id ss u0 u1) (first : ℕ) (p q : Ranking) (why : Option Why) (end : List WordStep) (none : EvictsNone end) where
  abbrev pub begun : List WordStep
  begun = Updated Clock clock now ∷ ss

  begun_evicts : EvictsNone begun
  begun_evicts header found (inl e) = let clash : ⊥ = cc in clash
  begun_evicts header found (inr there) = look_evicts header found (only (EvictBegun header found) there)

  -- nothing was searched
  pub unranked : (x : View) → AreMade files g id end u1 x → q ≡ p → FullBy g first [] [] why → Ranks files g id first p q v x why
  unranked x last same full = (
    begun ++ end,
    all_then files g id begun end v u1 x (u0, tick, made) last,
    ranked_none g first p q why (begun ++ end) same (evicts_both begun end begun_evicts none) full,
  )

  -- room was made
  pub ranked_on : (w x : View) → AreMade files g id end w x → Ranks files g id first p q u1 w why → Ranks files g id first p q v x why
  ranked_on w x last r = (
    begun ++ (r.0 ++ end),
    all_then files g id begun (r.0 ++ end) v u1 x (u0, tick, made) (all_then files g id r.0 end u1 w x r.1 last),
    ranked_within g first p q why begun r.0 end begun_evicts none r.2,
  )

pub ranked_of : (files : Option Files) (g : Geometry) (id first : ℕ) (p q : Ranking) (v w : View) (r s : Ranged) → r ≡ s → Ranks files g id first p q v w (why_not s.how) → Ranks files g id first p q v w (why_not r.how)
ranked_of files g id first p q v w r s e h = let P : Ranged → Type 0 = λ x. Ranks files g id first p q v w (why_not x.how) in subst P (sym e) h

pub ranked_in : (files : Option Files) (g g' : Geometry) (id id' first : ℕ) (key : Key) (p q : Ranking) (v w : View) (why why' : Option Why) → id' ≡ id → first ≡ first_way g' key → g' ≡ g → why' ≡ why → Ranks files g id' first p q v w why' → Ranks files g id (first_way g key) p q v w why
ranked_in files g g' id id' first key p q v w why why' e f k is h =
    let P : ℕ × ℕ × Option Why → Type 0 = λ z. Ranks files g z.0 z.1 p q v w z.2 in
    let at : first ≡ first_way g key = f ∙ ap (λ x. first_way x key) k in
    subst P (λ i. (e i, at i, is i)) h

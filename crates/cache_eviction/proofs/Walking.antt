-- One victim more was refused, or went.
use Rattle.std.proofs.Common.{◌≡◌, ℕ, List, ◌++◌, refl, subst}
use Rattle.std.specs.Prelude.{Option, Some, None, Ok, Err}
use Rattle.lrfu_policy.specs.declared.rank.Rank.{Rank}
use Rattle.lrfu_policy.specs.Policy.{Ranking, with_entry}
use Rattle.lrfu_policy.specs.Victim.{Among, IsLeast}
use Rattle.pool_model.specs.declared.block.Block.{Block}
use Rattle.pool_model.specs.Content.{Files}
use Rattle.pool_rule.specs.declared.geometry.Geometry.{Geometry}
use Rattle.pool_rule.specs.declared.view.View.{View}
use Rattle.pool_rule.specs.declared.word_step.WordStep.{WordStep}
use Rattle.buffer_pool.specs.declared.fault.Held.{Held}
use Rattle.buffer_pool.specs.Callers.{all_then}
use Rattle.buffer_pool.specs.Made.{AreMade}
use Rattle.cache_eviction.specs.Evictions.{Tries}
use Rattle.cache_eviction.specs.Victims.{EvictsVictim, Refused, held}

module _ (files : Option Files) (g : Geometry) (id id1 : ℕ) (same : id1 ≡ id) (first count : ℕ) (p : Ranking) (after : Option Rank) (r : Rank) (v u w : View) (before : (ss : List WordStep) × AreMade files g id ss v u × Refused first count p.entries after ss) (least : IsLeast (Among first count) p.entries after (Some r)) where
  pub held_more : (refused : Held) → Tries files g id1 r.header u w (Err refused) → (ss : List WordStep) × AreMade files g id ss v w × Refused first count p.entries (Some r) ss
  held_more refused tries =
      let A : ℕ → Type 0 = λ z. AreMade files g z tries.0 u w in
      let all = all_then files g id before.0 tries.0 v u w before.1 (subst A same tries.1) in
      (before.0 ++ tries.0, all, held after r before.0 tries.0 refused.word before.2 least tries.2)

  pub went : (b : Block) (q : Ranking) → Tries files g id1 r.header u w (Ok b) → q ≡ with_entry r.header None p → EvictsVictim files g id first count p q v w (Some (record { header = r.header; block = b }))
  went b q tries is =
      let A : ℕ → Type 0 = λ z. AreMade files g z tries.0 u w in
      let all = all_then files g id before.0 tries.0 v u w before.1 (subst A same tries.1) in
      (before.0 ++ tries.0, all, (after, r, before.0, tries.0, before.2, least, tries.2, refl, refl, is))

-- Loads of cells leave a seat what it has.
use Rattle.std.proofs.Common.{ℕ, ◌+◌, List, [], ◌∷◌, refl, sym, subst}
use Rattle.std.specs.Prelude.{Option}
use Rattle.pool_model.specs.Content.{Files}
use Rattle.pool_rule.specs.declared.geometry.Geometry.{Geometry}
use Rattle.pool_rule.specs.declared.view.View.{View}
use Rattle.pool_rule.specs.declared.word_step.WordStep.TheVariants.{LookedAtCell}
use Rattle.buffer_pool.specs.Made.{AreMade, load_steps}
use Rattle.cache_lookup.specs.Before.{IsAsBefore}
use Rattle.cache_lookup.specs.Callers.{before_made}

pub loads_same : (files : Option Files) (g : Geometry) (id : ℕ) (start : View) (cell : ℕ) (found : List ℕ) (v w : View) → AreMade files g id (load_steps cell found) v w → IsAsBefore start v → IsAsBefore start w
loads_same files g id start cell [] v w e c = let P : View → Type 0 = λ x. IsAsBefore start x in subst P (sym e) c
loads_same files g id start cell (x ∷ xs) v w all c =
    loads_same files g id start (cell + 1) xs all.0 w all.2 (before_made files g id (LookedAtCell cell x) start v all.0 all.1 refl refl c)

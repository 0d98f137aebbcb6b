-- What a seat has granted at other places than 4.
use Rattle.std.proofs.Common.{◌≡◌, ◌≢◌, ℕ, ◌/◌, sym, ap, ◌∙◌}
use Rattle.std.specs.Prelude.{Option, Some}
use Rattle.pool_model.specs.declared.block.Block.{Block}
use Rattle.pool_model.specs.Content.{Files}
use Rattle.pool_rule.specs.declared.geometry.Geometry.{Geometry}
use Rattle.pool_rule.specs.declared.view.View.{View}
use Rattle.pool_rule.specs.declared.word_step.WordStep.TheVariants.{Granted, Returned}
use Rattle.pool_rule.specs.Seats.{granted_at}
use Rattle.pool_rule.specs.WordSteps.{IsMade}
use Rattle.buffer_pool.specs.Callers.{made_granted}
use Rattle.buffer_pool.specs.Pools.{block_at}

same_place : (a b : ℕ) → Some a ≡ Some b → a ≡ b
same_place a b e = cc

pub granted_away : (files : Option Files) (g : Geometry) (id found : ℕ) (v w : View) → IsMade files g id (Granted (block_at 4 0) found) v w → (place : ℕ) → place ≢ 4 → granted_at w place ≡ granted_at v place
granted_away files g id found v w m place apart = made_granted files g id (Granted (block_at 4 0) found) v w m place (λ e. apart (sym (same_place 4 place e)))

pub returned_away : (files : Option Files) (g : Geometry) (id found : ℕ) (b : Block) (v w : View) → b ≡ block_at 4 0 → IsMade files g id (Returned b found) v w → (place : ℕ) → place ≢ 4 → granted_at w place ≡ granted_at v place
returned_away files g id found b v w is m place apart =
    made_granted files g id (Returned b found) v w m place (λ e. apart (sym (same_place b.place place e) ∙ ap (λ (x : Block). x.place) is))

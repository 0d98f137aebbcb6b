-- Laws for those who let a hold go.
use Rattle.std.specs.Prelude.{◌≢◌, ℕ, ◌<◌, length, Option}
use Rattle.pool_model.specs.Content.{Files}
use Rattle.pool_rule.specs.declared.geometry.Geometry.{Geometry}
use Rattle.pool_rule.specs.declared.view.Hold.TheVariants.{Free}
use Rattle.pool_rule.specs.declared.view.View.{View}
use Rattle.pool_rule.specs.declared.word_step.WordStep.TheVariants.{Uncounted}
use Rattle.pool_rule.specs.Seats.{mark_at}
use Rattle.pool_rule.specs.WordSteps.{IsMade}
use Rattle.cache_lookup.specs.Before.{HasHoldMore, IsAsBefore}

-- a seat that has a hold more than at the start, and takes its count back, has what it had at the start
abbrev pub HoldsAreLetGo : Type 0
HoldsAreLetGo =
    (files : Option Files) (g : Geometry) (id header found : ℕ) (start v w : View) → header < length v.marks
    → (mark_at v header).hold ≢ Free →
    IsMade files g id (Uncounted header found) v w → HasHoldMore start v header → IsAsBefore start w

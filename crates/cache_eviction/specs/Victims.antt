-- The policy's victims are tried in their order. Source: this project's own.
use Rattle.std.specs.Prelude.{◌≡◌, ℕ, List, [], ◌++◌, Option, Some, None}
use Rattle.lrfu_policy.specs.declared.entry.Entry.{Entry}
use Rattle.lrfu_policy.specs.declared.rank.Rank.{Rank}
use Rattle.lrfu_policy.specs.Policy.{Ranking, with_entry}
use Rattle.lrfu_policy.specs.Victim.{Among, IsLeast}
use Rattle.pool_model.specs.Content.{Files}
use Rattle.pool_rule.specs.declared.geometry.Geometry.{Geometry}
use Rattle.pool_rule.specs.declared.view.View.{View}
use Rattle.pool_rule.specs.declared.word_step.WordStep.{WordStep}
use Rattle.buffer_pool.specs.Made.{AreMade}
use Rattle.cache_eviction.specs.declared.victims.Victim.{Victim}
use Rattle.cache_eviction.specs.Evictions.{HeldSteps, OutSteps}

-- the victims of a range up to that rank were tried by these steps, in their order, and each was refused
pub data Refused (first count : ℕ) (entries : List (Option Entry)) : Option Rank → List WordStep → Type 0 where
  begun : Refused first count entries None []
  held : (after : Option Rank) (r : Rank) (ss ts : List WordStep) (word : ℕ) → Refused first count entries after ss →
      IsLeast (Among first count) entries after (Some r) → HeldSteps r.header ts word → Refused first count entries (Some r) (ss ++ ts)

-- each of them was refused, and there is no other; or the next one went, and is forgotten
abbrev pub VictimSteps : ℕ → ℕ → Ranking → List WordStep → Ranking → Option Victim → Type 0
VictimSteps first count p ss q None =
    (after : Option Rank) × Refused first count p.entries after ss × IsLeast (Among first count) p.entries after None × (q ≡ p)
VictimSteps first count p ss q (Some v) =
    (after : Option Rank) × (r : Rank) × (before last : List WordStep) × Refused first count p.entries after before
    × IsLeast (Among first count) p.entries after (Some r) × OutSteps r.header last v.block × (v.header ≡ r.header)
    × (ss ≡ before ++ last) × (q ≡ with_entry r.header None p)

-- the seat made such steps and no others
abbrev pub EvictsVictim : Option Files → Geometry → ℕ → ℕ → ℕ → Ranking → Ranking → View → View → Option Victim → Type 0
EvictsVictim files g id first count p q old new v =
    (ss : List WordStep) × AreMade files g id ss old new × VictimSteps first count p ss q v

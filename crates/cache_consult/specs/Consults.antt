-- By which steps a policy is told of touches, and what it is then. Source: this project's own.
use Rattle.std.specs.Prelude.{◌≡◌, ◌≢◌, ℕ, zero, suc, List, [], ◌∷◌, ◌++◌, Option}
use Rattle.lrfu_policy.specs.Policy.{Ranking, with_touches}
use Rattle.pool_model.specs.Content.{Files}
use Rattle.pool_rule.specs.declared.geometry.Geometry.{Geometry}
use Rattle.pool_rule.specs.declared.geometry.WordName.TheVariants.{KeyOf, Last, Touches}
use Rattle.pool_rule.specs.declared.view.View.{View}
use Rattle.pool_rule.specs.declared.word_step.WordStep.{WordStep}
use Rattle.pool_rule.specs.declared.word_step.WordStep.TheVariants.{Looked, Updated}
use Rattle.buffer_pool.specs.Made.{AreMade}

-- One header is asked. Where a load shows touches, they are swapped for 0. If there were any still, its key word and its last tick
-- are loaded, and the policy is synced with these.
pub data LearnSteps (header : ℕ) (p : Ranking) : List WordStep → Ranking → Type 0 where
  untouched : LearnSteps header p (Looked (Touches header) 0 ∷ []) p
  taken_before : (seen : ℕ) → seen ≢ 0 → LearnSteps header p (Looked (Touches header) seen ∷ Updated (Touches header) 0 0 ∷ []) p
  learnt : (seen touches key last : ℕ) → seen ≢ 0 → touches ≢ 0 → LearnSteps header p
      (Looked (Touches header) seen ∷ Updated (Touches header) touches 0 ∷ Looked (KeyOf header) key ∷ Looked (Last header) last ∷ [])
      (with_touches header key touches last p)

-- the first n headers are asked, by ascending number
abbrev pub ConsultSteps : ℕ → Ranking → List WordStep → Ranking → Type 0
ConsultSteps zero p ss q = (ss ≡ []) × (q ≡ p)
ConsultSteps (suc n) p ss q =
    (r : Ranking) × (before after : List WordStep) × ConsultSteps n p before r × LearnSteps n r after q × (ss ≡ before ++ after)

-- ---- the seat made such steps and no others

abbrev pub Learns : Option Files → Geometry → ℕ → ℕ → Ranking → Ranking → View → View → Type 0
Learns files g id header p q old new = (ss : List WordStep) × AreMade files g id ss old new × LearnSteps header p ss q

abbrev pub Consults : Option Files → Geometry → ℕ → ℕ → Ranking → Ranking → View → View → Type 0
Consults files g id n p q old new = (ss : List WordStep) × AreMade files g id ss old new × ConsultSteps n p ss q

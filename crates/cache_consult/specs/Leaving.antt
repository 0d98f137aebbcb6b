-- The steps of which a consultation is made: loads, and updates that take touches. Source: this project's own.
use Rattle.std.specs.Prelude.{ℕ, List, [], ◌∷◌}
use Rattle.pool_rule.specs.declared.geometry.WordName.TheVariants.{KeyOf, Last, Touches}
use Rattle.pool_rule.specs.declared.word_step.WordStep.{WordStep}
use Rattle.pool_rule.specs.declared.word_step.WordStep.TheVariants.{Looked, Updated}

-- a step of a consultation
pub data IsLearnStep : WordStep → Type 0 where
  load_touches : (header found : ℕ) → IsLearnStep (Looked (Touches header) found)
  take_touches : (header found : ℕ) → IsLearnStep (Updated (Touches header) found 0)
  load_key : (header found : ℕ) → IsLearnStep (Looked (KeyOf header) found)
  load_last : (header found : ℕ) → IsLearnStep (Looked (Last header) found)

abbrev pub AreLearnSteps : List WordStep → Type 0
AreLearnSteps [] = Unit {0}
AreLearnSteps (s ∷ ss) = IsLearnStep s × AreLearnSteps ss

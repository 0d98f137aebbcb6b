-- How many buffers a list of steps published.
use Rattle.std.specs.Prelude.{◌≡◌, ℕ, ◌+◌, List, [], ◌∷◌, ◌++◌}
use Rattle.std.proofs.Common.{arith}
use Rattle.pool_rule.specs.declared.word_step.WordStep.{WordStep}
use Rattle.pool_rule.specs.declared.word_step.WordStep.TheVariants.{Looked, LookedAtCell, Missed, Granted, Returned, Opened, Named}
use Rattle.pool_rule.specs.declared.word_step.WordStep.TheVariants.{Filled, Published, Counted, Uncounted, EvictBegun, HeaderReleased}
use Rattle.pool_rule.specs.declared.word_step.WordStep.TheVariants.{Updated}

abbrev pub published_by : WordStep → ℕ
published_by (Looked word found) = 0
published_by (LookedAtCell cell found) = 0
published_by (Missed word found) = 0
published_by (Granted b found) = 0
published_by (Returned b found) = 0
published_by (Opened header b cells) = 0
published_by (Named header b key found) = 0
published_by (Filled header b key done value found) = 0
published_by (Published header b key found) = 1
published_by (Counted header found) = 0
published_by (Uncounted header found) = 0
published_by (EvictBegun header found) = 0
published_by (HeaderReleased header b found) = 0
published_by (Updated word found left) = 0

abbrev pub publications : List WordStep → ℕ
publications [] = 0
publications (s ∷ ss) = published_by s + publications ss

pub publications-append : (xs ys : List WordStep) → publications (xs ++ ys) ≡ publications xs + publications ys
publications-append [] ys = omega arith
publications-append (x ∷ xs) ys = let e = publications-append xs ys in omega (arith, e)

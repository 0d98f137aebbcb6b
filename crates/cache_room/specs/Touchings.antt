-- How often a list of steps touches a header. A touch updates the header's last tick, and nothing else does.
use Rattle.std.specs.Prelude.{◌≡◌, ℕ, ◌+◌, List, [], ◌∷◌, ◌++◌}
use Rattle.std.proofs.Common.{arith}
use Rattle.pool_rule.specs.declared.geometry.WordName.{WordName}
use Rattle.pool_rule.specs.declared.geometry.WordName.TheVariants.{Arena, State, KeyOf, Touches, Last, Clock}
use Rattle.pool_rule.specs.declared.word_step.WordStep.{WordStep}
use Rattle.pool_rule.specs.declared.word_step.WordStep.TheVariants.{Looked, LookedAtCell, Missed, Granted, Returned}
use Rattle.pool_rule.specs.declared.word_step.WordStep.TheVariants.{Opened, Named, Filled, Published, Counted}
use Rattle.pool_rule.specs.declared.word_step.WordStep.TheVariants.{Uncounted, EvictBegun, HeaderReleased, Updated}

abbrev pub touched_word : WordName → ℕ
touched_word (Arena i) = 0
touched_word (State header) = 0
touched_word (KeyOf header) = 0
touched_word (Touches header) = 0
touched_word (Last header) = 1
touched_word Clock = 0

abbrev pub touched_by : WordStep → ℕ
touched_by (Looked word found) = 0
touched_by (LookedAtCell cell found) = 0
touched_by (Missed word found) = 0
touched_by (Granted b found) = 0
touched_by (Returned b found) = 0
touched_by (Opened header b cells) = 0
touched_by (Named header b key found) = 0
touched_by (Filled header b key done value found) = 0
touched_by (Published header b key found) = 0
touched_by (Counted header found) = 0
touched_by (Uncounted header found) = 0
touched_by (EvictBegun header found) = 0
touched_by (HeaderReleased header b found) = 0
touched_by (Updated word found left) = touched_word word

abbrev pub touchings : List WordStep → ℕ
touchings [] = 0
touchings (s ∷ ss) = touched_by s + touchings ss

pub touchings-append : (xs ys : List WordStep) → touchings (xs ++ ys) ≡ touchings xs + touchings ys
touchings-append [] ys = omega arith
touchings-append (x ∷ xs) ys = let e = touchings-append xs ys in omega (arith, e)

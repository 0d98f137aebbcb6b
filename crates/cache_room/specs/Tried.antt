-- Which headers were tried, and what else a list of steps tells. Source: this project's own.
use Rattle.std.specs.Prelude.{◌≢◌, ◌==◌, ℕ, ◌+◌, if◌then◌else◌, List, [], ◌∷◌, ◌⊎◌, Option, None, Some}
use Rattle.std.specs.Option.{option_or}
use Rattle.pool_model.specs.declared.block.Block.{Block}
use Rattle.pool_rule.specs.declared.geometry.WordName.TheVariants.{State, Touches}
use Rattle.pool_rule.specs.declared.view.Event.{Event}
use Rattle.pool_rule.specs.declared.view.Event.TheVariants.{Stepped, Parted, Joined}
use Rattle.pool_rule.specs.declared.word_step.WordStep.{WordStep}
use Rattle.pool_rule.specs.declared.word_step.WordStep.TheVariants.{Looked, LookedAtCell, Missed, Granted, Returned, Opened, Named}
use Rattle.pool_rule.specs.declared.word_step.WordStep.TheVariants.{Filled, Published, Counted, Uncounted, EvictBegun, HeaderReleased}
use Rattle.pool_rule.specs.declared.word_step.WordStep.TheVariants.{Updated}
use Rattle.pool_rule.specs.WordSteps.{IsIdleWord}

-- a step on the header's touches
pub data IsTouching (header : ℕ) : WordStep → Type 0 where
  touches_loaded : (found : ℕ) → IsTouching header (Looked (Touches header) found)
  touches_changed : (found left : ℕ) → IsTouching header (Updated (Touches header) found left)

abbrev pub HasTouch : ℕ → List WordStep → Type 0
HasTouch header [] = ⊥
HasTouch header (s ∷ ss) = IsTouching header s ⊎ HasTouch header ss

-- The steps begin with the end of a try of the header: a load shows a state other than that of a live buffer without a count; or
-- the exchange that would evict finds another word than the load before it; or the buffer is evicted, and its header released.
pub data IsEnd (header : ℕ) : List WordStep → Type 0 where
  shown : (word : ℕ) (rest : List WordStep) → (IsIdleWord word → ⊥) → IsEnd header (Looked (State header) word ∷ rest)
  lost : (word saw : ℕ) (rest : List WordStep) → saw ≢ word → IsEnd header (Looked (State header) word ∷ Missed (State header) saw ∷ rest)
  gone : (word released : ℕ) (b : Block) (rest : List WordStep)
      → IsEnd header (EvictBegun header word ∷ HeaderReleased header b released ∷ rest)

abbrev pub HasEnd : ℕ → List WordStep → Type 0
HasEnd header [] = ⊥
HasEnd header (s ∷ ss) = IsEnd header (s ∷ ss) ⊎ HasEnd header ss

-- The header was tried: there is a step on its touches, and after it the end of a try.
abbrev pub IsTried : ℕ → List WordStep → Type 0
IsTried header [] = ⊥
IsTried header (s ∷ ss) = (IsTouching header s × HasEnd header ss) ⊎ IsTried header ss

-- how many headers were released
abbrev pub released_by : WordStep → ℕ
released_by (Looked word found) = 0
released_by (LookedAtCell cell found) = 0
released_by (Missed word found) = 0
released_by (Granted b found) = 0
released_by (Returned b found) = 0
released_by (Opened header b cells) = 0
released_by (Named header b key found) = 0
released_by (Filled header b key done value found) = 0
released_by (Published header b key found) = 0
released_by (Counted header found) = 0
released_by (Uncounted header found) = 0
released_by (EvictBegun header found) = 0
released_by (HeaderReleased header b found) = 1
released_by (Updated word found left) = 0

abbrev pub releases : List WordStep → ℕ
releases [] = 0
releases (s ∷ ss) = released_by s + releases ss

-- the value that the last step on a word found there
abbrev pub saw_by : ℕ → Event → Option ℕ
saw_by word (Stepped w old new access) = if w == word then Some old else None
saw_by word (Parted numbers) = None
saw_by word Joined = None

abbrev pub last_saw : ℕ → List Event → Option ℕ
last_saw word [] = None
last_saw word (e ∷ es) = option_or (last_saw word es) (saw_by word e)

-- By which steps a header's buffer is evicted, or is not. Source: this project's own.
use Rattle.std.specs.Prelude.{◌≢◌, ℕ, List, [], ◌∷◌, Option, Result, Ok, Err}
use Rattle.pool_model.specs.declared.block.Block.{Block}
use Rattle.pool_model.specs.Content.{Files}
use Rattle.pool_rule.specs.declared.geometry.Geometry.{Geometry}
use Rattle.pool_rule.specs.declared.geometry.WordName.TheVariants.{State}
use Rattle.pool_rule.specs.declared.view.View.{View}
use Rattle.pool_rule.specs.declared.word_step.WordStep.{WordStep}
use Rattle.pool_rule.specs.declared.word_step.WordStep.TheVariants.{EvictBegun, HeaderReleased, Looked, Missed, Returned}
use Rattle.pool_rule.specs.WordSteps.{IsIdleWord, block_in}
use Rattle.buffer_pool.specs.declared.fault.Held.{Held}
use Rattle.buffer_pool.specs.Made.{AreMade}

-- a load showed an idle buffer; from that word it is evicted, its header is released, and its block is given back
pub data OutSteps (header : ℕ) : List WordStep → Block → Type 0 where
  out : (word released given : ℕ) → IsIdleWord word → OutSteps header
      (Looked (State header) word ∷ EvictBegun header word ∷ HeaderReleased header
      (block_in word) released ∷ Returned (block_in word) given ∷ [])
      (block_in word)

-- a load showed another word, or the exchange found another than the load: it is refused by that word
pub data HeldSteps (header : ℕ) : List WordStep → ℕ → Type 0 where
  shown : (word : ℕ) → (IsIdleWord word → ⊥) → HeldSteps header (Looked (State header) word ∷ []) word
  lost : (word saw : ℕ) → IsIdleWord word → saw ≢ word → HeldSteps header (Looked (State header) word ∷ Missed (State header) saw ∷ []) saw

abbrev pub TrySteps : ℕ → List WordStep → Result Block Held → Type 0
TrySteps header ss (Ok b) = OutSteps header ss b
TrySteps header ss (Err held) = HeldSteps header ss held.word

-- the seat made such steps and no others
abbrev pub Tries : Option Files → Geometry → ℕ → ℕ → View → View → Result Block Held → Type 0
Tries files g id header old new r = (ss : List WordStep) × AreMade files g id ss old new × TrySteps header ss r

-- The steps of an eviction whose block is granted again.
use Rattle.std.specs.Prelude.{◌≡◌, ℕ, ◌/◌, [], ◌∷◌, Option}
use Rattle.pool_model.specs.declared.block.Block.{Block}
use Rattle.pool_model.specs.Content.{Files}
use Rattle.pool_rule.specs.declared.geometry.Geometry.{Geometry}
use Rattle.pool_rule.specs.declared.geometry.WordName.TheVariants.{Arena, State}
use Rattle.pool_rule.specs.declared.view.View.{View}
use Rattle.pool_rule.specs.declared.word_step.WordStep.TheVariants.{EvictBegun, Granted, HeaderReleased, Looked, Returned}
use Rattle.pool_rule.specs.WordSteps.{IsIdleWord, block_in}
use Rattle.buffer_pool.specs.Made.{AreMade}

-- The state was loaded, and was that of a live buffer without a count. From that word the buffer was evicted, its header was
-- released, and its block was given back. Then the word of its arena was loaded, and a block of the same order and arena was
-- granted from it.
abbrev pub GrantsAgain : Option Files → Geometry → ℕ → ℕ → Block → View → View → Type 0
GrantsAgain files g id header b old new =
    (state released given word : ℕ) × IsIdleWord state × (b.order ≡ (block_in state).order) × (b.place / 64 ≡ (block_in state).place / 64)
    × AreMade files g id
    (Looked (State header) state ∷ EvictBegun header state
    ∷ HeaderReleased header (block_in state) released ∷ Returned (block_in state) given
    ∷ Looked (Arena ((block_in state).place / 64)) word ∷ Granted b word ∷ [])
    old new

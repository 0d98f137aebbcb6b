-- The steps by which two seats share a range, and the trails that they leave.
use Rattle.std.specs.Prelude.{◌≡◌, ℕ, ◌+◌, ◌*◌, ◌/◌, ◌%◌, List, [], ◌∷◌, ◌++◌, map, length, Option}
use Rattle.buffer_word.specs.declared.key_word.Key.{Key}
use Rattle.buffer_word.specs.KeyWord.{key_word}
use Rattle.pool_model.specs.declared.block.Block.{Block}
use Rattle.pool_model.specs.Content.{Files, cells_of}
use Rattle.pool_rule.specs.declared.geometry.Geometry.{Geometry}
use Rattle.pool_rule.specs.declared.geometry.WordName.TheVariants.{KeyOf}
use Rattle.pool_rule.specs.declared.view.View.{View}
use Rattle.pool_rule.specs.declared.word_step.WordStep.{WordStep}
use Rattle.pool_rule.specs.declared.word_step.WordStep.TheVariants.{Looked, Granted, Opened, Named, Published, Counted, Uncounted}
use Rattle.pool_rule.specs.Layout.{block_cells}
use Rattle.pool_rule.specs.WordSteps.{event_of}
use Rattle.buffer_pool.specs.Made.{AreMade, IsLiveWord, cell_in, cells_touched, fill_steps, load_steps}
use Rattle.buffer_pool.specs.Pools.{buffer_key}

-- a grant, the opening of a header with its key, a store for each cell, and the publish
abbrev pub publish_steps : ℕ → Key → Block → ℕ → List ℕ → List ℕ → ℕ → List ℕ → ℕ → List WordStep
publish_steps header key b seen bytes cells named filled published =
    Granted b seen ∷ Opened header b cells ∷ Named header b (buffer_key key) named
    ∷ (fill_steps header b (buffer_key key) (cell_in bytes) 0 filled ++ Published header b (buffer_key key) published ∷ [])

-- the seat made these steps and no others
abbrev pub Publishes : Option Files → Geometry → ℕ → ℕ → Key → Block → ℕ → List ℕ → View → View → Type 0
Publishes files g id header key b seen bytes old new =
    (cells : List ℕ) × (named : ℕ) × (filled : List ℕ) × (published : ℕ) × (length filled ≡ cells_of (buffer_key key))
    × AreMade files g id (publish_steps header key b seen bytes cells named filled published) old new

-- and let the buffer go in the end: its trail is that list
abbrev pub Shares : Option Files → Geometry → ℕ → ℕ → Key → Block → ℕ → List ℕ → View → View → Type 0
Shares files g id header key b seen bytes old new =
    (cells : List ℕ) × (named : ℕ) × (filled : List ℕ) × (published left : ℕ) × (length filled ≡ cells_of (buffer_key key))
    × (new.trail ≡ old.trail
    ++ map (event_of g) (publish_steps header key b seen bytes cells named filled published ++ Uncounted header left ∷ []))

-- a pin, a load of each cell that holds a byte of the range, and the pin's return
abbrev pub read_steps : Geometry → ℕ → Key → ℕ → ℕ → Block → List ℕ → ℕ → List WordStep
read_steps g header key at word b found left =
    Counted header word ∷ Looked (KeyOf header) (key_word key)
    ∷ (load_steps (b.place * block_cells g + at / 8) found ++ Uncounted header left ∷ [])

abbrev pub Reads : Option Files → Geometry → ℕ → ℕ → Key → ℕ → List ℕ → View → View → Type 0
Reads files g id header key at bytes old new =
    (word : ℕ) × (b : Block) × (found : List ℕ) × (left : ℕ) × IsLiveWord word × (length found ≡ cells_touched (at % 8) (length bytes))
    × (new.trail ≡ old.trail ++ map (event_of g) (read_steps g header key at word b found left))

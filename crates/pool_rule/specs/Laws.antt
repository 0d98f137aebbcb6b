-- What the rule says of a pool, beyond its own sentences. `StandsFor` is the rule: words and views stand for a pool.
use Rattle.std.specs.Prelude.{◌≡◌, ◌↔◌, ℕ, ◌+◌, ◌*◌, ◌/◌, ◌%◌, ◌<◌, ◌≤◌, List, length, Option, Some, slice_index}
use Rattle.std.specs.Int.{bit_at}
use mathlib.Core.Option.{some}
use lib.ListN.{get_elem?}
use Rattle.buffer_word.specs.declared.state_word.State.{State}
use Rattle.buffer_word.specs.StateWord.{IsPackable, state_word}
use Rattle.buffer_word.specs.KeyWord.{IsKey, key_word}
use Rattle.pool_model.specs.declared.buffer.Buffer.{Buffer}
use Rattle.pool_model.specs.declared.buffer.BufferKey.{BufferKey}
use Rattle.pool_model.specs.declared.pool.PlainPool.{PlainPool}
use Rattle.pool_model.specs.declared.step.Step.{Step}
use Rattle.pool_model.specs.Buffer.{Holds}
use Rattle.pool_model.specs.Content.{Files}
use Rattle.pool_model.specs.Lawful.{IsLawful}
use Rattle.pool_model.specs.Parts.{IsUnowned}
use Rattle.pool_model.specs.Pool.{buffer_at}
use Rattle.pool_rule.specs.declared.geometry.Setup.{Setup}
use Rattle.pool_rule.specs.declared.geometry.Geometry.{Geometry}
use Rattle.pool_rule.specs.declared.view.Claim.TheVariants.{Unclaimed}
use Rattle.pool_rule.specs.declared.view.Hold.{Hold}
use Rattle.pool_rule.specs.declared.view.Hold.TheVariants.{Free, Bid, Pinned}
use Rattle.pool_rule.specs.declared.view.View.{View}
use Rattle.pool_rule.specs.Headers.{packed}
use Rattle.pool_rule.specs.Layout.{AreSeats, IsGeometry, block_cells, cell_word, header_word, headers_of, places_of}
use Rattle.pool_rule.specs.Rule.{StandsFor, count_of, setting_of, view_at}
use Rattle.pool_rule.specs.Seats.{mark_at}
use Rattle.pool_rule.specs.WordSteps.{Stood}

-- the pool for which words and views stand is lawful
abbrev pub APoolIsLawful : Type 0
APoolIsLawful =
    (files : Option Files) (setup : Setup) (words : List ℕ) (views : List View) (log : List Step) (pool : PlainPool) →
    StandsFor files setup words views log pool → IsLawful (setting_of files setup.geometry) pool

-- each state word is a state's, whose count is how many seats have a pin or a bid on the header, of which there are 64 at most
abbrev pub StateWordsUnpack : Type 0
StateWordsUnpack =
    (files : Option Files) (setup : Setup) (words : List ℕ) (views : List View) (log : List Step) (pool : PlainPool) →
    StandsFor files setup words views log pool → IsGeometry setup.geometry → AreSeats setup.seats →
    (header : ℕ) → header < headers_of setup.geometry →
    (s : State) × IsPackable s × (slice_index words (header_word setup.geometry header) ≡ state_word s)
    × (s.count ≡ count_of header views) × (s.count ≤ 64)

-- a bit of an arena's word is clear exactly where no block, target or grant has that minimum block
abbrev pub ClearBitsAreFree : Type 0
ClearBitsAreFree =
    (files : Option Files) (setup : Setup) (words : List ℕ) (views : List View) (log : List Step) (pool : PlainPool) →
    StandsFor files setup words views log pool →
    (m : ℕ) → m < places_of setup.geometry → (bit_at (slice_index words (m / 64)) (m % 64) ≡ 0) ↔ IsUnowned pool m

-- the hold is a pin
abbrev pub IsPin : Hold → Type 0
IsPin Free = ⊥
IsPin Bid = ⊥
IsPin (Pinned block key) = Unit {0}

-- What words and views say of a header's buffer: its cells are the words at its block's place, its key is the one that the
-- key word packs, its holders are the seats that have a pin, and its claimant is a seat that has a claim.
pub record IsSaid (g : Geometry) (words : List ℕ) (views : List View) (header : ℕ) (b : Buffer) : Type 0 where
  pub cells : (j : ℕ) → j < length b.cells → slice_index b.cells j ≡ slice_index words (cell_word g (b.block.place * block_cells g + j))
  pub key : (k : BufferKey) → b.key ≡ Some k → IsKey (packed k) × (slice_index words (header_word g header + 1) ≡ key_word (packed k))
  pub holders : (seat : ℕ) → Holds seat b.holders ↔ IsPin (mark_at (view_at views seat) header).hold
  pub claimant : (seat : ℕ) → b.claimant ≡ Some seat → (mark_at (view_at views seat) header).claim ≡ Unclaimed → ⊥

abbrev pub BuffersAreSaid : Type 0
BuffersAreSaid =
    (files : Option Files) (setup : Setup) (words : List ℕ) (views : List View) (log : List Step) (pool : PlainPool) →
    StandsFor files setup words views log pool →
    (header : ℕ) (b : Buffer) → header < headers_of setup.geometry → buffer_at pool header ≡ Some b
    → IsSaid setup.geometry words views header b

-- where a step told that there was a pool, and the seat knew the words, they and its view stood for that pool
abbrev pub KnownWordsStand : Type 0
KnownWordsStand =
    (files : Option Files) (g : Geometry) (id word found : ℕ) (v : View) (known : List ℕ) →
    Stood files g id word found v → v.known ≡ Some known →
    (setup : Setup) × (views : List View) × (log : List Step) × (pool : PlainPool) × (setup.geometry ≡ g)
    × StandsFor files setup known views log pool × (get_elem? views id ≡ some v)

-- Steps that leave a seat what it had, and each of which is right: consultations, evictions, and what else comes to nothing.
-- Source: this project's own.
use Rattle.std.specs.Prelude.{◌≡◌, ℕ, List, [], Option, None, Some}
use Rattle.buffer_word.specs.declared.key_word.Key.{Key}
use Rattle.pool_model.specs.declared.block.Block.{Block}
use Rattle.pool_model.specs.Content.{Files}
use Rattle.pool_rule.specs.declared.geometry.Geometry.{Geometry}
use Rattle.pool_rule.specs.declared.view.Hold.{Hold}
use Rattle.pool_rule.specs.declared.view.Hold.TheVariants.{Free, Bid, Pinned}
use Rattle.pool_rule.specs.declared.view.View.{View}
use Rattle.pool_rule.specs.declared.word_step.WordStep.{WordStep}
use Rattle.pool_rule.specs.declared.word_step.WordStep.TheVariants.{Granted, Opened}
use Rattle.pool_rule.specs.Seats.{mark_at}
use Rattle.cache_lookup.specs.Before.{IsAsBefore}
use Rattle.cache_lookup.specs.Right.{AreRight}
use Rattle.cache_lookup.specs.Trails.{Among}
use Rattle.cache_placement.specs.Publications.{publications}
use Rattle.cache_room.specs.Touchings.{touchings}

-- The seat made these steps of a call for that key. Each was right at its moment, none granted a block, opened or touched a header or
-- published a buffer, and the seat has what it had.
pub record IsQuiet (files : Option Files) (g : Geometry) (id : ℕ) (key : Key) (old : View) (ss : List WordStep) (new : View) : Type 0 where
  pub right : AreRight files g id key ⊥ old [] old ss new
  pub before : IsAsBefore old new
  pub ungranted : (b : Block) (found : ℕ) → Among (Granted b found) ss → ⊥
  pub unopened : (header : ℕ) (b : Block) (cells : List ℕ) → Among (Opened header b cells) ss → ⊥
  pub unpublished : publications ss ≡ 0
  pub untouched : touchings ss ≡ 0

-- each pin's key is known
abbrev pub IsKnownHold : Hold → Type 0
IsKnownHold Free = Unit {0}
IsKnownHold Bid = Unit {0}
IsKnownHold (Pinned b None) = ⊥
IsKnownHold (Pinned b (Some k)) = Unit {0}

abbrev pub AreKnown : View → Type 0
AreKnown v = (header : ℕ) → IsKnownHold (mark_at v header).hold

-- What one step on a word has to keep, and what it tells its seat. Source: this project's own.
use Rattle.std.specs.Prelude.{◌≡◌, ◌≢◌, ℕ, ◌+◌, ◌/◌, ◌%◌, ◌^◌, ◌<◌, max, List, Option, slice_index, slice_set}
use mathlib.Core.Option.{some}
use lib.ListN.{get_elem?}
use Rattle.atomic_table.specs.Table.{Me}
use Rattle.atomic_table.specs.Table as table
use Rattle.pool_model.specs.Content.{Files}
use Rattle.pool_rule.specs.declared.aim.Aim.{Aim}
use Rattle.pool_rule.specs.declared.aim.Aim.TheVariants.{Look, LookAtCell, Take, Return, Open, StoreKey}
use Rattle.pool_rule.specs.declared.aim.Aim.TheVariants.{StoreCell, Publish, Count, Uncount, BeginEvict}
use Rattle.pool_rule.specs.declared.aim.Aim.TheVariants.{Release, Increase, Raise, Clear}
use Rattle.pool_rule.specs.declared.geometry.Geometry.{Geometry}
use Rattle.pool_rule.specs.declared.geometry.Setup.{Setup}
use Rattle.pool_rule.specs.declared.geometry.WordName.TheVariants as name
use Rattle.pool_rule.specs.declared.view.View.{View}
use Rattle.pool_rule.specs.declared.word_step.WordStep.TheVariants.{Looked, LookedAtCell, Missed, Granted, Returned}
use Rattle.pool_rule.specs.declared.word_step.WordStep.TheVariants.{Opened, Named, Filled, Published, Counted}
use Rattle.pool_rule.specs.declared.word_step.WordStep.TheVariants.{Uncounted, EvictBegun, HeaderReleased, Updated}
use Rattle.pool_rule.specs.Rule.{Kept}
use Rattle.pool_rule.specs.WordSteps.{IsMade}

-- Whatever words and views are while the rule holds and the seat has that view: when the word becomes f of what it was,
-- the seat has a new view by which the rule is kept, and `told` holds of the word that was found and of the two views.
abbrev pub IsAllowed : Option Files → Setup → ℕ → View → ℕ → (ℕ → ℕ) → (ℕ → View → View → Type 0) → Type 0
IsAllowed files setup id v word f told =
    (words : List ℕ) (views : List View) → Kept files setup words views → get_elem? views id ≡ some v → slice_index words word < 2 ^ 64 →
    (w : View) × Kept files setup (slice_set words word (f (slice_index words word))) (slice_set views id w)
    × told (slice_index words word) v w

-- the seat is told that of the word and of its views before and after, and its slots stay
abbrev pub plays : {S : Type 0} → (ℕ → View → View → Type 0) → table.Step S → Me S View → ℕ → Me S View → Type 0
plays told st me found new = told found me.0 new.0 × (new.1 ≡ me.1)

-- What a step of that aim tells, given the word that was found. An exchange is one step where the word was the expected one,
-- and else another; a store tells no word, so there is one.
abbrev pub told_by : Option Files → Geometry → ℕ → Aim → ℕ → View → View → Type 0
told_by files g id (Look word) found v w = IsMade files g id (Looked word found) v w
told_by files g id (LookAtCell cell) found v w = IsMade files g id (LookedAtCell cell found) v w
told_by files g id (Take b seen) found v w =
    (found ≡ seen → IsMade files g id (Granted b found) v w)
    × (found ≢ seen → IsMade files g id (Missed (name.Arena (b.place / 64)) found) v w)
told_by files g id (Return b) found v w = IsMade files g id (Returned b found) v w
told_by files g id (Open header b) found v w =
    (found ≡ 8 → (cells : List ℕ) × IsMade files g id (Opened header b cells) v w)
    × (found ≢ 8 → IsMade files g id (Missed (name.State header) found) v w)
told_by files g id (StoreKey header b key) stored v w = (found : ℕ) × IsMade files g id (Named header b key found) v w
told_by files g id (StoreCell header b key done value) stored v w =
    (found : ℕ) × IsMade files g id (Filled header b key done value found) v w
told_by files g id (Publish header b key) found v w = IsMade files g id (Published header b key found) v w
told_by files g id (Count header) found v w = IsMade files g id (Counted header found) v w
told_by files g id (Uncount header) found v w = IsMade files g id (Uncounted header found) v w
told_by files g id (BeginEvict header seen) found v w =
    (found ≡ seen → IsMade files g id (EvictBegun header found) v w)
    × (found ≢ seen → IsMade files g id (Missed (name.State header) found) v w)
told_by files g id (Release header b) found v w = IsMade files g id (HeaderReleased header b found) v w
told_by files g id (Increase word) found v w = IsMade files g id (Updated word found ((found + 1) % 2 ^ 64)) v w
told_by files g id (Raise word to) found v w = IsMade files g id (Updated word found (max found to)) v w
told_by files g id (Clear word) found v w = IsMade files g id (Updated word found 0) v w

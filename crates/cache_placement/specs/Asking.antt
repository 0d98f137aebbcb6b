-- Which arenas a list of steps asks for a block. Source: this project's own.
use Rattle.std.specs.Prelude.{◌≡◌, ℕ, ◌/◌, List, Option, Some, None}
use Rattle.pool_rule.specs.declared.geometry.WordName.{WordName}
use Rattle.pool_rule.specs.declared.geometry.WordName.TheVariants.{Arena, State, KeyOf, Touches, Last, Clock}
use Rattle.pool_rule.specs.declared.word_step.WordStep.{WordStep}
use Rattle.pool_rule.specs.declared.word_step.WordStep.TheVariants.{Looked, LookedAtCell, Missed, Granted, Returned, Opened, Named}
use Rattle.pool_rule.specs.declared.word_step.WordStep.TheVariants.{Filled, Published, Counted, Uncounted, EvictBegun, HeaderReleased}
use Rattle.pool_rule.specs.declared.word_step.WordStep.TheVariants.{Updated}
use Rattle.cache_lookup.specs.Trails.{Among}

-- the arena whose word it is
abbrev pub arena_of : WordName → Option ℕ
arena_of (Arena i) = Some i
arena_of (State header) = None
arena_of (KeyOf header) = None
arena_of (Touches header) = None
arena_of (Last header) = None
arena_of Clock = None

-- the arena that a step asks: it loads the arena's word, or has a block of it granted
abbrev pub asked_by : WordStep → Option ℕ
asked_by (Looked word found) = arena_of word
asked_by (LookedAtCell cell found) = None
asked_by (Missed word found) = None
asked_by (Granted b found) = Some (b.place / 64)
asked_by (Returned b found) = None
asked_by (Opened header b cells) = None
asked_by (Named header b key found) = None
asked_by (Filled header b key done value found) = None
asked_by (Published header b key found) = None
asked_by (Counted header found) = None
asked_by (Uncounted header found) = None
asked_by (EvictBegun header found) = None
asked_by (HeaderReleased header b found) = None
asked_by (Updated word found left) = None

-- no step asks an arena
abbrev pub AsksNone : List WordStep → Type 0
AsksNone ss = (s : WordStep) → Among s ss → asked_by s ≡ None

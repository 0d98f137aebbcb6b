-- Where room for a range is sought: which arenas are asked, and when headers are released for it. Source: this project's own.
use Rattle.std.specs.Prelude.{◌≡◌, ℕ, ◌/◌, ◌<◌, List, [], ◌∷◌, ◌++◌, ◌⊎◌, Option, Some, None}
use Rattle.std.specs.Option.{option_or}
use Rattle.buddy_arena.specs.Buddy.{IsBuddyAnswer}
use Rattle.pool_model.specs.declared.block.Block.{Block}
use Rattle.pool_rule.specs.declared.geometry.Geometry.{Geometry}
use Rattle.pool_rule.specs.declared.geometry.WordName.TheVariants.{Arena}
use Rattle.pool_rule.specs.declared.word_step.WordStep.{WordStep}
use Rattle.pool_rule.specs.declared.word_step.WordStep.TheVariants.{Looked, LookedAtCell, Missed, Granted, Returned, Opened, Named}
use Rattle.pool_rule.specs.declared.word_step.WordStep.TheVariants.{Filled, Published, Counted, Uncounted, EvictBegun, HeaderReleased}
use Rattle.pool_rule.specs.declared.word_step.WordStep.TheVariants.{Updated}
use Rattle.pool_rule.specs.Layout.{headers_of}
use Rattle.pool_rule.specs.WordSteps.{found_by}
use Rattle.cache_placement.specs.Asking.{AsksNone, asked_by}
use Rattle.cache_placement.specs.Free.{IsOrder}
use Rattle.cache_placement.specs.Placements.{HasNoRoom}
use Rattle.cache_room.specs.Tried.{IsTried, releases}

-- the block that comes free with the header which the step releases
abbrev pub freed_by : WordStep → Option Block
freed_by (Looked word found) = None
freed_by (LookedAtCell cell found) = None
freed_by (Missed word found) = None
freed_by (Granted b found) = None
freed_by (Returned b found) = None
freed_by (Opened header b cells) = None
freed_by (Named header b key found) = None
freed_by (Filled header b key done value found) = None
freed_by (Published header b key found) = None
freed_by (Counted header found) = None
freed_by (Uncounted header found) = None
freed_by (EvictBegun header found) = None
freed_by (HeaderReleased header b found) = Some b
freed_by (Updated word found left) = None

-- the arena of the block that came free last
abbrev pub arena_then : Option ℕ → Option Block → Option ℕ
arena_then last None = last
arena_then last (Some b) = Some (b.place / 64)

-- Each arena that is asked is that of the block which came free last. Before these steps that was `last`.
abbrev pub AreOwn : Option ℕ → List WordStep → Type 0
AreOwn last [] = Unit {0}
AreOwn last (s ∷ ss) = ((arena : ℕ) → asked_by s ≡ Some arena → last ≡ Some arena) × AreOwn (arena_then last (freed_by s)) ss

-- the steps begin with that block given back, and then its arena is asked
abbrev pub IsAskedNext : Block → List WordStep → Type 0
IsAskedNext b ss =
    (given found : ℕ) × (rest : List WordStep) × (ss ≡ Returned b given ∷ Looked (Arena (b.place / 64)) found ∷ rest)

-- behind each header that is released, its block is given back and then the arena of the block is asked
abbrev pub AreAskedNext : List WordStep → Type 0
AreAskedNext [] = Unit {0}
AreAskedNext (s ∷ ss) = ((b : Block) → freed_by s ≡ Some b → IsAskedNext b ss) × AreAskedNext ss

-- the word of the arena that a step asks, as the step found it
abbrev pub found_if : Option ℕ → ℕ → Option ℕ
found_if None found = None
found_if (Some arena) found = Some found

abbrev pub shown_by : WordStep → Option ℕ
shown_by s = found_if (asked_by s) (found_by s)

-- the word of the arena that was asked last, as it was then
abbrev pub last_shown : List WordStep → Option ℕ
last_shown [] = None
last_shown (s ∷ ss) = option_or (last_shown ss) (shown_by s)

-- if there is such a word, it shows no free block for so many bytes
abbrev pub HasNoBlock : Geometry → ℕ → Option ℕ → Type 0
HasNoBlock g len None = Unit {0}
HasNoBlock g len (Some word) = (order : ℕ) × IsOrder g len order × IsBuddyAnswer 64 word order None

-- A header is released only where the arena that was asked last showed no free block for so many bytes, or none was asked. Before these
-- steps the word of that arena was `last`.
abbrev pub AreInNeed : Geometry → ℕ → Option ℕ → List WordStep → Type 0
AreInNeed g len last [] = Unit {0}
AreInNeed g len last (s ∷ ss) =
    ((b : Block) → freed_by s ≡ Some b → HasNoBlock g len last) × AreInNeed g len (option_or (shown_by s) last) ss

-- Behind each header that is released the arena of its block is asked next, and no arena is asked elsewhere. Another header is released
-- behind that only where this arena showed no free block for so many bytes when it was asked last.
pub record AsksOwn (g : Geometry) (len : ℕ) (ss : List WordStep) : Type 0 where
  pub own : AreOwn None ss
  pub next : AreAskedNext ss
  pub need : AreInNeed g len None ss

-- The arenas of the blocks that came free were asked, and no others, unless each header had been tried by then; and one header more was
-- released only where the arena that was asked last showed no free block for so many bytes.
pub record IsSought (g : Geometry) (len : ℕ) (ss : List WordStep) : Type 0 where
  pub trying : List WordStep
  pub end : List WordStep
  pub parts : ss ≡ trying ++ end
  pub asks : AsksOwn g len trying
  pub kept : releases end ≡ 0
  pub last : AsksNone end ⊎ ((header : ℕ) → header < headers_of g → IsTried header trying)

-- So many bytes were to have room by these steps. The first header was released only behind steps by whose last loads no arena had a free
-- block of the order, and each further one only where the arena of the block that came free before it showed none.
pub record SeeksRoom (g : Geometry) (len : ℕ) (ss : List WordStep) : Type 0 where
  pub asking : List WordStep
  pub more : List WordStep
  pub parts : ss ≡ asking ++ more
  pub kept : releases asking ≡ 0
  pub full : (releases more ≡ 0)
      ⊎ ((order : ℕ) × IsOrder g len order × (words : List ℕ) × HasNoRoom g order 0 g.arenas asking words)
  pub sought : IsSought g len more

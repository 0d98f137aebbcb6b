-- What is tried to make room for a range, and what comes of it. Source: this project's own.
use Rattle.std.specs.Prelude.{◌≡◌, ℕ, ◌+◌, ◌++◌, ◌-◌, ◌^◌, ◌<◌, ◌≤◌, min, Bool, true, false, List, length, Option, None, Some, slice_index}
use Rattle.std.specs.Prelude.{slice_index_or, slice_set}
use Rattle.buffer_word.specs.declared.key_word.Key.{Key}
use Rattle.buffer_word.specs.KeyWord.{IsKey}
use Rattle.pool_model.specs.declared.block.Block.{Block}
use Rattle.pool_model.specs.Content.{Files, IsRange}
use Rattle.pool_rule.specs.declared.geometry.Geometry.{Geometry}
use Rattle.pool_rule.specs.declared.view.View.{View}
use Rattle.pool_rule.specs.declared.word_step.WordStep.{WordStep}
use Rattle.pool_rule.specs.declared.word_step.WordStep.TheVariants.{HeaderReleased}
use Rattle.pool_rule.specs.Layout.{header_word, headers_of}
use Rattle.buffer_pool.specs.Pools.{IsContentOf, buffer_key}
use Rattle.cache_lookup.specs.Trails.{Among, events}
use Rattle.cache_placement.specs.declared.why.Placed.{Placed}
use Rattle.cache_placement.specs.declared.why.Placed.TheVariants.{Filled, Bypass}
use Rattle.cache_placement.specs.declared.why.Why.TheVariants.{NoRoom, Raced, Busy, SetFull, PolicyOut}
use Rattle.cache_placement.specs.Free.{IsFirstFree, IsOrder, NoneFree}
use Rattle.cache_placement.specs.Placements.{IsPlacement}
use Rattle.cache_room.specs.declared.wanted.Wanted.{Wanted}
use Rattle.cache_room.specs.Quiet.{IsQuiet}
use Rattle.cache_room.specs.Seeking.{AsksOwn, HasNoBlock, IsSought, SeeksRoom, last_shown}
use Rattle.cache_room.specs.Tried.{HasTouch, IsTried, last_saw, releases}

-- ---- a way of a set

-- The ways that are marked were tried by steps that released no header, after each header's touches were looked at; and these are
-- the words that the last steps on their states found.
pub record WaysTried (files : Option Files) (g : Geometry) (id : ℕ) (key : Key) (first : ℕ) (old : View) (seen : List ℕ) (tried : List Bool)
    (new : View) : Type 0 where
  pub ss : List WordStep
  pub quiet : IsQuiet files g id key old ss new
  pub touched : (header : ℕ) → header < headers_of g → HasTouch header ss
  pub none : releases ss ≡ 0
  pub ended : (way : ℕ) → slice_index_or tried way false ≡ true → IsTried (first + way) ss
      × (last_saw (header_word g (first + way)) (events g ss) ≡ Some (slice_index seen way))

-- That way was freed: its header was released, and no other.
pub record IsWayFreed (files : Option Files) (g : Geometry) (id : ℕ) (key : Key) (first : ℕ) (old : View) (way : ℕ)
    (new : View) : Type 0 where
  pub ss : List WordStep
  pub quiet : IsQuiet files g id key old ss new
  pub inside : way < 8
  pub released : (b : Block) × (found : ℕ) × Among (HeaderReleased (first + way) b found) ss
  pub one : releases ss ≡ 1

-- Each way was tried and none freed, and these are the words that the last steps on their states found.
pub record IsSetTried (files : Option Files) (g : Geometry) (id : ℕ) (key : Key) (first : ℕ) (old : View)
    (seen : List ℕ) (new : View) : Type 0 where
  pub ss : List WordStep
  pub quiet : IsQuiet files g id key old ss new
  pub none : releases ss ≡ 0
  pub tried : (way : ℕ) → way < 8 → IsTried (first + way) ss
  pub last : (way : ℕ) → way < 8 → last_saw (header_word g (first + way)) (events g ss) ≡ Some (slice_index seen way)

-- a way was freed, or what is marked was tried
abbrev pub WaysLeft : Option Files → Geometry → ℕ → Key → ℕ → View → List ℕ → List Bool → View → Option ℕ → Type 0
WaysLeft files g id key first old seen tried new None = WaysTried files g id key first old seen tried new
WaysLeft files g id key first old seen tried new (Some way) = IsWayFreed files g id key first old way new

-- a way was freed, or each was tried
abbrev pub FreesWay : Option Files → Geometry → ℕ → Key → ℕ → View → List ℕ → View → Option ℕ → Type 0
FreesWay files g id key first old seen new None = IsSetTried files g id key first old seen new
FreesWay files g id key first old seen new (Some way) = IsWayFreed files g id key first old way new

-- ---- a block

-- each of the first n headers is marked
abbrev pub AreMarked : ℕ → List Bool → Type 0
AreMarked n tried = (header : ℕ) → header < n → slice_index_or tried header false ≡ true

-- a count of releases, which stops at its type's greatest number
abbrev pub counted : List WordStep → ℕ
counted ss = min (releases ss) (2 ^ 32 - 1)

-- The headers that are marked were tried, after each header's touches were looked at. So many were released, and behind each the arena of
-- its block was asked, and no other arena; and each time it showed no free block when it was asked last.
pub record HeadersTried (files : Option Files) (g : Geometry) (id : ℕ) (key : Key) (old : View) (tried : List Bool)
    (evicted : ℕ) (new : View) : Type 0 where
  pub ss : List WordStep
  pub quiet : IsQuiet files g id key old ss new
  pub touched : (header : ℕ) → header < headers_of g → HasTouch header ss
  pub count : evicted ≡ counted ss
  pub asks : AsksOwn g key.len ss
  pub vain : HasNoBlock g key.len (last_shown ss)
  pub ended : (header : ℕ) → slice_index_or tried header false ≡ true → IsTried header ss

-- where the answer is that there is no room, that holds
abbrev pub IfNoRoom : Placed → Type 0 → Type 0
IfNoRoom (Filled pin) P = Unit {0}
IfNoRoom (Bypass (NoRoom words)) P = P
IfNoRoom (Bypass (Raced saw)) P = Unit {0}
IfNoRoom (Bypass (Busy word)) P = Unit {0}
IfNoRoom (Bypass (SetFull states)) P = Unit {0}
IfNoRoom (Bypass PolicyOut) P = Unit {0}

-- The answer of a placement, but for want of room
abbrev pub unless_full : Placed → Option Placed
unless_full (Filled pin) = Some (Filled pin)
unless_full (Bypass (NoRoom words)) = None
unless_full (Bypass (Raced saw)) = Some (Bypass (Raced saw))
unless_full (Bypass (Busy word)) = Some (Bypass (Busy word))
unless_full (Bypass (SetFull states)) = Some (Bypass (SetFull states))
unless_full (Bypass PolicyOut) = Some (Bypass PolicyOut)

-- Room was made by steps that released so many headers and left the seat what it had, and then the range was placed, with that answer.
-- Where there is no room, each header was tried by the former, and the placement asked all arenas.
pub record MakesRoom (files : Option Files) (g : Geometry) (id : ℕ) (wanted : Wanted) (old new : View) (evicted : ℕ)
    (placed : Placed) : Type 0 where
  pub ss : List WordStep
  pub ts : List WordStep
  pub mid : View
  pub from : ℕ
  pub until : ℕ
  pub quiet : IsQuiet files g id wanted.key old ss mid
  pub places : IsPlacement files g id wanted.key wanted.order wanted.first wanted.states from until ts mid new placed
  pub count : evicted ≡ counted ss
  pub tried : IfNoRoom placed ((from ≡ 0) × (until ≡ g.arenas) × ((header : ℕ) → header < headers_of g → IsTried header ss))

-- by which the arenas of the blocks that came free were asked, and no others before each header had been tried; and one header more was
-- released only where the arena that was asked last showed no free block
abbrev pub MakesByTries : Option Files → Geometry → ℕ → Wanted → View → View → ℕ → Placed → Type 0
MakesByTries files g id wanted old new evicted placed =
    (m : MakesRoom files g id wanted old new evicted placed) × IsSought g wanted.key.len (m.ss ++ m.ts)

-- by which the first header was released only where no arena had room, and each further one only where the arena of the block that came
-- free before it had none
abbrev pub MakesWhereFull : Option Files → Geometry → ℕ → Wanted → View → View → ℕ → Placed → Type 0
MakesWhereFull files g id wanted old new evicted placed =
    (m : MakesRoom files g id wanted old new evicted placed) × SeeksRoom g wanted.key.len (m.ss ++ m.ts)

-- it was placed, or what is marked was tried
abbrev pub RoomLeft : Option Files → Geometry → ℕ → Wanted → View → List Bool → ℕ → View → Option Placed → Type 0
RoomLeft files g id wanted old tried evicted new None = HeadersTried files g id wanted.key old tried evicted new
RoomLeft files g id wanted old tried evicted new (Some placed) = MakesByTries files g id wanted old new evicted placed

-- one of the ways was seen free
abbrev pub HasFree : Wanted → Type 0
HasFree wanted = (way : ℕ) × (way < 8) × (slice_index wanted.states way ≡ 8)

-- what is to be placed: a range with its bytes, in a set of the pool
pub record IsWanted (files : Option Files) (g : Geometry) (wanted : Wanted) (bytes : List ℕ) : Type 0 where
  pub key : IsKey wanted.key
  pub order : IsOrder g wanted.key.len wanted.order
  pub set : wanted.first + 8 ≤ headers_of g
  pub range : IsRange files (buffer_key wanted.key)
  pub len : length bytes ≡ wanted.key.len
  pub content : IsContentOf files (buffer_key wanted.key) bytes

-- ---- a way, and then a block

-- with a way that was freed
abbrev pub with_freed : ℕ → Wanted → Wanted
with_freed way wanted = record { key = wanted.key; order = wanted.order; first = wanted.first; states = slice_set wanted.states way 8 }

-- A way of the set was seen free, and the range was placed there. Or none was: then a way was freed first; or none could be, and the set
-- is full.
pub data IsRoom (files : Option Files) (g : Geometry) (id : ℕ) (wanted : Wanted) (old new : View) (evicted : ℕ) : Placed → Type 0 where
  in_free : (way : ℕ) (placed : Placed) → IsFirstFree wanted.states way → MakesWhereFull files g id wanted old new evicted placed
      → IsRoom files g id wanted old new evicted placed
  in_freed : (way more : ℕ) (mid : View) (placed : Placed) → NoneFree wanted.states
      → IsWayFreed files g id wanted.key wanted.first old way mid
      → MakesWhereFull files g id (with_freed way wanted) mid new more placed → evicted ≡ min (more + 1) (2 ^ 32 - 1)
      → IsRoom files g id wanted old new evicted placed
  in_none : (seen : List ℕ) → NoneFree wanted.states → IsSetTried files g id wanted.key wanted.first old seen new → evicted ≡ 0
      → IsRoom files g id wanted old new evicted (Bypass (SetFull seen))

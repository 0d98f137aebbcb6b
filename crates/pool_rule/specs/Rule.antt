-- The rule of a pool's table: there is a lawful pool for which words and views stand. Source: this project's own.
use Rattle.std.specs.Prelude.{◌≡◌, ◌==◌, ℕ, zero, suc, ◌+◌, ◌*◌, ◌/◌, ◌%◌, ◌<◌, ◌≤◌, nat_lt}
use Rattle.std.specs.Prelude.{if◌then◌else◌, List, [], ◌∷◌, ◌++◌, length, filter, replicate}
use Rattle.std.specs.Prelude.{Option, None, Some, IfSome, slice_index, slice_index_or}
use Rattle.std.specs.List.{count_by}
use Rattle.std.specs.Int.{bit_at}
use Rattle.atomic_table.specs.Table.{State}
use Rattle.pool_model.specs.declared.pool.GrantedBlock.{GrantedBlock}
use Rattle.pool_model.specs.declared.pool.PlainPool.{PlainPool}
use Rattle.pool_model.specs.declared.setting.Setting.{Setting}
use Rattle.pool_model.specs.declared.step.Step.{Step}
use Rattle.pool_model.specs.declared.step.Step.TheVariants.{Grant, Ungrant, Open, Name, Fill, Publish, Pin, Unpin}
use Rattle.pool_model.specs.declared.step.Step.TheVariants.{BeginEvict, Release, BeginMove, Copy, Settle, Cancel}
use Rattle.pool_model.specs.Content.{Files}
use Rattle.pool_model.specs.Pool.{total, empty_pool, buffer_at, grant_at, owners}
use Rattle.pool_model.specs.Step.{IsRun, run}
use Rattle.pool_rule.specs.declared.geometry.Geometry.{Geometry}
use Rattle.pool_rule.specs.declared.geometry.Setup.{Setup}
use Rattle.pool_rule.specs.declared.view.Mark.{Mark}
use Rattle.pool_rule.specs.declared.view.View.{View}
use Rattle.pool_rule.specs.Headers.{IsHeader, hold_count}
use Rattle.pool_rule.specs.Layout.{greatest_order, headers_of, places_of, block_cells, header_word, cell_word, word_count}
use Rattle.pool_rule.specs.Seats.{mark_at, granted_at, spent, fresh_view, numbers_from}

-- ---- the pool and its story

-- what the pool is set up for
abbrev pub setting_of : Option Files → Geometry → Setting
setting_of files g = record { greatest_order = greatest_order; min_block = g.min_block; files = files }

-- the seat that makes a step
abbrev pub seat_of : Step → ℕ
seat_of (Grant seat b) = seat
seat_of (Ungrant seat b) = seat
seat_of (Open seat header b cells) = seat
seat_of (Name seat header key) = seat
seat_of (Fill seat header value) = seat
seat_of (Publish seat header) = seat
seat_of (Pin seat header) = seat
seat_of (Unpin seat header) = seat
seat_of (BeginEvict seat header) = seat
seat_of (Release seat header) = seat
seat_of (BeginMove seat header target cells) = seat
seat_of (Copy seat header) = seat
seat_of (Settle seat header) = seat
seat_of (Cancel seat header) = seat

-- the steps of one seat, in their order
abbrev pub steps_of : ℕ → List Step → List Step
steps_of seat log = filter (λ s. seat_of s == seat) log

-- the pool before the first step
abbrev pub first_pool : Geometry → PlainPool
first_pool g = empty_pool (headers_of g) (places_of g)

-- The pool came about by steps that each met its needs, each by a seat of the table. So it is lawful.
pub record IsStory (files : Option Files) (g : Geometry) (seats : ℕ) (log : List Step) (pool : PlainPool) : Type 0 where
  pub steps : IsRun (setting_of files g) log (first_pool g)
  pub leads : run log (first_pool g) ≡ pool
  pub headers : length pool.buffers ≡ headers_of g
  pub places : length pool.grants ≡ places_of g
  pub others : (seat : ℕ) → seats ≤ seat → steps_of seat log ≡ []

-- ---- the seats

-- the view of a seat: one that isn't there has nothing
abbrev pub view_at : List View → ℕ → View
view_at views seat = slice_index_or views seat spent

-- how often a number is among those of a view
abbrev pub has_number : ℕ → View → ℕ
has_number n v = count_by (λ k. k == n) v.numbers

-- each number below that of the seats is one seat's, once, and no seat has another
pub record AreShared (seats : ℕ) (views : List View) : Type 0 where
  pub once : (n : ℕ) → total (λ _ v. has_number n v) 0 views ≡ (if nat_lt n seats then 1 else 0)
  pub all : total (λ _ (v : View). length v.numbers) 0 views ≡ seats

-- A seat without numbers is spent: it has nothing. Any other has a place for each header and each minimum block, and its
-- own steps of the pool. A seat that knows the words has all numbers, and knows the words as they are.
pub record IsSeat (g : Geometry) (seats : ℕ) (words : List ℕ) (log : List Step) (seat : ℕ) (v : View) : Type 0 where
  pub nothing : length v.numbers ≡ 0 → v ≡ spent
  pub geometry : 0 < length v.numbers → v.geometry ≡ g
  pub marks : 0 < length v.numbers → length v.marks ≡ headers_of g
  pub granted : 0 < length v.numbers → length v.granted ≡ places_of g
  pub steps : 0 < length v.numbers → steps_of seat log ≡ v.steps
  pub knows_all : IfSome v.known (λ ws. length v.numbers ≡ seats)
  pub knows : IfSome v.known (λ ws. words ≡ ws)

-- ---- the words

-- what is granted at a place, as that seat sees it
abbrev pub own_grant : ℕ → Option GrantedBlock → Option ℕ
own_grant seat None = None
own_grant seat (Some g) = if g.owner == seat then Some g.order else None

-- a bit of an arena's word is set exactly where a block, a target or a grant has that minimum block
abbrev pub AreBits : Geometry → List ℕ → PlainPool → Type 0
AreBits g words pool = (m : ℕ) → m < places_of g → bit_at (slice_index words (m / 64)) (m % 64) ≡ owners pool m

-- the cells as the words have them, counted over all minimum blocks
abbrev pub cells_in : Geometry → List ℕ → ℕ → ℕ
cells_in g words cell = slice_index words (cell_word g cell)

-- how many seats have a pin or a bid on a header
abbrev pub count_of : ℕ → List View → ℕ
count_of header views = total (λ _ v. hold_count (mark_at v header).hold) 0 views

-- what each seat has of a header
abbrev pub marks_of : ℕ → List View → ℕ → Mark
marks_of header views seat = mark_at (view_at views seat) header

-- words and views of a header stand for the pool's buffer
abbrev pub StandsForBuffer : Geometry → List ℕ → List View → PlainPool → ℕ → Type 0
StandsForBuffer g words views pool header =
    IsHeader g (slice_index words (header_word g header)) (slice_index words (header_word g header + 1)) (cells_in g words)
    (count_of header views) (marks_of header views) (buffer_at pool header)

-- ---- the rule

-- Words and views stand for a pool, which is lawful: `laws::a_pool_is_lawful` says so.
pub record StandsFor (files : Option Files) (setup : Setup) (words : List ℕ) (views : List View) (log : List Step)
    (pool : PlainPool) : Type 0 where
  pub story : IsStory files setup.geometry (length views) log pool
  pub all_words : length words ≡ word_count setup.geometry
  pub numbers : AreShared setup.seats views
  pub seats : (seat : ℕ) → IsSeat setup.geometry setup.seats words log seat (view_at views seat)
  pub headers : (header : ℕ) → header < headers_of setup.geometry → StandsForBuffer setup.geometry words views pool header
  pub grants : (seat place : ℕ) → granted_at (view_at views seat) place ≡ own_grant seat (grant_at pool place)
  pub bits : AreBits setup.geometry words pool

-- there is a pool for which they stand
abbrev pub Kept : Option Files → Setup → List ℕ → List View → Type 0
Kept files setup words views = (log : List Step) × ((pool : PlainPool) × StandsFor files setup words views log pool)

-- the rule of a table, whatever its slots
abbrev pub IsKept : Option Files → Setup → {S : Type 0} → State S View → Type 0
IsKept files setup s = Kept files setup s.words s.views

-- ---- the beginning

-- the words of that many released headers without a count
abbrev pub released_words : ℕ → List ℕ
released_words zero = []
released_words (suc n) = 8 ∷ (0 ∷ (0 ∷ (0 ∷ released_words n)))

-- the words of a new pool
abbrev pub first_words : Geometry → List ℕ
first_words g = replicate g.arenas 0 ++ (released_words (headers_of g) ++ replicate (1 + places_of g * block_cells g) 0)

-- the view of its seat: it has all numbers, and knows the words
abbrev pub first_view : Setup → View
first_view setup = record (fresh_view setup.geometry (numbers_from 0 setup.seats)) { known = Some (first_words setup.geometry) }

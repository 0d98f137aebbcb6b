-- The steps on a pool's words, one kind each, and what each makes of the view of the seat that makes it. Source: this project's own.
use Rattle.std.specs.Prelude.{◌≡◌, ◌≢◌, ℕ, ◌+◌, ◌-◌, ◌*◌, ◌/◌, ◌%◌, ◌^◌, ◌<◌, ◌≤◌, ◌==◌, if◌then◌else◌}
use Rattle.std.specs.Prelude.{List, Option, None, Some, IfSome, bit_and, bit_or, slice_index}
use Rattle.std.specs.Int.{w64, bit_not}
use mathlib.Core.Option.{some}
use lib.ListN.{get_elem?}
use Rattle.buffer_word.specs.declared.state_word.Mode.TheVariants.{Released}
use Rattle.buffer_word.specs.declared.state_word.State.{State}
use Rattle.buffer_word.specs.KeyWord.{IsKey, key_word}
use Rattle.buffer_word.specs.StateWord.{IsPackable, state_word}
use Rattle.pool_model.specs.declared.block.Block.{Block}
use Rattle.pool_model.specs.declared.buffer.BufferKey.{BufferKey}
use Rattle.pool_model.specs.declared.pool.PlainPool.{PlainPool}
use Rattle.pool_model.specs.declared.step.Step.{Step}
use Rattle.pool_model.specs.declared.step.Step.TheVariants as pool_step
use Rattle.pool_model.specs.Block.{bytes_in}
use Rattle.pool_model.specs.Content.{Files, IsCell, IsRange, cells_of}
use Rattle.pool_rule.specs.declared.geometry.Geometry.{Geometry}
use Rattle.pool_rule.specs.declared.geometry.Setup.{Setup}
use Rattle.pool_rule.specs.declared.geometry.WordName.{WordName}
use Rattle.pool_rule.specs.declared.geometry.WordName.TheVariants as name
use Rattle.pool_rule.specs.declared.view.Access.{Access}
use Rattle.pool_rule.specs.declared.view.Access.TheVariants.{Loaded, Exchanged, Failed, Changed}
use Rattle.pool_rule.specs.declared.view.Claim.{Claim}
use Rattle.pool_rule.specs.declared.view.Claim.TheVariants.{Unclaimed, Fresh, Gone, Carried}
use Rattle.pool_rule.specs.declared.view.Event.{Event}
use Rattle.pool_rule.specs.declared.view.Event.TheVariants.{Stepped}
use Rattle.pool_rule.specs.declared.view.Hold.{Hold}
use Rattle.pool_rule.specs.declared.view.Hold.TheVariants.{Free, Bid, Pinned}
use Rattle.pool_rule.specs.declared.view.View.{View}
use Rattle.pool_rule.specs.declared.word_step.WordStep.{WordStep}
use Rattle.pool_rule.specs.declared.word_step.WordStep.TheVariants.{Looked, LookedAtCell, Missed, Granted, Returned}
use Rattle.pool_rule.specs.declared.word_step.WordStep.TheVariants.{Opened, Named, Filled, Published, Counted}
use Rattle.pool_rule.specs.declared.word_step.WordStep.TheVariants.{Uncounted, EvictBegun, HeaderReleased, Updated}
use Rattle.pool_rule.specs.Headers.{packed}
use Rattle.pool_rule.specs.Layout.{AreSeats, IsBlockIn, block_cells, cell_word, header_word, headers_of, index_of}
use Rattle.pool_rule.specs.Rule.{StandsFor}
use Rattle.pool_rule.specs.Seats.{clear_mark, key_of, mark_at, granted_at, noted, Told, with_granted, with_key, with_mark, with_step}

-- ---- the words that steps leave

-- the block's bits in the word of its arena
abbrev pub mask_of : Block → ℕ
mask_of b = (2 ^ 2 ^ b.order - 1) * 2 ^ (b.place % 64)

-- the state word of a new buffer of the block, without a count
abbrev pub new_word : Block → ℕ
new_word b = 1 + b.order * 2 ^ 20 + b.place * 2 ^ 24

-- the word is that of a live buffer without a count: order and place alone
abbrev pub IsIdleWord : ℕ → Type 0
IsIdleWord word = word % 2 ^ 20 ≡ 0

-- the block in the state word of a buffer
abbrev pub block_in : ℕ → Block
block_in word = record { place = word / 2 ^ 24; order = word / 2 ^ 20 % 2 ^ 4 }

-- ---- a step on its word

-- the index of the word
abbrev pub word_at : Geometry → WordStep → ℕ
word_at g (Looked word found) = index_of g word
word_at g (LookedAtCell cell found) = cell_word g cell
word_at g (Missed word found) = index_of g word
word_at g (Granted b found) = b.place / 64
word_at g (Returned b found) = b.place / 64
word_at g (Opened header b cells) = header_word g header
word_at g (Named header b key found) = header_word g header + 1
word_at g (Filled header b key done value found) = cell_word g (b.place * block_cells g + done)
word_at g (Published header b key found) = header_word g header
word_at g (Counted header found) = header_word g header
word_at g (Uncounted header found) = header_word g header
word_at g (EvictBegun header found) = header_word g header
word_at g (HeaderReleased header b found) = header_word g header
word_at g (Updated word found left) = index_of g word

-- the word as the step found it: a header that is opened was released, without a count
abbrev pub found_by : WordStep → ℕ
found_by (Looked word found) = found
found_by (LookedAtCell cell found) = found
found_by (Missed word found) = found
found_by (Granted b found) = found
found_by (Returned b found) = found
found_by (Opened header b cells) = 8
found_by (Named header b key found) = found
found_by (Filled header b key done value found) = found
found_by (Published header b key found) = found
found_by (Counted header found) = found
found_by (Uncounted header found) = found
found_by (EvictBegun header found) = found
found_by (HeaderReleased header b found) = found
found_by (Updated word found left) = found

-- the word as the step left it
abbrev pub left_by : WordStep → ℕ
left_by (Looked word found) = found
left_by (LookedAtCell cell found) = found
left_by (Missed word found) = found
left_by (Granted b found) = bit_or found (mask_of b)
left_by (Returned b found) = bit_and found (bit_not w64 (mask_of b))
left_by (Opened header b cells) = new_word b
left_by (Named header b key found) = key_word (packed key)
left_by (Filled header b key done value found) = value
left_by (Published header b key found) = (found + 15) % 2 ^ 64
left_by (Counted header found) = (found + 16) % 2 ^ 64
left_by (Uncounted header found) = (found + (2 ^ 64 - 16)) % 2 ^ 64
left_by (EvictBegun header found) = found + 4
left_by (HeaderReleased header b found) = (found + (2 ^ 64 + 4 - b.order * 2 ^ 20 - b.place * 2 ^ 24)) % 2 ^ 64
left_by (Updated word found left) = left

abbrev pub access_of : WordStep → Access
access_of (Looked word found) = Loaded
access_of (LookedAtCell cell found) = Loaded
access_of (Missed word found) = Failed
access_of (Granted b found) = Exchanged
access_of (Returned b found) = Changed
access_of (Opened header b cells) = Exchanged
access_of (Named header b key found) = Changed
access_of (Filled header b key done value found) = Changed
access_of (Published header b key found) = Changed
access_of (Counted header found) = Changed
access_of (Uncounted header found) = Changed
access_of (EvictBegun header found) = Exchanged
access_of (HeaderReleased header b found) = Changed
access_of (Updated word found left) = Changed

-- the step as a trail keeps it
abbrev pub event_of : Geometry → WordStep → Event
event_of g s = Stepped (word_at g s) (found_by s) (left_by s) (access_of s)

-- ---- what a step makes of a view, beside its trail

-- a load of a key word tells the key of a pin, or of a buffer that moves
abbrev pub learnt : WordName → ℕ → View → View
learnt (name.Arena i) found v = v
learnt (name.State header) found v = v
learnt (name.KeyOf header) found v = with_key header found v
learnt (name.Touches header) found v = v
learnt (name.Last header) found v = v
learnt name.Clock found v = v

-- a block is granted, and given back
abbrev pub taking : ℕ → Block → View → View
taking id b v = with_step (pool_step.Grant id b) (with_granted b.place (Some b.order) v)

abbrev pub giving : ℕ → Block → View → View
giving id b v = with_step (pool_step.Ungrant id b) (with_granted b.place None v)

-- a granted block becomes a new buffer of the seat's, which shows these cells
abbrev pub opening : ℕ → ℕ → Block → List ℕ → View → View
opening id header b cells v =
    with_step (pool_step.Open id header b cells)
    (with_granted b.place None (with_mark header (record { hold = (mark_at v header).hold; claim = Fresh b None 0 }) v))

-- a new buffer gets its key, then its cells one by one, and becomes a pin whose key is known
abbrev pub naming : ℕ → ℕ → Block → BufferKey → View → View
naming id header b key v =
    with_step (pool_step.Name id header key) (with_mark header (record { hold = (mark_at v header).hold; claim = Fresh b (Some key) 0 }) v)

abbrev pub filling : ℕ → ℕ → Block → BufferKey → ℕ → ℕ → View → View
filling id header b key done value v =
    with_step (pool_step.Fill id header value)
    (with_mark header (record { hold = (mark_at v header).hold; claim = Fresh b (Some key) (done + 1) }) v)

abbrev pub publishing : ℕ → ℕ → Block → BufferKey → View → View
publishing id header b key v =
    with_step (pool_step.Publish id header) (with_mark header (record { hold = Pinned b (Some key); claim = Unclaimed }) v)

-- a count is added: a pin of a live buffer, which is a step of the pool, and else a bid
abbrev pub counting : ℕ → ℕ → ℕ → View → View
counting id header found v =
    if found % 16 == 0
    then with_step (pool_step.Pin id header)
    (with_mark header (record { hold = Pinned (block_in found) None; claim = (mark_at v header).claim }) v)
    else with_mark header (record { hold = Bid; claim = (mark_at v header).claim }) v

-- a count is taken back: a bid is gone, or a pin, which is a step of the pool
abbrev pub dropping : Hold → ℕ → ℕ → View → View
dropping Free id header v = v
dropping Bid id header v = with_mark header (record { hold = Free; claim = (mark_at v header).claim }) v
dropping (Pinned b k) id header v =
    with_step (pool_step.Unpin id header) (with_mark header (record { hold = Free; claim = (mark_at v header).claim }) v)

-- a live buffer becomes one that the seat evicts, and then a granted block
abbrev pub evicting : ℕ → ℕ → Block → View → View
evicting id header b v =
    with_step (pool_step.BeginEvict id header) (with_mark header (record { hold = (mark_at v header).hold; claim = Gone b }) v)

abbrev pub releasing : ℕ → ℕ → Block → View → View
releasing id header b v =
    with_step (pool_step.Release id header)
    (with_granted b.place (Some b.order) (with_mark header (record { hold = (mark_at v header).hold; claim = Unclaimed }) v))

-- by the step of the seat with that place among the seats
abbrev pub effect : ℕ → WordStep → View → View
effect id (Looked word found) v = learnt word found v
effect id (LookedAtCell cell found) v = v
effect id (Missed word found) v = v
effect id (Granted b found) v = taking id b v
effect id (Returned b found) v = giving id b v
effect id (Opened header b cells) v = opening id header b cells v
effect id (Named header b key found) v = naming id header b key v
effect id (Filled header b key done value found) v = filling id header b key done value v
effect id (Published header b key found) v = publishing id header b key v
effect id (Counted header found) v = counting id header found v
effect id (Uncounted header found) v = dropping (mark_at v header).hold id header v
effect id (EvictBegun header found) v = evicting id header (block_in found) v
effect id (HeaderReleased header b found) v = releasing id header b v
effect id (Updated word found left) v = v

-- the view after a step
abbrev pub made : Geometry → ℕ → WordStep → View → View
made g id s v = noted (word_at g s) (found_by s) (left_by s) (access_of s) (effect id s v)

-- ---- what a step tells

-- At that moment there was a lawful pool of this world for which words and views stood; that was the word, and that the
-- seat's view. So all that the rule says of them is so: also of known words, which were the words.
pub record StoodFor (files : Option Files) (g : Geometry) (id word found : ℕ) (v : View) (setup : Setup)
    (words : List ℕ) (views : List View) (log : List Step) (pool : PlainPool) : Type 0 where
  pub stands : StandsFor files setup words views log pool
  pub geometry : setup.geometry ≡ g
  pub seats : AreSeats setup.seats
  pub found_is : slice_index words word ≡ found
  pub seat_is : get_elem? views id ≡ some v

abbrev pub Stood : Option Files → Geometry → ℕ → ℕ → ℕ → View → Type 0
Stood files g id word found v =
    (setup : Setup) × (words : List ℕ) × (views : List View) × (log : List Step) × (pool : PlainPool)
    × StoodFor files g id word found v setup words views log pool

-- The word is a state's, with a count that seats can reach. Its block is one of the pool's, unless the header is released.
abbrev pub IsStateWord : Geometry → ℕ → Type 0
IsStateWord g word =
    (s : State) × IsPackable s × (word ≡ state_word s) × (s.count ≤ 64)
    × (s.mode ≢ Released → IsBlockIn g (record { place = s.place; order = s.order }))

-- the word is that of a key which the block holds, and of the key that is known, if one is
pub record IsKeyFor (g : Geometry) (b : Block) (known : Option BufferKey) (found : ℕ) : Type 0 where
  pub packs : IsKey (packed (key_of found))
  pub is : found ≡ key_word (packed (key_of found))
  pub fits : (key_of found).len ≤ bytes_in g.min_block b
  pub known_is : IfSome known (λ k. k ≡ key_of found)

-- the key word of a header is that of a pin's key
abbrev pub TellsHold : Geometry → Hold → ℕ → Type 0
TellsHold g Free found = Unit {0}
TellsHold g Bid found = Unit {0}
TellsHold g (Pinned b known) found = IsKeyFor g b known found

-- and that of the key of a buffer that the seat moves
abbrev pub TellsClaim : Geometry → Claim → ℕ → Type 0
TellsClaim g Unclaimed found = Unit {0}
TellsClaim g (Fresh b known done) found = Unit {0}
TellsClaim g (Gone b) found = Unit {0}
TellsClaim g (Carried b target known done next) found = IsKeyFor g b known found

-- what is told of a word that was found
abbrev pub TellsWord : Geometry → WordName → ℕ → View → Type 0
TellsWord g (name.Arena i) found v = Unit {0}
TellsWord g (name.State header) found v = IsStateWord g found
TellsWord g (name.KeyOf header) found v = TellsHold g (mark_at v header).hold found × TellsClaim g (mark_at v header).claim found
TellsWord g (name.Touches header) found v = Unit {0}
TellsWord g (name.Last header) found v = Unit {0}
TellsWord g name.Clock found v = Unit {0}

-- where files are told, the key of a pin, if the seat knows it, is a range of its file, and a cell holds that part of it
abbrev pub TellsCell : Option Files → Geometry → ℕ → ℕ → View → Type 0
TellsCell files g cell found v =
    (header : ℕ) (b : Block) (key : BufferKey) (j : ℕ) → header < headers_of g
    → (mark_at v header).hold ≡ Pinned b (Some key) → j < cells_of key →
    cell ≡ b.place * block_cells g + j → IsCell files key j found × IsRange files key

-- what a step tells of the word that it found and of the seat's view before
abbrev pub Tells : Option Files → Geometry → WordStep → View → Type 0
Tells files g (Looked word found) v = TellsWord g word found v
Tells files g (LookedAtCell cell found) v = TellsCell files g cell found v
Tells files g (Missed word found) v = TellsWord g word found v
Tells files g (Granted b found) v = granted_at v b.place ≡ None
Tells files g (Returned b found) v = Unit {0}
Tells files g (Opened header b cells) v = (mark_at v header).claim ≡ Unclaimed
Tells files g (Named header b key found) v = Unit {0}
Tells files g (Filled header b key done value found) v = Unit {0}
Tells files g (Published header b key found) v = (mark_at v header).hold ≡ Free
Tells files g (Counted header found) v = IsStateWord g found
Tells files g (Uncounted header found) v = IsStateWord g found
Tells files g (EvictBegun header found) v = IsBlockIn g (block_in found) × (mark_at v header ≡ clear_mark)
Tells files g (HeaderReleased header b found) v = granted_at v b.place ≡ None
Tells files g (Updated word found left) v = Unit {0}

-- The seat made this step: that is its view then, and this is what the step told.
pub record IsMade (files : Option Files) (g : Geometry) (id : ℕ) (s : WordStep) (old new : View) : Type 0 where
  pub view : new ≡ made g id s old
  pub told : Told old (word_at g s) (found_by s)
  pub tells : Tells files g s old
  pub stood : Stood files g id (word_at g s) (found_by s) old

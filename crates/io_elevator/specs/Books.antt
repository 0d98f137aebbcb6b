-- What is seen of an elevator's streams and slots, and what an act makes of them. Source: this project's own.
use Rattle.std.specs.Prelude.{◌≡◌, ℕ, Bool, true, false, List, [], ◌∷◌, ◌++◌, map, None, Ok, Err, slice_index_or, slice_set}
use Rattle.outside.specs.declared.failed.Failed.{Failed}
use Rattle.outside.specs.declared.file_ref.FileRange.{FileRange}
use Rattle.orc_streams.specs.Acts.{Act, closes, opens, reads, takes}
use Rattle.held_ranges.specs.Deeds.{Deed, Keys, drops_each, left_of}
use Rattle.cut_streams.specs.declared.cursor.Cursor.{Cursor}
use Rattle.cut_streams.specs.Streams.{TakesBy, closed, opened}
use Rattle.cut_streams.specs.Visits.{AreVisited, AreVisitedTo}

-- where each stream stands, and which keys slots hold
pub record Books : Type 0 where
  pub cursors : List Cursor
  pub keys : Keys

-- the slot of reads; those of streams have the streams' numbers
abbrev pub own_slot : ℕ
own_slot = 64

abbrev pub cursor_at : List Cursor → ℕ → Cursor
cursor_at cursors stream = slice_index_or cursors stream closed

-- all that slots hold is dropped, in their order
abbrev pub ClosesBy : Keys → List Deed → Keys → Type 0
ClosesBy keys deeds keys' = (deeds ≡ drops_each None 0 keys) × (keys' ≡ left_of None keys)

module _ (chunk : ℕ) where
  -- a read of a range: its cuts were got for the slot of reads, each dropped at once; or the read of one of them failed
  abbrev pub ReadFits : Bool → FileRange → Keys → List Deed → Keys → Type 0
  ReadFits true range keys deeds keys' = AreVisited own_slot range.file range.at range.len chunk 0 keys deeds keys'
  ReadFits false range keys deeds keys' = AreVisitedTo own_slot range.file range.at range.len chunk 0 keys deeds keys'

  -- a take of a stream: the cuts that begin among its bytes were got for the stream's slot; or the read of the next failed
  abbrev pub TakeFits : Bool → ℕ → ℕ → Cursor → Keys → Cursor → List Deed → Keys → Type 0
  TakeFits true stream n c keys d deeds keys' = TakesBy chunk stream c keys (Ok n) d deeds keys'
  TakeFits false stream n c keys d deeds keys' = (n ≡ 0) × ((failed : Failed) × TakesBy chunk stream c keys (Err failed) d deeds keys')

  -- An act, by its deeds. An opening does nothing, and closing drops what slots hold, in the order of the slots.
  abbrev pub Suits : Act → Books → List Deed → Books → Type 0
  Suits (reads e) b deeds d = ReadFits e.ok e.range b.keys deeds d.keys × (d.cursors ≡ b.cursors)
  Suits (opens stream range) b deeds d =
      (deeds ≡ []) × (d.keys ≡ b.keys) × (d.cursors ≡ slice_set b.cursors stream (opened range))
  Suits (takes t) b deeds d =
      (c : Cursor) × TakeFits t.ok t.stream t.len (cursor_at b.cursors t.stream) b.keys c deeds d.keys
      × (d.cursors ≡ slice_set b.cursors t.stream c)
  Suits closes b deeds d =
      (deeds ≡ drops_each None 0 b.keys) × (d.keys ≡ left_of None b.keys) × (d.cursors ≡ map (λ (c : Cursor). closed) b.cursors)

  -- acts, one after the other
  abbrev pub Fits : Books → List Act → List Deed → Books → Type 0
  Fits b [] deeds d = (deeds ≡ []) × (d ≡ b)
  Fits b (a ∷ acts) deeds d =
      (front rest : List Deed) × (mid : Books) × (deeds ≡ front ++ rest) × Suits a b front mid × Fits mid acts rest d

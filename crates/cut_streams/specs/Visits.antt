-- Cuts of a file's range that are got for a slot, one after the other. Source: this project's own.
use Rattle.std.specs.Prelude.{◌≡◌, ◌<◌, ◌≤◌, ℕ, ◌+◌, ◌-◌, ◌*◌, ◌^◌, List, [], ◌∷◌, ◌++◌, None, Result, Ok, Err, slice_set}
use Rattle.buffer_word.specs.declared.key_word.Key.{Key}
use Rattle.outside.specs.declared.failed.Failed.{Failed}
use Rattle.pool_rule.specs.declared.geometry.Geometry.{Geometry}
use Rattle.range_cuts.specs.Cuts.{begun, cut_at, cuts_from}
use Rattle.held_ranges.specs.Deeds.{Deed, Keys, drops, room_left, swap_fails, swapped, swaps}

-- a chunk of a cache: 16 of its smallest blocks
abbrev pub chunk_of : Geometry → ℕ
chunk_of g = 16 * g.min_block

pub record IsChunk (g : Geometry) (chunk : ℕ) : Type 0 where
  pub is : chunk ≡ chunk_of g
  pub some : 1 ≤ chunk
  pub small : chunk ≤ 2 ^ 20

-- the key of a cut of a file: its first byte and its length
abbrev pub key_in : ℕ → ℕ × ℕ → Key
key_in file cut = record { file = file; at = cut.0; len = cut.1 }

-- Cuts are got for a slot, in their order: each is let go immediately before the next one is got, and the last is held.
abbrev pub got_each : ℕ → ℕ → List (ℕ × ℕ) → Keys → List Deed
got_each slot file [] keys = []
got_each slot file (c ∷ cs) keys = swaps slot (key_in file c) keys ++ got_each slot file cs (swapped slot (key_in file c) keys)

-- the keys that slots then hold
abbrev pub held_after : ℕ → ℕ → List (ℕ × ℕ) → Keys → Keys
held_after slot file [] keys = keys
held_after slot file (c ∷ cs) keys = held_after slot file cs (swapped slot (key_in file c) keys)

-- a key is got for a slot, and let go at once
abbrev pub visits : ℕ → Key → Keys → List Deed
visits slot key keys = swaps slot key keys ++ drops slot key ∷ []

abbrev pub left_by : ℕ → Key → Keys → Keys
left_by slot key keys = slice_set (swapped slot key keys) slot None

-- cuts are visited so, in their order
abbrev pub visits_each : ℕ → ℕ → List (ℕ × ℕ) → Keys → List Deed
visits_each slot file [] keys = []
visits_each slot file (c ∷ cs) keys = visits slot (key_in file c) keys ++ visits_each slot file cs (left_by slot (key_in file c) keys)

abbrev pub left_after : ℕ → ℕ → List (ℕ × ℕ) → Keys → Keys
left_after slot file [] keys = keys
left_after slot file (c ∷ cs) keys = left_after slot file cs (left_by slot (key_in file c) keys)

-- a visit that answered so, by its deeds and the keys that slots then hold: the key was visited, or its read failed
abbrev pub VisitsBy : {T : Type 0} → ℕ → Key → Keys → Result T Failed → List Deed → Keys → Type 0
VisitsBy slot key keys (Ok x) deeds keys' = (deeds ≡ visits slot key keys) × (keys' ≡ left_by slot key keys)
VisitsBy slot key keys (Err e) deeds keys' = (deeds ≡ swap_fails slot key keys) × (keys' ≡ room_left slot key keys)

module _ (slot file at len chunk i : ℕ) (keys : Keys) (deeds : List Deed) (keys' : Keys) where
  -- All cuts from that number on were visited.
  pub record AreVisited : Type 0 where
    pub did : deeds ≡ visits_each slot file (cuts_from at len chunk i (begun chunk len - i)) keys
    pub leave : keys' ≡ left_after slot file (cuts_from at len chunk i (begun chunk len - i)) keys

  -- So many of them were visited, and the read of the next failed.
  pub record AreVisitedTo : Type 0 where
    pub count : ℕ
    pub more : (i + count) * chunk < len
    pub did : deeds ≡ visits_each slot file (cuts_from at len chunk i count) keys
        ++ swap_fails slot (key_in file (cut_at at len chunk (i + count))) (left_after slot file (cuts_from at len chunk i count) keys)
    pub leave : keys' ≡ room_left slot (key_in file (cut_at at len chunk (i + count)))
        (left_after slot file (cuts_from at len chunk i count) keys)

-- visits of a range's cuts that answered so, from a cut on
abbrev pub VisitEachBy : {T : Type 0} → ℕ → ℕ → ℕ → ℕ → ℕ → ℕ → Keys → Result T Failed → List Deed → Keys → Type 0
VisitEachBy slot file at len chunk i keys (Ok x) deeds keys' = AreVisited slot file at len chunk i keys deeds keys'
VisitEachBy slot file at len chunk i keys (Err e) deeds keys' = AreVisitedTo slot file at len chunk i keys deeds keys'

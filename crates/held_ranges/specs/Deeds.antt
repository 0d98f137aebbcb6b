-- Ranges that are got and dropped, each by its slot. Source: this project's own.
use Rattle.std.specs.Prelude.{◌==◌, ℕ, ◌+◌, Bool, true, false, ◌&&◌, if◌then◌else◌, Option, Some, None}
use Rattle.std.specs.Prelude.{List, [], ◌∷◌, ◌++◌, map, slice_index_or, slice_set}
use Rattle.buffer_word.specs.declared.key_word.Key.{Key}
use Rattle.ledgers.specs.declared.cache_totals.How2.{How2}
use Rattle.ledgers.specs.declared.cache_totals.How2.TheVariants as how2
use Rattle.range_cache.specs.declared.ranged.How.{How}
use Rattle.range_cache.specs.declared.ranged.How.TheVariants.{Hit, Filled, Bypass}

-- a range is got for a slot, and held there; a read for one failed; or what a slot held is dropped
pub data Deed : Type 0 where
  gets : ℕ → Key → Deed
  misses : Key → Deed
  drops : ℕ → Key → Deed

-- which key each slot holds
abbrev pub Keys : Type 0
Keys = List (Option Key)

abbrev pub key_at : Keys → ℕ → Option Key
key_at keys slot = slice_index_or keys slot None

abbrev pub key_eq : Key → Key → Bool
key_eq a b = (a.file == b.file) && (a.at == b.at) && (a.len == b.len)

-- a key that is meant: of some key, or any
abbrev pub is_of : Option Key → Key → Bool
is_of None key = true
is_of (Some of) key = key_eq key of

-- what a slot holds is dropped, if it holds something
abbrev pub dropped : ℕ → Option Key → List Deed
dropped slot None = []
dropped slot (Some key) = drops slot key ∷ []

-- a slot holds a key that is meant
abbrev pub means : Option Key → Option Key → Bool
means of None = false
means of (Some key) = is_of of key

-- what is dropped of a slot, and what it then holds
abbrev pub meant : Option Key → Option Key → Option Key
meant of key = if means of key then key else None

abbrev pub others : Option Key → Option Key → Option Key
others of key = if means of key then None else key

-- the slots that hold such a key drop it, in their order; the first has that number
abbrev pub drops_each : Option Key → ℕ → Keys → List Deed
drops_each of slot [] = []
drops_each of slot (k ∷ ks) = dropped slot (meant of k) ++ drops_each of (slot + 1) ks

-- what the slots then hold
abbrev pub left_of : Option Key → Keys → Keys
left_of of keys = map (others of) keys

-- A key is wanted for a slot: what the slot holds is dropped, and what other slots hold of that key.
abbrev pub room_for : ℕ → Key → Keys → List Deed
room_for slot key keys = dropped slot (key_at keys slot) ++ drops_each (Some key) 0 (slice_set keys slot None)

abbrev pub room_left : ℕ → Key → Keys → Keys
room_left slot key keys = left_of (Some key) (slice_set keys slot None)

-- and then the key is got
abbrev pub swaps : ℕ → Key → Keys → List Deed
swaps slot key keys = room_for slot key keys ++ gets slot key ∷ []

abbrev pub swapped : ℕ → Key → Keys → Keys
swapped slot key keys = slice_set (room_left slot key keys) slot (Some key)

-- or its read fails
abbrev pub swap_fails : ℕ → Key → Keys → List Deed
swap_fails slot key keys = room_for slot key keys ++ misses key ∷ []

-- how a range was got, as it is counted
abbrev pub how_of : How → How2
how_of Hit = how2.Hit
how_of Filled = how2.Filled
how_of (Bypass why) = how2.Bypass

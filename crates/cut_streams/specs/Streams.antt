-- A stream that is got cut by cut: where it stands, and what its memory has. Source: this project's own.
use Rattle.std.specs.Prelude.{◌≡◌, ◌<◌, ◌≤◌, ℕ, ◌+◌, ◌-◌, ◌%◌, List, length, take, Option, Some, IsSome, option_map, slice_range, Result, Ok, Err}
use Rattle.buffer_word.specs.declared.key_word.Key.{Key}
use Rattle.outside.specs.declared.failed.Failed.{Failed}
use Rattle.outside.specs.declared.file_ref.FileRange.{FileRange}
use Rattle.pool_model.specs.Content.{Files, told_bytes}
use Rattle.buffer_pool.specs.Pools.{IsContentOf, buffer_key}
use Rattle.range_cuts.specs.Cuts.{begun, cut_at, cuts_between, size_of}
use Rattle.held_ranges.specs.Deeds.{Deed, Keys, room_left, swap_fails, swapped, swaps}
use Rattle.cut_streams.specs.declared.cursor.Cursor.{Cursor}
use Rattle.cut_streams.specs.declared.stream.CutStream.{CutStream}
use Rattle.cut_streams.specs.Visits.{got_each, held_after, key_in}

-- a stream without bytes
abbrev pub closed : Cursor
closed = record { range = record { file = 0; at = 0; len = 0 }; taken = 0 }

-- the stream of a range, at its start
abbrev pub opened : FileRange → Cursor
opened range = record { range = range; taken = 0 }

-- so many bytes more were taken
abbrev pub moved : Cursor → ℕ → Cursor
moved c n = record { range = c.range; taken = c.taken + n }

-- so many bytes of a file, from where the stream stands
abbrev pub next_bytes : Cursor → ℕ → List ℕ → List ℕ
next_bytes c n file = slice_range file (c.range.at + c.taken) (c.range.at + c.taken + n)

abbrev pub cursor_of : CutStream → Cursor
cursor_of s = s.cursor

abbrev pub bytes_in : CutStream → List ℕ
bytes_in s = s.bytes.items

abbrev pub file_len_of : CutStream → ℕ
file_len_of s = s.file_len

-- the cut that begins so many bytes behind the range's start
abbrev pub key_behind : ℕ → FileRange → ℕ → Key
key_behind chunk range before = record { file = range.file; at = range.at + before; len = size_of range.len chunk before }

-- the cut that is got next: the first that doesn't begin below what was taken
abbrev pub next_key : ℕ → Cursor → Key
next_key chunk c = key_in c.range.file (cut_at c.range.at c.range.len chunk (begun chunk c.taken))

-- where files are told, the file of that number has that length
abbrev pub HasLen : Option Files → ℕ → ℕ → Type 0
HasLen files number len = IsSome files → option_map (λ (bytes : List ℕ). length bytes) (told_bytes files number) ≡ Some len

-- The range lies in a file of that length, which has a number below 4,096 and at most 4,294,967,295 bytes.
pub record IsOpen (files : Option Files) (file_len : ℕ) (range : FileRange) : Type 0 where
  pub number : range.file < 4096
  pub len : file_len ≤ 4294967295
  pub in_file : range.at + range.len ≤ file_len
  pub is_file : HasLen files range.file file_len

-- how many bytes of the cut in which the stream stands were taken, and where that cut begins
abbrev pub offset_in : ℕ → Cursor → ℕ
offset_in chunk c = c.taken % chunk

abbrev pub before_cut : ℕ → Cursor → ℕ
before_cut chunk c = c.taken - c.taken % chunk

-- where files are told, the memory's first bytes are those of the cut in which the stream stands
abbrev pub IsReady : Option Files → ℕ → Cursor → List ℕ → Type 0
IsReady files chunk c bytes =
    IsContentOf files (buffer_key (key_behind chunk c.range (before_cut chunk c)))
    (take (size_of c.range.len chunk (before_cut chunk c)) bytes)

-- Not more than the range was taken, which lies in its file, if it has a byte; the memory holds a chunk; and where a cut was
-- begun, its bytes.
pub record IsSound (files : Option Files) (chunk file_len : ℕ) (c : Cursor) (bytes : List ℕ) : Type 0 where
  pub room : length bytes ≡ chunk
  pub few : c.taken ≤ c.range.len
  pub lies : 0 < c.range.len → IsOpen files file_len c.range
  pub ready : 0 < offset_in chunk c → IsReady files chunk c bytes

abbrev pub IsSoundStream : Option Files → ℕ → CutStream → Type 0
IsSoundStream files chunk s = IsSound files chunk s.file_len s.cursor s.bytes.items

-- A take that answered so, by its deeds and the keys that slots then hold: the cuts that begin among its bytes were got for the slot;
-- or there was a byte left, and the read of the next cut failed.
abbrev pub TakesBy : ℕ → ℕ → Cursor → Keys → Result ℕ Failed → Cursor → List Deed → Keys → Type 0
TakesBy chunk slot c keys (Ok n) d deeds keys' =
    (c.taken + n ≤ c.range.len)
    × (deeds ≡ got_each slot c.range.file (cuts_between c.range.at c.range.len chunk c.taken (c.taken + n)) keys)
    × (keys' ≡ held_after slot c.range.file (cuts_between c.range.at c.range.len chunk c.taken (c.taken + n)) keys)
    × (d ≡ moved c n)
TakesBy chunk slot c keys (Err e) d deeds keys' =
    (c.taken < c.range.len) × (deeds ≡ swap_fails slot (next_key chunk c) keys) × (keys' ≡ room_left slot (next_key chunk c) keys)
    × (d ≡ c)

-- the cut of the next byte is at hand, by such deeds: none if the stream stands in it, and else it was got; or its read failed
abbrev pub ReadiesBy : {T : Type 0} → ℕ → ℕ → Cursor → Keys → Result T Failed → List Deed → Keys → Type 0
ReadiesBy chunk slot c keys (Ok x) deeds keys' =
    (deeds ≡ got_each slot c.range.file (cuts_between c.range.at c.range.len chunk c.taken (c.taken + 1)) keys)
    × (keys' ≡ held_after slot c.range.file (cuts_between c.range.at c.range.len chunk c.taken (c.taken + 1)) keys)
ReadiesBy chunk slot c keys (Err e) deeds keys' =
    (deeds ≡ swap_fails slot (next_key chunk c) keys) × (keys' ≡ room_left slot (next_key chunk c) keys)

-- a key is got for a slot, in place of what it held; or its read failed
abbrev pub SwapsBy : {T : Type 0} → ℕ → Key → Keys → Result T Failed → List Deed → Keys → Type 0
SwapsBy slot key keys (Ok x) deeds keys' = (deeds ≡ swaps slot key keys) × (keys' ≡ swapped slot key keys)
SwapsBy slot key keys (Err e) deeds keys' = (deeds ≡ swap_fails slot key keys) × (keys' ≡ room_left slot key keys)

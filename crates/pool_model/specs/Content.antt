-- What the cells of a key's range hold, in a world whose files are told. Source: this project's own.
use Rattle.std.specs.Prelude.{◌≡◌, ℕ, ◌+◌, ◌*◌, ◌<◌, ◌≤◌, List, length, Option, None, Some, IsSome}
use Rattle.std.specs.Prelude.{IsSomeAnd, option_map, slice_get, slice_range, slice_index, drop}
use Rattle.std.specs.Int.{from_le_bytes, w64}
use Rattle.pool_model.specs.declared.buffer.BufferKey.{BufferKey}
use Rattle.pool_model.specs.Block.{cells_for}

-- files by their number, each with its name and its bytes
abbrev pub Files : Type 0
Files = List (List ℕ × List ℕ)

-- the bytes of the file with that number, where files are told and there is one
abbrev pub told_bytes : Option Files → ℕ → Option (List ℕ)
told_bytes None number = None
told_bytes (Some files) number = option_map (λ (f : List ℕ × List ℕ). f.1) (slice_get files number)

-- where told, the key is a range of a file
abbrev pub IsRange : Option Files → BufferKey → Type 0
IsRange files key = IsSome files → IsSomeAnd (told_bytes files key.file) (λ bytes. key.at + key.len ≤ length bytes)

-- how many cells a key has
abbrev pub cells_of : BufferKey → ℕ
cells_of key = cells_for key.len

-- The key's cell j, given its file's bytes: the eight bytes of the range from byte 8 * j on, little endian.
-- Past the range's end the bytes are zero.
unfoldable pub content_cell : List ℕ → BufferKey → ℕ → ℕ
content_cell bytes key j = from_le_bytes w64 (drop (8 * j) (slice_range bytes key.at (key.at + key.len)))

-- where told, the value is the key's cell j
abbrev pub IsCell : Option Files → BufferKey → ℕ → ℕ → Type 0
IsCell files key j value = (bytes : List ℕ) → told_bytes files key.file ≡ Some bytes → value ≡ content_cell bytes key j

-- where told, the first n of the cells are the first n of the key's content
abbrev pub FirstCells : Option Files → BufferKey → List ℕ → ℕ → Type 0
FirstCells files key cells n = (j : ℕ) → j < n → IsCell files key j (slice_index cells j)

-- The cuts of a range: it is cut at the multiples of a chunk, counted from its start. Source: this project's own.
use Rattle.std.specs.Prelude.{ℕ, ◌+◌, ◌-◌, ◌*◌, ◌/◌, nat_lt, zero, suc, List, [], ◌∷◌, Option, Some, None, if◌then◌else◌}

-- the length of the cut that begins so many bytes behind the start: a chunk, or what is left
abbrev pub size_of : ℕ → ℕ → ℕ → ℕ
size_of len chunk before = if nat_lt (len - before) chunk then len - before else chunk

-- the cut of that number: its first byte, and how many it has
abbrev pub cut_at : ℕ → ℕ → ℕ → ℕ → ℕ × ℕ
cut_at at len chunk i = (at + i * chunk, size_of len chunk (i * chunk))

-- the same, where there is one: a cut begins within the range
abbrev pub cut_ranges_of : ℕ → ℕ → ℕ → ℕ → Option (ℕ × ℕ)
cut_ranges_of at len chunk i = if nat_lt (i * chunk) len then Some (cut_at at len chunk i) else None

-- how many cuts begin below so many bytes
abbrev pub begun : ℕ → ℕ → ℕ
begun chunk bytes = (bytes + (chunk - 1)) / chunk

-- so many cuts, from that number on
abbrev pub cuts_from : ℕ → ℕ → ℕ → ℕ → ℕ → List (ℕ × ℕ)
cuts_from at len chunk i zero = []
cuts_from at len chunk i (suc count) = cut_at at len chunk i ∷ cuts_from at len chunk (i + 1) count

-- the cuts that begin below so many bytes, but not below so many
abbrev pub cuts_between : ℕ → ℕ → ℕ → ℕ → ℕ → List (ℕ × ℕ)
cuts_between at len chunk low high = cuts_from at len chunk (begun chunk low) (begun chunk high - begun chunk low)

-- all cuts of a range
abbrev pub cuts_of : ℕ → ℕ → ℕ → List (ℕ × ℕ)
cuts_of at len chunk = cuts_between at len chunk 0 len

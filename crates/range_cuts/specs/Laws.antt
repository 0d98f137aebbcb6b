-- The laws of cuts, which this crate's law functions carry. Source: this project's own.
use Rattle.std.specs.Prelude.{◌≡◌, ◌↔◌, ℕ, ◌+◌, ◌*◌, ◌<◌, ◌≤◌, List, [], ◌∷◌, ◌++◌, slice_range}
use Rattle.range_cuts.specs.Cuts.{begun, cuts_between, cuts_of}

-- the bytes of ranges, one after the other
abbrev pub bytes_of : List ℕ → List (ℕ × ℕ) → List ℕ
bytes_of file [] = []
bytes_of file (c ∷ cs) = slice_range file c.0 (c.0 + c.1) ++ bytes_of file cs

-- the cuts of a range have its bytes, in their order
abbrev pub JoinToTheRange : Type 0
JoinToTheRange = (at len chunk : ℕ) (file : List ℕ) → 1 ≤ chunk → bytes_of file (cuts_of at len chunk) ≡ slice_range file at (at + len)

-- a cut is among those exactly where it begins below so many bytes
abbrev pub BeginBelow : Type 0
BeginBelow = (chunk bytes i : ℕ) → 1 ≤ chunk → (i < begun chunk bytes) ↔ (i * chunk < bytes)

-- cuts that are got in parts are the same cuts
abbrev pub AreGotInParts : Type 0
AreGotInParts =
    (at len chunk low middle high : ℕ) → 1 ≤ chunk → low ≤ middle → middle ≤ high
    → cuts_between at len chunk low middle ++ cuts_between at len chunk middle high ≡ cuts_between at len chunk low high

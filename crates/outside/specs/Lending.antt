-- Reading in place: what stands in bytes that a feed lends, and how it is passed over. Source: this project's own.
use Rattle.std.specs.Prelude.{◌≡◌, ℕ, List, [], ◌++◌, length, drop, Ok, Err, nat_le, if◌then◌else◌}
use Rattle.outside.specs.declared.run_fault.RunFault.TheVariants.{StreamEnds}
use Rattle.outside.specs.Reading.{Reader}
use Rattle.outside.specs.Runs.{Between}

-- A front of these bytes is read as this value, whatever follows it, and the others are left.
pub record ReadsIn {Y : Type 0} (read : Reader Y) (bytes : List ℕ) (y : Y) (left : List ℕ) : Type 0 where
  pub front : List ℕ
  pub parts : bytes ≡ front ++ left
  pub reads : (more : List ℕ) → read (front ++ more) ≡ Ok (y, more)

-- A front of these bytes is runs, and the others are left: whatever follows it, a decoder that holds nothing gives these
-- values there, and then holds those.
pub record FillsIn {V : Type 0} (Run : List ℕ → List V → Type 0) (bytes : List ℕ) (given held : List V) (left : List ℕ) : Type 0 where
  pub front : List ℕ
  pub parts : bytes ≡ front ++ left
  pub spells : (start more : List ℕ) (earlier : List V) → Between Run start earlier [] (front ++ more)
      → Between Run start (earlier ++ given) held more

-- so many bytes are passed over
abbrev pub skipped : ℕ → Reader (Unit {0})
skipped count bytes = if nat_le count (length bytes) then Ok (tt, drop count bytes) else Err StreamEnds

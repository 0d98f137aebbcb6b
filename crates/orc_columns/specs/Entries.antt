-- The entries of a dictionary, and the texts of rows by their numbers. Source: this project's own.
use Rattle.std.specs.Prelude.{◌≡◌, ℕ, ◌≤◌, false, List, length, ℤ, Contains}
use Rattle.outside.specs.Runs.{Spells}
use Rattle.orc_columns.specs.declared.fault.ColumnFault.{ColumnFault}
use Rattle.orc_columns.specs.declared.fault.ColumnFault.TheVariants.{IndexOutOfDictionary, NoMemory}
use Rattle.orc_columns.specs.declared.spelling.Version.{Version}
use Rattle.orc_columns.specs.Column.{Streams, places_of}
use Rattle.orc_columns.specs.Spelling.{IntRun}
use Rattle.orc_columns.specs.Draws.{OnlyLengths}

-- a number isn't below that of the entries, or memory was refused
abbrev pub IsOutOf : List (List ℕ) → List ℤ → ColumnFault → Type 0
IsOutOf entries numbers IndexOutOfDictionary = (place : ℕ) × Contains (places_of numbers) place × (length entries ≤ place)
IsOutOf entries numbers NoMemory = Unit {0}
IsOutOf entries numbers fault = ⊥

-- the numbers of the lengths of all entries were read, and of LENGTH no more than the fewest runs that spell them
pub record LengthsRead (version : Version) (size : ℕ) (before after : Streams) (numbers : List ℤ) : Type 0 where
  pub only : OnlyLengths before after
  pub all : length numbers ≡ size
  pub spelled : Spells (IntRun version false) before.lengths numbers after.lengths

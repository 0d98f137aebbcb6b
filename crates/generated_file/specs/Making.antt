-- The making of a generated file. Source: this project's own.
use Rattle.std.specs.Prelude.{◌≡◌, ℕ, ◌≤◌, List, length, take, Option, Result, Ok, Err}
use Rattle.outside.specs.Told.{Extended}
use Rattle.orc_writer.specs.declared.fault.MakeFault.{MakeFault}
use Rattle.orc_writer.specs.declared.fault.MakeFault.TheVariants.{Write, NoMemory}
use Rattle.orc_writer.specs.Given.{AreOfSpecs}
use Rattle.orc_writer.specs.Writing.{Writing, Holds, shapes}
use Rattle.generated_file.specs.Columns.{generated_columns, rows_of}
use Rattle.generated_file.specs.File.{IsGenerated, stripe_rows}

-- the writer holds the first rows of the file of that number
pub record HasFirst (number rows : ℕ) (w : Writing) : Type 0 where
  pub columns_are : AreOfSpecs generated_columns (shapes w)
  pub stripes_of : w.stripe_rows ≡ stripe_rows
  pub holds : Holds w (rows_of number rows)

-- What was written: the whole file; a front of it where a write failed; nothing where memory was refused.
abbrev pub WroteGenerated : ℕ → ℕ → Option (List ℕ) → Option (List ℕ) → Result (Unit {0}) MakeFault → Type 0
WroteGenerated number rows before after (Ok done) = (file : List ℕ) × IsGenerated number rows file × Extended before after file
WroteGenerated number rows before after (Err (Write failed)) =
    (file : List ℕ) × (n : ℕ) × IsGenerated number rows file × (n ≤ length file) × Extended before after (take n file)
WroteGenerated number rows before after (Err NoMemory) = after ≡ before

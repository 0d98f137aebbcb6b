-- What a store with a generated file answers of that file. Source: this project's own.
use Rattle.std.specs.Prelude.{◌≡◌, ◌≤◌, ◌+◌, ℕ, List, length, Option, Some, None, slice_get}
use Rattle.outside.specs.Files.{Files}
use Rattle.outside.specs.declared.file_ref.FileRef.{FileRef}
use Rattle.generated_plan.specs.Text.{file_name}
use Rattle.generated_store.specs.Made.{MadeOf}

-- the number of the generated file: the last that a file may have
abbrev pub made_number : ℕ
made_number = 4095

-- Where files are told, the generated file, if there is one, is the last of them.
abbrev pub IsLast : Option Files → Option MadeOf → Type 0
IsLast None kept = Unit {0}
IsLast (Some files) None = Unit {0}
IsLast (Some files) (Some made) = slice_get files made_number ≡ Some (file_name made.number made.rows, made.bytes)

-- What a store with a generated file shows: the store below, and that file, or none.
pub record GeneratedOf (S : Type 0) : Type 0 where
  pub under : S
  pub made : Option MadeOf

-- the file is the generated one
abbrev pub IsMade : Option MadeOf → List ℕ → MadeOf → Type 0
IsMade kept name made = (kept ≡ Some made) × (name ≡ file_name made.number made.rows)

-- the file as it is found
abbrev pub made_ref : MadeOf → FileRef
made_ref made = record { number = made_number; len = length made.bytes }

-- the range lies in the generated file
abbrev pub IsInMade : Option MadeOf → FileRef → ℕ → ℕ → MadeOf → Type 0
IsInMade kept file at len made = (kept ≡ Some made) × (file.number ≡ made_number) × (at + len ≤ length made.bytes)

-- the range doesn't lie in a generated file: it is of another file, or goes past the end
abbrev pub IsNotInMade : Option MadeOf → FileRef → ℕ → ℕ → Type 0
IsNotInMade kept file at len = (made : MadeOf) → ¬ IsInMade kept file at len made

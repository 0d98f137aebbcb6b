-- The files of a run, and what a store may say of one. Source: this project's own.
use Rattle.std.specs.Prelude.{◌≡◌, ◌≢◌, ℕ, ◌+◌, ◌<◌, ◌≤◌, cond, List, [], ◌∷◌, length, Option, Some, None, option_map, IsSome, All, AllPairs, slice_get}
use Rattle.std.specs.Str.{bytes_eq}
use Rattle.outside.specs.declared.file_ref.FileRef.{FileRef}
use Rattle.outside.specs.declared.file_ref.FileRange.{FileRange}

-- a file: its name and its bytes
abbrev pub File : Type 0
File = List ℕ × List ℕ

-- the files of a run, in order: a file's number is its index
abbrev pub Files : Type 0
Files = List File

-- What the files of a run meet: there are at most 4,096, their names differ, and each holds bytes.
pub record AreFiles (files : Files) : Type 0 where
  pub few : length files ≤ 4096
  pub distinct : AllPairs (λ (f g : File). f.0 ≢ g.0) files
  pub bytes : All (λ (f : File). All (λ b. b < 256) f.1) files

-- the file of that name, where its number is counted from `number`
abbrev pub found_from : ℕ → List ℕ → Files → Option FileRef
found_from number name [] = None
found_from number name (f ∷ fs) =
    cond (bytes_eq f.0 name) (Some (record { number = number; len = length f.1 })) (found_from (number + 1) name fs)

-- the file of that name: its index in the list, and its length
abbrev pub file_named : List ℕ → Files → Option FileRef
file_named name files = found_from 0 name files

-- the bytes of the file with that number, where files are told and there is one
abbrev pub bytes_of : Option Files → ℕ → Option (List ℕ)
bytes_of None number = None
bytes_of (Some files) number = option_map (λ (f : File). f.1) (slice_get files number)

-- Files are told, and these are that file's bytes.
pub record HasBytes (told : Option Files) (file : FileRef) (bytes : List ℕ) : Type 0 where
  pub bytes_are : bytes_of told file.number ≡ Some bytes
  pub len_is : file.len ≡ length bytes

-- where files are told, it is one of them, with its length
abbrev pub IsFile : Option Files → FileRef → Type 0
IsFile told file = IsSome told → (bytes : List ℕ) × HasBytes told file bytes

-- the range of that file
abbrev pub range_of : FileRef → ℕ → ℕ → FileRange
range_of file at len = record { file = file.number; at = at; len = len }

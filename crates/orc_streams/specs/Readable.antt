-- What must be known of a file before it is read. Source: this project's own.
use Rattle.std.specs.Prelude.{◌<◌, ◌≤◌, Option}
use Rattle.outside.specs.declared.file_ref.FileRef.{FileRef}
use Rattle.outside.specs.Files.{Files, IsFile}

-- Its number is below 4,096, its length at most 4,294,967,295 bytes, and where files are told it is one of them.
pub record IsReadable (told : Option Files) (file : FileRef) : Type 0 where
  pub number : file.number < 4096
  pub len : file.len ≤ 4294967295
  pub is_file : IsFile told file

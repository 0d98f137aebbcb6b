-- What a fault of the listing is. Source: this project's own.
use Rattle.std.specs.Prelude.{◌≡◌, ◌≢◌}
use Rattle.std.specs.declared.io.ErrorKind.{ErrorKind}
use Rattle.std.specs.declared.io.ErrorKind.TheVariants.{OutOfMemory}
use Rattle.data_path.specs.declared.folder.FolderError.{FolderError}
use Rattle.data_path.specs.declared.folder.FolderError.TheVariants as folder

-- a fault of that kind is want of memory, or else one of the folder
pub record IsFolderFault (kind : ErrorKind) (answer : FolderError) : Type 0 where
  pub refused : kind ≡ OutOfMemory → answer ≡ folder.NoMemory
  pub others : kind ≢ OutOfMemory → answer ≡ folder.Fault

-- Bytes that are taken of a stream that may be lacking. Source: this project's own.
use Rattle.std.specs.Prelude.{◌≡◌, ℕ, ◌<◌, ◌≤◌, List, length, take, drop, Option, Some, Result, IsErrAnd}
use Rattle.outside.specs.declared.run_fault.RunFault.{RunFault}
use Rattle.outside.specs.declared.run_fault.RunFault.TheVariants as run
use Rattle.outside.specs.Cause.{Cause}
use Rattle.outside.specs.Feed.{Taken}
use Rattle.outside.specs.Reading.{Reader, Gives, IsReadFault}
use Rattle.orc_columns.specs.declared.fault.ColumnFault.{ColumnFault}
use Rattle.orc_columns.specs.declared.fault.ColumnFault.TheVariants.{LengthsPastData, Read}
use Rattle.orc_columns.specs.Column.{Streams}
use Rattle.orc_columns.specs.Draws.{OnlyBody, OnlyDictionary}
use Rattle.row_flags.specs.Optional.{rest_in, AllIn}

-- What `Reads` says of a call, of a stream that may be lacking.
pub record ReadsIn {F Y : Type 0} (rest : F → ℕ → Option (List ℕ)) (fed : F → List Taken → F → Type 0) (count : F → ℕ)
    (stream : Option ℕ) (read : Reader Y) (first last : F) (answer : Result Y RunFault) : Type 0 where
  pub takes : List Taken
  pub led : fed first takes last
  pub own : AllIn stream takes
  pub cause : Cause (count first) (count last) (IsErrAnd answer IsReadFault)
  pub told : (bytes : List ℕ) → rest_in rest first stream ≡ Some bytes → Gives (read bytes) (rest_in rest last stream) answer

-- the fault of a column whose texts' bytes aren't there
abbrev pub take_fault : RunFault → ColumnFault
take_fault (run.Read failed) = Read failed
take_fault fault = LengthsPastData

-- so many bytes were taken of DATA
pub record BodyTaken (count : ℕ) (before after : Streams) (bytes : List ℕ) : Type 0 where
  pub only : OnlyBody before after
  pub enough : count ≤ length before.body
  pub bytes_are : bytes ≡ take count before.body
  pub left : after.body ≡ drop count before.body

-- it has fewer
abbrev pub BodyShort : ℕ → Streams → ColumnFault → Type 0
BodyShort count before fault = length before.body < count

-- the same of DICTIONARY_DATA
pub record DictionaryTaken (count : ℕ) (before after : Streams) (bytes : List ℕ) : Type 0 where
  pub only : OnlyDictionary before after
  pub enough : count ≤ length before.dictionary
  pub bytes_are : bytes ≡ take count before.dictionary
  pub left : after.dictionary ≡ drop count before.dictionary

abbrev pub DictionaryShort : ℕ → Streams → ColumnFault → Type 0
DictionaryShort count before fault = length before.dictionary < count

-- What a reader of streams does, act by act. Source: this project's own.
use Rattle.std.specs.Prelude.{ℕ, List, [], ◌∷◌, Result, Ok, Err}
use Rattle.outside.specs.declared.file_ref.FileRange.{FileRange}
use Rattle.outside.specs.Feed.{Taken}
use Rattle.outside.specs.Followed.{failed_read}
use Rattle.outside.specs.Reads.{ReadEntry}
use Rattle.orc_streams.specs.declared.stream_reader.OpenFault.{OpenFault}
use Rattle.orc_streams.specs.declared.stream_reader.OpenFault.TheVariants.{Read, NoMemory}

-- a read of a range, answered Ok or not; the opening of a stream at a range; a take; or the closing of all streams
pub data Act : Type 0 where
  reads : ReadEntry → Act
  opens : ℕ → FileRange → Act
  takes : Taken → Act
  closes : Act

-- reads, in their order
abbrev pub read_acts : List ReadEntry → List Act
read_acts [] = []
read_acts (e ∷ es) = reads e ∷ read_acts es

-- takes, in their order
abbrev pub take_acts : List Taken → List Act
take_acts [] = []
take_acts (t ∷ ts) = takes t ∷ take_acts ts

-- An opening that answered so: the stream is open; or a read of its range failed; or memory was refused, and nothing was done.
abbrev pub open_acts : {T : Type 0} → ℕ → FileRange → Result T OpenFault → List Act
open_acts stream range (Ok x) = opens stream range ∷ []
open_acts stream range (Err (Read failed)) = reads (failed_read range) ∷ []
open_acts stream range (Err NoMemory) = []

-- a read failed
abbrev pub FailedToOpen : {T : Type 0} → Result T OpenFault → Type 0
FailedToOpen (Ok x) = ⊥
FailedToOpen (Err (Read failed)) = Unit {0}
FailedToOpen (Err NoMemory) = ⊥

-- The words of the faults of a file's tail, of a stripe's footer and of a column in a stripe (this project's own).
use Rattle.std.specs.Prelude.{ℕ, List, [], ◌∷◌, ◌++◌, codes}
use Rattle.outside.specs.declared.run_fault.RunFault.{RunFault}
use Rattle.outside.specs.declared.run_fault.RunFault.TheVariants as run
use Rattle.orc_columns.specs.declared.fault.ColumnFault.{ColumnFault}
use Rattle.orc_columns.specs.declared.fault.ColumnFault.TheVariants as column
use Rattle.orc_columns.specs.declared.fault.StreamName.{StreamName}
use Rattle.orc_columns.specs.declared.fault.StreamName.TheVariants as stream
use Rattle.orc_tail.specs.declared.fault.TailFault.{TailFault}
use Rattle.orc_tail.specs.declared.fault.TailFault.TheVariants as fault

-- The words of a fault of a tail or a footer. A compression is a failure of its own, and a failed read or want of memory is no
-- fault of the file: these three have none.
abbrev pub tail_words : TailFault → List ℕ
tail_words fault.TooShort = codes "short"
tail_words fault.NotOrc = codes "not orc"
tail_words (fault.Compressed kind) = []
tail_words (fault.Wire wire) = codes "wire"
tail_words fault.OutOfFile = codes "out of file"
tail_words fault.BadTypes = codes "types"
tail_words fault.TooLarge = codes "too large"
tail_words fault.RootPresent = codes "root present"
tail_words fault.StreamOutOfStripe = codes "stream out of stripe"
tail_words (fault.Read failed) = []
tail_words fault.NoMemory = []

-- the word of a stream
abbrev pub stream_word : StreamName → List ℕ
stream_word stream.Present = codes "present"
stream_word stream.Body = codes "data"
stream_word stream.Length = codes "length"

-- The words of a run's fault. A failed read is none.
abbrev pub run_words : RunFault → List ℕ
run_words run.StreamEnds = codes "stream ends"
run_words run.LongVarint = codes "long varint"
run_words run.PatchOutOfRun = codes "patch out of run"
run_words run.PatchTooWide = codes "patch too wide"
run_words (run.Read failed) = []

-- The words of a column's fault: of a run, its stream's word and its own. A failed read or want of memory is no fault of the
-- column: these have none.
abbrev pub column_words : ColumnFault → List ℕ
column_words column.BadEncoding = codes "encoding"
column_words (column.Run name fault) = stream_word name ++ 32 ∷ run_words fault
column_words column.NegativeLength = codes "negative length"
column_words column.LengthsPastData = codes "lengths"
column_words column.IndexOutOfDictionary = codes "index"
column_words (column.Read failed) = []
column_words column.NoMemory = []

use Rattle.std.proofs.Common.{◌≡◌, ◌++◌, length}
use Rattle.std.specs.Vec.Iter.{into_iter_items, into_iter_len}
use Rattle.orc_writer.specs.Ending.{file_columns_of}
use Rattle.orc_writer.proofs.ending.file_columns.Given as goal

abbrev pub invariant-loop-column : goal.invariant-loop-column
invariant-loop-column l = (l.yielded ++ into_iter_items l.column-iterator ≡ into_iter_items l.initial.column-iterator)
    × (l.of.items ≡ file_columns_of l.yielded)
    × (into_iter_len l.column-iterator ≡ length (into_iter_items l.column-iterator))

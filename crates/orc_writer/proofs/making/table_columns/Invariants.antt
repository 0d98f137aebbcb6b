use Rattle.std.proofs.Common.{◌≡◌, ◌++◌, length, All}
use Rattle.std.specs.Vec.Iter.{into_iter_items, into_iter_len}
use Rattle.orc_writer.specs.Given.{IsSpec}
use Rattle.orc_writer.specs.Making.{AreMade}
use Rattle.orc_writer.proofs.making.table_columns.Given as goal

abbrev pub invariant-loop-spec : goal.invariant-loop-spec
invariant-loop-spec l = (l.yielded ++ into_iter_items l.spec-iterator ≡ into_iter_items l.initial.spec-iterator)
    × AreMade l.yielded l.columns.items
    × (into_iter_len l.spec-iterator ≡ length (into_iter_items l.spec-iterator))
    × All IsSpec (into_iter_items l.spec-iterator)

use Rattle.std.proofs.Common.{arith}
use Rattle.column_writer.specs.Encoded.{spelling_in, values_in}
use Rattle.column_writer.proofs.Rows.{values_few, has_rows, IfOk-then}
use Rattle.column_writer.proofs.column_buffer.ColumnBuffer.encode.Goals as goal

pub encode-requires : goal.encode-requires
encode-requires c =
    let s = c.self.inside in
    let few = (rw (← c.self.view_is) at c.requires) in
    omega (arith, values_few s.flags.items (values_in s.kept) c.self.invariant, few)

pub returns : goal.returns
returns c =
    let s = c.self.inside in
    rw (← c.self.view_is) (IfOk-then c.encode.result c.encode.ensures (λ e told. has_rows (spelling_in s.kept) s.flags.items (values_in s.kept) e c.self.invariant (rw c.deref.ensures.value at told.0) told.1))

use Rattle.std.proofs.Common.{rules}
use Rattle.orc_values.proofs.ColumnRows.{column-present}
use Rattle.orc_values.proofs.column.Column.present.Goals as goal

pub returns : goal.returns
returns c =
    let s = c.self.inside in
    let seen = column-present s.present.items s.values c.self.invariant in
    rw (← c.self.view_is) (rw seen (search rules))

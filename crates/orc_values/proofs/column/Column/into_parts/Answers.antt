use Rattle.std.proofs.Common.{sym}
use Rattle.orc_values.proofs.ColumnRows.{column-again, column-count, column-present}
use Rattle.orc_values.proofs.column.Column.into_parts.Goals as goal

pub returns-clause-present : goal.returns-clause-present
returns-clause-present c =
    let s = c.self.inside in
    rw (← c.self.view_is) (sym (column-present s.present.items s.values c.self.invariant))

pub returns-clause-count : goal.returns-clause-count
returns-clause-count c =
    let s = c.self.inside in
    rw (← c.self.view_is) (column-count s.present.items s.values c.self.invariant)

pub returns-clause-values : goal.returns-clause-values
returns-clause-values c =
    let s = c.self.inside in
    rw (← c.self.view_is) (column-again s.present.items s.values c.self.invariant)

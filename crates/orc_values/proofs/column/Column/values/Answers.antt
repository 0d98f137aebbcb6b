use Rattle.orc_values.proofs.ColumnRows.{column-again, column-count}
use Rattle.orc_values.proofs.column.Column.values.Goals as goal

pub returns-clause-count : goal.returns-clause-count
returns-clause-count c =
    let s = c.self.inside in
    rw (← c.self.view_is) (column-count s.present.items s.values c.self.invariant)

pub returns-clause-values : goal.returns-clause-values
returns-clause-values c =
    let s = c.self.inside in
    rw (← c.self.view_is) (column-again s.present.items s.values c.self.invariant)

use Rattle.std.proofs.Common.{◌∙◌}
use Rattle.orc_values.proofs.ColumnRows.{column-count}
use Rattle.orc_values.proofs.column.Column.count.Goals as goal

pub returns : goal.returns
returns c =
    let s = c.self.inside in
    rw (← c.self.view_is) (c.len.ensures ∙ column-count s.present.items s.values c.self.invariant)

use Rattle.std.proofs.Common.{rules}
use Rattle.orc_values.specs.ColumnLaws.{length-column_of}
use Rattle.orc_values.proofs.column.Column.is_empty.Goals as goal

pub returns : goal.returns
returns c =
    let s = c.self.inside in
    let seen = length-column_of s.present.items s.values in
    rw (← c.self.view_is) (rw seen (search rules))

use Rattle.std.proofs.Common.{◌∙◌, sym}
use Rattle.orc_values.proofs.ColumnRows.{all_before}
use Rattle.orc_values.proofs.column.place_of.Goals as goal

pub returns-then-count-present : goal.returns-then-count-present
returns-then-count-present c = sym (all_before c.args.present.now c.args.row c.requires.row (sym c.requires.count ∙ c.if-count-present.true))

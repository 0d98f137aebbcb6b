use Rattle.column_writer.proofs.Rows.{no_row}
use Rattle.column_writer.proofs.row_push.+push_row.Goals as goal

pub returns-in_default-clause-ok : goal.returns-in_default-clause-ok
returns-in_default-clause-ok t c = no_row c.args.columns.now c.args.row.now c.in_default.ensures.cases

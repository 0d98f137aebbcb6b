use Rattle.std.proofs.Common.{◌∙◌}
use Rattle.fold_rows.proofs.Rows.{count-whole}
use Rattle.fold_rows.proofs.whole.count_whole.Goals as goal

pub returns-clause-state : goal.returns-clause-state
returns-clause-state c = c.count_with.ensures.state ∙ count-whole c.args.state c.args.rows c.args.columns.now

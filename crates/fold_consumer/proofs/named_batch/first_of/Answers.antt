use Rattle.std.proofs.Common.{sym, ◌∙◌}
use Rattle.fold_consumer.proofs.Named.{others_stay}
use Rattle.fold_consumer.proofs.named_batch.first_of.Goals as goal

pub returns-clause-left : goal.returns-clause-left
returns-clause-left c = others_stay c.args.column.number c.args.read.now c.swap_at.new.columns c.args.columns.now c.args.others.now (sym c.is_among.ensures ∙ c.if-is_among.false) c.swap_at.ensures.others

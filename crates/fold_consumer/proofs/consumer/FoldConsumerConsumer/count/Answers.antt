use Rattle.std.proofs.Common.{ap, ◌∙◌}
use Rattle.orc_rows.specs.Given.{kinds_in}
use Rattle.fragment_meaning.specs.ScanColumns.{by_number}
use Rattle.fold_consumer.specs.Folding.{FoldingOf}
use Rattle.fold_consumer.proofs.Named.{no_columns}
use Rattle.fold_consumer.proofs.consumer.FoldConsumerConsumer.count.Goals as goal

pub fold_count-requires-clause-count : goal.fold_count-requires-clause-count
fold_count-requires-clause-count c =
    let none = no_columns c.self.inside.named.now (ap (λ (f : FoldingOf). kinds_in (by_number f.named)) c.self.view_is ∙ c.requires.no_column) in
    ((c.self.invariant c.if-self.false).counts none).0

pub fold_count-requires-clause-all : goal.fold_count-requires-clause-all
fold_count-requires-clause-all c =
    let none = no_columns c.self.inside.named.now (ap (λ (f : FoldingOf). kinds_in (by_number f.named)) c.self.view_is ∙ c.requires.no_column) in
    ((c.self.invariant c.if-self.false).counts none).1

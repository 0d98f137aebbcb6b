use Rattle.std.proofs.Common.{◌≡◌, ◌∙◌, length, sym, ap, subst, List}
use Rattle.std.specs.Prelude.{All}
use Rattle.std.proofs.lemmas.List.{take_all}
use Rattle.std.proofs.lemmas.List.Elements.{All-more, All-nil}
use Rattle.orc_values.specs.Column.{RowValues}
use Rattle.fold_tests.proofs.batches.are_long.Goals as goal

pub loop-column-init : goal.loop-column-init
loop-column-init c = All-nil (λ column. length column ≡ c.args.rows)

pub loop-column-preserved : goal.loop-column-preserved
loop-column-preserved c =
    All-more (λ column. length column ≡ c.args.rows) c.args.columns.now c.loop-column.column-index c.column-item.result c.loop-column-test.true c.loop-column.invariant
    (ap (λ (column : RowValues). length column) (sym c.column-item.is) ∙ sym c.len.ensures ∙ c.if-len-rows.false)

pub returns : goal.returns
returns c = λ long. subst (λ (columns : List RowValues). All (λ column. length column ≡ c.args.rows) columns) (take_all c.loop-column.column-index c.args.columns.now c.loop-column-test.false) c.loop-column.invariant

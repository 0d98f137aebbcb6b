use Rattle.std.proofs.Common.{◌≡◌, ◌∙◌, [], length, sym, ap, List}
use Rattle.std.proofs.lemmas.List.{get_or_read}
use Rattle.std.proofs.lemmas.List.Elements.{All-get_or}
use Rattle.orc_values.specs.declared.value.Value.{Value}
use Rattle.batch_masks.specs.RowsLaws.{column_of_rows}
use Rattle.batch_masks.specs.Totals.{numbers_in, with_numbers}
use Rattle.batch_masks.specs.declared.total.Total.{Total}
use Rattle.fold_rows.specs.declared.state.State.TheVariants as state
use Rattle.fold_rows.proofs.whole.sum_whole.Goals as goal

pub returns-in-Sum-clause-state : goal.returns-in-Sum-clause-state
returns-in-Sum-clause-state c =
    let none : List Value = [] in
    let columns = c.args.columns.now in
    let column = get_or_read columns c.args.place c.index-columns-place.result c.requires.place c.index-columns-place.is none in
    let len = All-get_or (λ column. length column ≡ c.args.rows) columns c.args.place none c.requires.place c.requires.rows in
    let rows = column ∙ sym (column_of_rows columns c.args.rows c.args.place c.requires.place len) in
    rw c.in-Sum.is (ap (λ (t : Total). state.Sum t) (c.with_all.ensures.total ∙ ap (λ (l : List Value). with_numbers c.in-Sum.total (numbers_in l)) rows))

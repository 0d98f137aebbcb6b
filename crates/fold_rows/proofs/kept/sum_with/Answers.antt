use Rattle.std.proofs.Common.{◌≡◌, ◌∙◌, [], length, ap, List}
use Rattle.std.proofs.lemmas.List.{get_or_read}
use Rattle.std.proofs.lemmas.List.Elements.{All-get_or}
use Rattle.orc_values.specs.declared.value.Value.{Value}
use Rattle.batch_masks.specs.Kept.{kept}
use Rattle.batch_masks.specs.Totals.{numbers_in, with_numbers}
use Rattle.batch_masks.specs.declared.total.Total.{Total}
use Rattle.fold_rows.specs.declared.state.State.TheVariants as state
use Rattle.fold_rows.proofs.Rows.{column_kept}
use Rattle.fold_rows.proofs.kept.sum_with.Goals as goal

pub returns-in-Sum-clause-state : goal.returns-in-Sum-clause-state
returns-in-Sum-clause-state c =
    let none : List Value = [] in
    let mask = c.args.mask.now in
    let columns = c.args.columns.now in
    let column = get_or_read columns c.args.place c.index-columns-place.result c.requires.place c.index-columns-place.is none in
    let len = All-get_or (λ column. length column ≡ length mask) columns c.args.place none c.requires.place c.requires.rows in
    rw c.in-Sum.is (ap (λ (t : Total). state.Sum t) (c.with_kept.ensures.total
    ∙ ap (λ (l : List Value). with_numbers c.in-Sum.total (numbers_in l)) (ap (kept mask) column ∙ column_kept mask columns (length mask) c.args.place c.requires.place len)))

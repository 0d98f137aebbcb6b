use Rattle.std.proofs.Common.{◌≡◌, ◌∙◌, [], length, ap, List}
use Rattle.std.proofs.lemmas.List.{get_or_read}
use Rattle.std.proofs.lemmas.List.Elements.{All-get_or}
use Rattle.orc_values.specs.declared.value.Value.{Value}
use Rattle.group_counts.specs.Order.{value_cmp}
use Rattle.group_counts.specs.Tally.{added_all}
use Rattle.group_counts.specs.Entries.{Entries}
use Rattle.batch_masks.specs.Kept.{kept}
use Rattle.fold_rows.specs.States.{once}
use Rattle.fold_rows.specs.declared.state.State.TheVariants as state
use Rattle.fold_rows.proofs.Rows.{column_kept}
use Rattle.fold_rows.proofs.kept.group_with.Goals as goal

pub returns-in-Ok-clause-state : goal.returns-in-Ok-clause-state
returns-in-Ok-clause-state c =
    let none : List Value = [] in
    let mask = c.args.mask.now in
    let columns = c.args.columns.now in
    let column = get_or_read columns c.args.place c.index-columns-place.result c.requires.place c.index-columns-place.is none in
    let len = All-get_or (λ column. length column ≡ length mask) columns c.args.place none c.requires.place c.requires.rows in
    rw c.in-Group.is (ap (λ (es : Entries). state.Group es) (c.in-Ok.ensures
    ∙ ap (λ (l : List Value). added_all value_cmp c.in-Group.counts (once l)) (ap (kept mask) column ∙ column_kept mask columns (length mask) c.args.place c.requires.place len)))

use Rattle.std.proofs.Common.{◌≡◌, ◌∙◌, Bool, List, ap}
use Rattle.orc_values.specs.declared.column_values.ColumnValues.TheVariants as list
use Rattle.orc_values.specs.declared.value.Value.{Value}
use Rattle.orc_values.specs.Column.{column_of}
use Rattle.group_counts.specs.Order.{value_cmp}
use Rattle.group_counts.specs.Tally.{added_all}
use Rattle.group_counts.specs.Entries.{Entries}
use Rattle.group_counts.specs.EntryCounts.{flagged}
use Rattle.fold_rows.proofs.Rows.{flagged-once}
use Rattle.fold_rows.proofs.kept.count_chosen.Goals as goal

pub returns : goal.returns
returns c =
    let mask = c.args.mask.now in
    let counts = c.args.counts in
    c.in_ok-add_chosen.ensures
    ∙ ap (λ (present : List Bool). added_all value_cmp counts (flagged mask (column_of present (list.Chosen c.args.texts.now)))) c.present.ensures
    ∙ ap (λ (column : List Value). added_all value_cmp counts (flagged mask column)) c.requires.values
    ∙ ap (λ (es : Entries). added_all value_cmp counts es) (flagged-once mask c.args.column.now)

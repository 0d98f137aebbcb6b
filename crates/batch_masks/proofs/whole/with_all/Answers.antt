use Rattle.std.proofs.Common.{◌≡◌, ◌∙◌, ◌+◌, ℤ, List, length, ap, sym, arith}
use Rattle.orc_values.specs.declared.column_values.ColumnValues.TheVariants as list
use Rattle.orc_values.specs.Column.{entries_in}
use Rattle.batch_masks.specs.Totals.{numbers_in, with_numbers}
use Rattle.batch_masks.proofs.Numbers.{with_none}
use Rattle.batch_masks.proofs.Dense.{few_more, values_most, known_rows, column_numbers, column_truths, column_texts, column_chosen}
use Rattle.batch_masks.proofs.whole.with_all.Goals as goal

pub with_each-requires-clause-few : goal.with_each-requires-clause-few
with_each-requires-clause-few c =
    let same : entries_in c.values.result.now ≡ length c.in-Ints.numbers.items = ap entries_in c.in-Ints.is in
    omega (arith, c.requires.few, values_most c.args.column.now c.values.result.now c.values.ensures.count, same, ap (λ (l : List ℤ). length l) c.deref.ensures.value)

pub returns-in-Ints-clause-total : goal.returns-in-Ints-clause-total
returns-in-Ints-clause-total c =
    let column = c.args.column.now in
    let same : entries_in c.values.result.now ≡ length c.in-Ints.numbers.items = ap entries_in c.in-Ints.is in
    let rows = known_rows column c.values.result.now (list.Ints c.in-Ints.numbers) c.in-Ints.is c.values.ensures.values in
    let all = column_numbers column c.in-Ints.numbers (sym same ∙ c.values.ensures.count) rows in
    c.with_each.ensures.total ∙ ap (with_numbers c.args.total) (c.deref.ensures.value ∙ sym all)

pub returns-in-Ints-clause-bound : goal.returns-in-Ints-clause-bound
returns-in-Ints-clause-bound c =
    let same : entries_in c.values.result.now ≡ length c.in-Ints.numbers.items = ap entries_in c.in-Ints.is in
    let most = values_most c.args.column.now c.values.result.now c.values.ensures.count in
    few_more (c.args.given + length c.deref.result.now) (c.args.given + length c.args.column.now) c.with_each.result.sum
    c.with_each.ensures.bound (omega (arith, most, same, ap (λ (l : List ℤ). length l) c.deref.ensures.value))

pub returns-in-Bools-clause-total : goal.returns-in-Bools-clause-total
returns-in-Bools-clause-total c =
    let rows = known_rows c.args.column.now c.values.result.now (list.Bools c.in-Bools.field-0) c.in-Bools.is c.values.ensures.values in
    with_none c.args.total (numbers_in c.args.column.now) (column_truths c.args.column.now c.in-Bools.field-0 rows)

pub returns-in-Texts-clause-total : goal.returns-in-Texts-clause-total
returns-in-Texts-clause-total c =
    let rows = known_rows c.args.column.now c.values.result.now (list.Texts c.in-Texts.field-0) c.in-Texts.is c.values.ensures.values in
    with_none c.args.total (numbers_in c.args.column.now) (column_texts c.args.column.now c.in-Texts.field-0 rows)

pub returns-in-Chosen-clause-total : goal.returns-in-Chosen-clause-total
returns-in-Chosen-clause-total c =
    let rows = known_rows c.args.column.now c.values.result.now (list.Chosen c.in-Chosen.field-0) c.in-Chosen.is c.values.ensures.values in
    with_none c.args.total (numbers_in c.args.column.now) (column_chosen c.args.column.now c.in-Chosen.field-0 rows)

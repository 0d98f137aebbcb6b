use Rattle.std.proofs.Common.{◌≡◌, ◌∙◌, ◌+◌, ℕ, ℤ, Bool, List, length, ap, sym, refl, arith}
use Rattle.std.proofs.lemmas.List.{length-map}
use Rattle.orc_values.specs.declared.value.Value.TheVariants as value
use Rattle.orc_values.specs.declared.column_values.ColumnValues.TheVariants as list
use Rattle.orc_values.specs.Column.{present_of, is_present, entries_in}
use Rattle.batch_masks.specs.Kept.{kept}
use Rattle.batch_masks.specs.Totals.{numbers_in, with_numbers}
use Rattle.batch_masks.proofs.Numbers.{numbers-ints, numbers-none, with_none}
use Rattle.batch_masks.proofs.Dense.{few_more, values_most, known_rows}
use Rattle.batch_masks.proofs.total.with_kept.Goals as goal

pub returns-in-Bools-clause-total : goal.returns-in-Bools-clause-total
returns-in-Bools-clause-total c =
    let rows = known_rows c.args.column.now c.values.result.now (list.Bools c.in-Bools.field-0) c.in-Bools.is c.values.ensures.values in
    with_none c.args.total _ (ap (λ l. numbers_in (kept c.args.mask.now l)) (sym rows)
    ∙ numbers-none (λ (b : Bool). value.Bool b) (λ x values. refl) c.args.mask.now (present_of c.args.column.now) c.in-Bools.field-0.items)

pub returns-in-Texts-clause-total : goal.returns-in-Texts-clause-total
returns-in-Texts-clause-total c =
    let rows = known_rows c.args.column.now c.values.result.now (list.Texts c.in-Texts.field-0) c.in-Texts.is c.values.ensures.values in
    with_none c.args.total _ (ap (λ l. numbers_in (kept c.args.mask.now l)) (sym rows)
    ∙ numbers-none (λ (t : List ℕ). value.Text t) (λ x values. refl) c.args.mask.now (present_of c.args.column.now) c.in-Texts.field-0)

pub returns-in-Chosen-clause-total : goal.returns-in-Chosen-clause-total
returns-in-Chosen-clause-total c =
    let rows = known_rows c.args.column.now c.values.result.now (list.Chosen c.in-Chosen.field-0) c.in-Chosen.is c.values.ensures.values in
    with_none c.args.total _ (ap (λ l. numbers_in (kept c.args.mask.now l)) (sym rows)
    ∙ numbers-none (λ (t : List ℕ). value.Text t) (λ x values. refl) c.args.mask.now (present_of c.args.column.now) c.in-Chosen.field-0)

pub with_numbers_kept-requires-clause-few : goal.with_numbers_kept-requires-clause-few
with_numbers_kept-requires-clause-few c =
    let same : entries_in c.values.result.now ≡ length c.in-Ints.numbers.items = ap entries_in c.in-Ints.is in
    omega (arith, c.requires.few, values_most c.args.column.now c.values.result.now c.values.ensures.count, same, ap (λ (l : List ℤ). length l) c.deref.ensures.value)

pub returns-in-Ints-clause-total : goal.returns-in-Ints-clause-total
returns-in-Ints-clause-total c =
    let mask = c.args.mask.now in
    let column = c.args.column.now in
    let flags : List Bool = present_of column in
    let numbers : List ℤ = c.in-Ints.numbers.items in
    let same : entries_in c.values.result.now ≡ length numbers = ap entries_in c.in-Ints.is in
    let rows = known_rows column c.values.result.now (list.Ints c.in-Ints.numbers) c.in-Ints.is c.values.ensures.values in
    let len : length mask ≡ length flags = c.requires.rows ∙ sym (length-map column is_present) in
    let all = ap (λ l. numbers_in (kept mask l)) (sym rows) ∙ numbers-ints mask flags numbers len (sym same ∙ c.values.ensures.count) in
    c.with_numbers_kept.ensures.total
    ∙ ap (λ (l : List Bool). with_numbers c.args.total (kept (kept l mask) c.deref.result.now)) c.present.ensures
    ∙ ap (λ (l : List ℤ). with_numbers c.args.total (kept (kept flags mask) l)) c.deref.ensures.value
    ∙ ap (with_numbers c.args.total) (sym all)

pub returns-in-Ints-clause-bound : goal.returns-in-Ints-clause-bound
returns-in-Ints-clause-bound c =
    let same : entries_in c.values.result.now ≡ length c.in-Ints.numbers.items = ap entries_in c.in-Ints.is in
    let most = values_most c.args.column.now c.values.result.now c.values.ensures.count in
    few_more (c.args.given + length c.deref.result.now) (c.args.given + length c.args.column.now) c.with_numbers_kept.result.sum
    c.with_numbers_kept.ensures.bound (omega (arith, most, same, ap (λ (l : List ℤ). length l) c.deref.ensures.value))

use Rattle.std.proofs.Common.{ℤ, refl, ap, ◌∙◌}
use Rattle.std.specs.Ordering.{int_cmp}
use Rattle.orc_values.specs.declared.value.Value.TheVariants as value
use Rattle.fragment_plan.specs.declared.test.Check.TheVariants as check
use Rattle.batch_masks.specs.Kept.{both}
use Rattle.batch_masks.specs.Checks.{satisfies, check_holds}
use Rattle.batch_masks.proofs.Masks.{checked, none_holds}
use Rattle.batch_masks.proofs.narrow.compare_ints.Goals as goal

pub returns-in-Int : goal.returns-in-Int
returns-in-Int c =
    let narrowed = c.narrow_ints.ensures in
    rw c.in-Int.is (narrowed ∙ ap (both c.args.mask.now)
    (checked (check_holds (check.Compare c.args.op (value.Int c.in-Int.number))) (λ (n : ℤ). value.Int n) (λ (n : ℤ). satisfies c.args.op (int_cmp n c.in-Int.number)) (λ x. refl) c.args.values.now))

pub returns-in-Null : goal.returns-in-Null
returns-in-Null c =
    rw c.in-Null.is (c.narrow_none.ensures ∙ none_holds (check_holds (check.Compare c.args.op value.Null)) (λ (n : ℤ). value.Int n) (λ x. refl) c.args.mask.now c.args.values.now c.requires)

pub returns-in-Bool : goal.returns-in-Bool
returns-in-Bool c =
    rw c.in-Bool.is (c.narrow_none-in-Bool.ensures ∙ none_holds (check_holds (check.Compare c.args.op (value.Bool c.in-Bool.field-0))) (λ (n : ℤ). value.Int n) (λ x. refl) c.args.mask.now c.args.values.now c.requires)

pub returns-in-Text : goal.returns-in-Text
returns-in-Text c =
    rw c.in-Text.is (c.narrow_none-in-Text.ensures ∙ none_holds (check_holds (check.Compare c.args.op (value.Text c.in-Text.field-0))) (λ (n : ℤ). value.Int n) (λ x. refl) c.args.mask.now c.args.values.now c.requires)

use Rattle.std.proofs.Common.{ℕ, List, refl, ap, ◌∙◌}
use Rattle.std.specs.Ordering.{nat_cmp}
use Rattle.std.specs.Cmp.Lexicographic.{slice_cmp}
use Rattle.orc_values.specs.declared.value.Value.TheVariants as value
use Rattle.fragment_plan.specs.declared.test.Check.TheVariants as check
use Rattle.batch_masks.specs.Kept.{both}
use Rattle.batch_masks.specs.Checks.{satisfies, check_holds}
use Rattle.batch_masks.proofs.Masks.{checked, none_holds}
use Rattle.batch_masks.proofs.narrow.compare_texts.Goals as goal

pub returns-in-Text : goal.returns-in-Text
returns-in-Text c =
    let narrowed = rw c.as_slice.ensures at c.narrow_texts.ensures in
    rw c.in-Text.is (narrowed ∙ ap (both c.args.mask.now)
    (checked (check_holds (check.Compare c.args.op (value.Text c.in-Text.text))) (λ (t : List ℕ). value.Text t) (λ (t : List ℕ). satisfies c.args.op (slice_cmp nat_cmp t c.in-Text.text)) (λ x. refl) c.args.values.now))

pub returns-in-Null : goal.returns-in-Null
returns-in-Null c =
    rw c.in-Null.is (c.narrow_none.ensures ∙ none_holds (check_holds (check.Compare c.args.op value.Null)) (λ (t : List ℕ). value.Text t) (λ x. refl) c.args.mask.now c.args.values.now c.requires)

pub returns-in-Bool : goal.returns-in-Bool
returns-in-Bool c =
    rw c.in-Bool.is (c.narrow_none-in-Bool.ensures ∙ none_holds (check_holds (check.Compare c.args.op (value.Bool c.in-Bool.field-0))) (λ (t : List ℕ). value.Text t) (λ x. refl) c.args.mask.now c.args.values.now c.requires)

pub returns-in-Int : goal.returns-in-Int
returns-in-Int c =
    rw c.in-Int.is (c.narrow_none-in-Int.ensures ∙ none_holds (check_holds (check.Compare c.args.op (value.Int c.in-Int.field-0))) (λ (t : List ℕ). value.Text t) (λ x. refl) c.args.mask.now c.args.values.now c.requires)

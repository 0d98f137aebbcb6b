use Rattle.std.proofs.Common.{ap, ◌∙◌}
use Rattle.batch_masks.specs.Kept.{both}
use Rattle.batch_masks.proofs.Masks.{answers-as, answers-turned, answers-all, answers-none}
use Rattle.batch_masks.proofs.narrow.narrow_truths.Goals as goal

pub returns-in-false-true : goal.returns-in-false-true
returns-in-false-true c =
    let arm = c.in-false-true in
    c.narrow_set.ensures ∙ ap (both c.args.mask.now) (answers-as c.args.of_false c.args.of_true arm.is-0 arm.is-1 c.args.values.now)

pub returns-in-true-false : goal.returns-in-true-false
returns-in-true-false c =
    let arm = c.in-true-false in
    c.narrow_unset.ensures ∙ ap (both c.args.mask.now) (answers-turned c.args.of_false c.args.of_true arm.is-0 arm.is-1 c.args.values.now)

pub returns-in-false-false : goal.returns-in-false-false
returns-in-false-false c =
    let arm = c.in-false-false in
    c.narrow_none.ensures ∙ answers-none c.args.of_false c.args.of_true arm.is-0 arm.is-1 c.args.mask.now c.args.values.now c.requires

pub returns-in-true-true : goal.returns-in-true-true
returns-in-true-true c =
    let arm = c.in-true-true in
    answers-all c.args.of_false c.args.of_true arm.is-0 arm.is-1 c.args.mask.now c.args.values.now c.requires

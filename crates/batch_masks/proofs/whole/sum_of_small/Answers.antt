use Rattle.std.proofs.Common.{rules, arith, ℕ, ◌+◌, ◌*◌, ◌^◌, ◌%◌, ◌<◌, ◌≡◌, ◌∙◌, ℤ, ◌+ℤ◌, List, length, pos, get_or, take, refl, ap, sym, w64, FitsSigned}
use Rattle.std.proofs.lemmas.Int.{to_z-of_z}
use Rattle.std.proofs.lemmas.List.{take_all}
use Rattle.batch_masks.specs.Totals.{plus_all}
use Rattle.batch_masks.proofs.Dense.{above_more, plus_more, without_is}
use Rattle.batch_masks.proofs.whole.sum_of_small.Goals as goal

pub loop-number-preserved : goal.loop-number-preserved
loop-number-preserved c =
    let l = c.loop-number in
    let i = l.number-index in
    let numbers = c.args.numbers.now in
    let h : i < length numbers = search rules in
    let fits : FitsSigned w64 (get_or numbers i (pos 0)) = search rules in
    let above = (c.cast_unsigned-above.result + 2 ^ 52) % 2 ^ 64 in
    let before = plus_all (pos 0) (take i numbers) in
    let more = plus_more (pos 0) before numbers i h refl in
    let step = above_more (get_or numbers i (pos 0)) before l.seen above l.sum i fits (search rules)
    (omega (arith, h, c.requires.short)) l.invariant.sum l.invariant.below in
    record {
      sum = λ small. (step small).0 ∙ ap (λ (s : ℤ). s +ℤ pos (2 ^ 52 * (i + 1))) (sym more);
      below = λ small. (step small).1;
    }

pub returns-clause-sum : goal.returns-clause-sum
returns-clause-sum c =
    let l = c.loop-number in
    let numbers = c.args.numbers.now in
    let all : l.number-index ≡ length numbers = omega (arith, c.loop-number-test.false, l.auto.number-index-end) in
    let sum = l.invariant.sum c.if-seen.false
    ∙ ap (λ (n : ℕ). plus_all (pos 0) (take n numbers) +ℤ pos (2 ^ 52 * n)) all
    ∙ ap (λ (xs : List ℤ). plus_all (pos 0) xs +ℤ pos (2 ^ 52 * length numbers)) (take_all (length numbers) numbers (omega arith)) in
    to_z-of_z w64 c.without_far.result c.without_far.ensures.fits
    ∙ without_is c.without_far.result (plus_all (pos 0) numbers) (pos l.sum) (2 ^ 52 * length numbers) c.without_far.ensures.value sum

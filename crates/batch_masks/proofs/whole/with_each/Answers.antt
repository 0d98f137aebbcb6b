use Rattle.std.proofs.Common.{◌∙◌, ◌||◌, not, ℤ, Bool, ap, arith, to_z, of_z}
use Rattle.std.specs.Int.{w128}
use Rattle.std.proofs.lemmas.Int.{to_z-of_z}
use Rattle.batch_masks.specs.Totals.{plus_all, has_some}
use Rattle.batch_masks.proofs.Numbers.{SumOfFew-fits}
use Rattle.batch_masks.proofs.Dense.{some_is}
use Rattle.batch_masks.proofs.whole.with_each.Goals as goal

pub returns-clause-total : goal.returns-clause-total
returns-clause-total c =
    let numbers = c.args.numbers.now in
    let own = SumOfFew-fits c.args.given c.args.total.sum c.requires.bound (omega (arith, c.requires.few)) in
    let sum = to_z-of_z w128 c.sum_all.result c.sum_all.ensures.fits ∙ c.sum_all.ensures.sum
    ∙ ap (λ (s : ℤ). plus_all s numbers) (to_z-of_z w128 c.args.total.sum own) in
    let some = ap not c.is_empty.ensures ∙ some_is numbers in
    ap (λ (b : Bool). record { some = b; sum = to_z w128 (of_z w128 c.sum_all.result) }) (ap (λ (b : Bool). c.args.total.some || b) some)
    ∙ ap (λ (s : ℤ). record { some = c.args.total.some || has_some numbers; sum = s }) sum

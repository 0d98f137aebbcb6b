use Rattle.std.proofs.Common.{◌≡◌, length, ap, ◌∙◌, arith, List, Bool, ℤ, ◌||◌, ◌+◌, sym, to_z, of_z}
use Rattle.std.proofs.lemmas.Int.{to_z-of_z}
use Rattle.std.specs.Int.{w128}
use Rattle.orc_values.specs.WovenLaws.{present_count-le}
use Rattle.batch_masks.specs.Kept.{kept}
use Rattle.batch_masks.specs.Totals.{plus_all, has_some}
use Rattle.batch_masks.proofs.Numbers.{has_some-kept, SumOfFew-fits}
use Rattle.batch_masks.proofs.total.with_numbers_kept.Goals as goal

pub split_at-requires : goal.split_at-requires
split_at-requires c = omega (arith, c.requires.rows, c.requires.count, present_count-le c.args.present.now, c.gather.auto.mask)

pub returns-clause-total : goal.returns-clause-total
returns-clause-total c =
    let numbers = c.args.numbers.now in
    let front = c.split_at.result.0.now in
    let flags = kept c.args.present.now c.args.mask.now in
    let is : front ≡ flags = c.split_at.ensures.front ∙ c.gather.ensures in
    let len : length front ≡ length numbers = c.split_at.ensures.front_len in
    let own = SumOfFew-fits c.args.given c.args.total.sum c.requires.bound (omega (arith, c.requires.few)) in
    let more = SumOfFew-fits (c.args.given + length numbers) c.sum_kept.result c.sum_kept.ensures.bound (omega (arith, c.requires.few)) in
    let sum = to_z-of_z w128 c.sum_kept.result more ∙ c.sum_kept.ensures.sum ∙ ap (λ (s : ℤ). plus_all s (kept front numbers)) (to_z-of_z w128 c.args.total.sum own)
    ∙ ap (λ (l : List Bool). plus_all c.args.total.sum (kept l numbers)) is in
    let some = c.any_set.ensures ∙ has_some-kept front numbers len ∙ ap (λ (l : List Bool). has_some (kept l numbers)) is in
    ap (λ (b : Bool). record { some = b; sum = to_z w128 (of_z w128 c.sum_kept.result) }) (ap (λ (b : Bool). c.args.total.some || b) some)
    ∙ ap (λ (s : ℤ). record { some = c.args.total.some || has_some (kept flags numbers); sum = s }) sum

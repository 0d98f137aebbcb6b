use Rattle.std.proofs.Common.{Bool, true, false, if◌then◌else◌, ◌≡◌, ap, ◌∙◌}
use Rattle.std.specs.Ordering.{bool_cmp}
use Rattle.batch_masks.specs.Kept.{both}
use Rattle.batch_masks.specs.Checks.{satisfies}
use Rattle.batch_masks.proofs.Masks.{map-same}
use Rattle.batch_masks.proofs.narrow.narrow_bools.Goals as goal

by_truth : (f : Bool → Bool) (of_false of_true : Bool) → of_false ≡ f false → of_true ≡ f true → (b : Bool) → (if b then of_true else of_false) ≡ f b
by_truth f of_false of_true n y true = y
by_truth f of_false of_true n y false = n

pub returns : goal.returns
returns c =
    let meets = λ (b : Bool). satisfies c.args.op (bool_cmp b c.args.literal) in
    let when_false = c.is_so-of_false.ensures ∙ ap (satisfies c.args.op) c.cmp.ensures in
    let when_true = c.is_so-of_true.ensures ∙ ap (satisfies c.args.op) c.cmp-2.ensures in
    c.narrow_truths.ensures ∙ ap (both c.args.mask.now) (map-same (λ (b : Bool). if b then c.is_so-of_true.result else c.is_so-of_false.result) meets (by_truth meets c.is_so-of_false.result c.is_so-of_true.result when_false when_true) c.args.values.now)

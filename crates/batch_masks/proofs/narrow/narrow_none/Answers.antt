use Rattle.std.proofs.Common.{arith, replicate, length, false, ◌∙◌, sym}
use Rattle.std.proofs.lemmas.List.{ext_get_or, length-replicate, get_or-replicate}
use Rattle.batch_masks.proofs.narrow.narrow_none.Goals as goal

pub returns : goal.returns
returns c =
    let n = length c.args.mask.now in
    ext_get_or false c.loop-row.mask (replicate n false) (c.loop-row.auto.mask ∙ sym (length-replicate n false))
    (λ k lt. c.loop-row.invariant k (omega (arith, lt, c.loop-row.auto.mask, c.loop-row-test.false)) ∙ sym (get_or-replicate n k false false (omega (arith, lt, c.loop-row.auto.mask))))

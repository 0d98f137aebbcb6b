use Rattle.std.proofs.Common.{◌∙◌, ◌&&◌, List, Bool, length, false, get_or, ap, arith}
use Rattle.std.proofs.lemmas.List.{take_all}
use Rattle.batch_masks.proofs.Masks.{narrowed, narrow_done, narrow_rest}
use Rattle.batch_masks.proofs.narrow.narrow_set.Goals as goal

pub loop-row-preserved : goal.loop-row-preserved
loop-row-preserved c =
    let now = c.loop-row.mask in
    let flags = c.args.flags.now in
    let i = c.loop-row.row in
    let cut = c.split_at.ensures.front ∙ take_all (length c.args.mask.now) flags (omega (arith, c.requires)) in
    record {
      done = narrow_done now c.args.mask.now flags i _ (omega (arith, c.loop-row.auto.mask, c.requires, c.loop-row-test.true)) c.loop-row.invariant.done c.loop-row.invariant.rest
          (ap (λ (l : List Bool). get_or now i false && get_or l i false) cut);
      rest = narrow_rest now c.args.mask.now flags i _ c.loop-row.invariant.rest;
    }

pub returns : goal.returns
returns c =
    narrowed c.loop-row.mask c.args.mask.now c.args.flags.now c.requires c.loop-row.auto.mask
    (λ k lt. c.loop-row.invariant.done k (omega (arith, lt, c.requires, c.loop-row.auto.mask, c.loop-row-test.false)))

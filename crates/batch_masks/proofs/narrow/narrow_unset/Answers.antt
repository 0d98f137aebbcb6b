use Rattle.std.proofs.Common.{◌∙◌, ◌&&◌, List, Bool, length, map, not, false, get_or, sym, ap, arith}
use Rattle.std.proofs.lemmas.List.{take_all, get_or-map, length-map}
use Rattle.batch_masks.proofs.Masks.{narrowed, narrow_done, narrow_rest}
use Rattle.batch_masks.proofs.narrow.narrow_unset.Goals as goal

pub loop-row-preserved : goal.loop-row-preserved
loop-row-preserved c =
    let now = c.loop-row.mask in
    let flags = c.args.flags.now in
    let i = c.loop-row.row in
    let lt = c.loop-row-test.true in
    let cut = c.split_at.ensures.front ∙ take_all (length c.args.mask.now) flags (omega (arith, c.requires)) in
    record {
      done = narrow_done now c.args.mask.now (map not flags) i _ (omega (arith, c.loop-row.auto.mask, c.requires, lt)) c.loop-row.invariant.done c.loop-row.invariant.rest
          (ap (λ (l : List Bool). get_or now i false && not (get_or l i false)) cut
          ∙ ap (λ (b : Bool). get_or now i false && b) (sym (get_or-map not flags i false false (omega (arith, c.loop-row.auto.mask, c.requires, lt)))));
      rest = narrow_rest now c.args.mask.now (map not flags) i _ c.loop-row.invariant.rest;
    }

pub returns : goal.returns
returns c =
    narrowed c.loop-row.mask c.args.mask.now (map not c.args.flags.now) (c.requires ∙ sym (length-map c.args.flags.now not)) c.loop-row.auto.mask
    (λ k lt. c.loop-row.invariant.done k (omega (arith, lt, c.requires, c.loop-row.auto.mask, c.loop-row-test.false)))

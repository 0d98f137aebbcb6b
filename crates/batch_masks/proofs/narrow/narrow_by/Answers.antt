use Rattle.std.proofs.Common.{arith, pos, false, map, length, List, ℤ, ap, ◌∙◌, sym, ◌&&◌, get_or, to_z, of_z}
use Rattle.std.specs.Int.{w64}
use Rattle.std.proofs.lemmas.Int.{to_z-of_z}
use Rattle.std.proofs.lemmas.List.{take_all, get_or-map, length-map}
use Rattle.batch_masks.proofs.Masks.{narrowed, narrow_done, narrow_rest}
use Rattle.batch_masks.proofs.narrow.narrow_by.Goals as goal

pub loop-place-preserved : goal.loop-place-preserved
loop-place-preserved g c =
    let cut = c.split_at.ensures.front ∙ take_all (length c.args.mask.now) c.args.values.now (omega (arith, c.requires)) in
    let number = to_z-of_z w64 c.number_at.result c.number_at.ensures.fits ∙ c.number_at.ensures.value ∙ ap (λ (l : List ℤ). get_or l c.loop-place.place (pos 0)) cut in
    let compares = λ (n : ℤ). g.C.Compare.compares n (to_z w64 (of_z w64 c.args.literal)) in
    let now = c.loop-place.mask in
    let i = c.loop-place.place in
    let values = c.args.values.now in
    let others = map compares values in
    record {
      done = narrow_done now c.args.mask.now others i _ (omega (arith, c.loop-place.auto.mask, c.requires, c.loop-place-test.true)) c.loop-place.invariant.done c.loop-place.invariant.rest
          (ap (λ b. get_or now i false && b) (c.compares.ensures ∙ ap compares number ∙ sym (get_or-map compares values i (pos 0) false (omega (arith, c.requires, c.loop-place.auto.mask, c.loop-place-test.true)))));
      rest = narrow_rest now c.args.mask.now others i _ c.loop-place.invariant.rest;
    }

pub returns : goal.returns
returns g c =
    let literal = to_z-of_z w64 c.args.literal c.ranges.literal in
    let done = rw literal at c.loop-place.invariant.done in
    let compares = λ (n : ℤ). g.C.Compare.compares n c.args.literal in
    let others = map compares c.args.values.now in
    narrowed c.loop-place.mask c.args.mask.now others (c.requires ∙ sym (length-map c.args.values.now compares)) c.loop-place.auto.mask
    (λ k lt. done k (omega (arith, lt, c.loop-place.auto.mask, c.loop-place-test.false)))

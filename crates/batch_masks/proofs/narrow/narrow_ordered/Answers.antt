use Rattle.std.proofs.Common.{arith, false, map, ℕ, List, [], ap, ◌∙◌, sym, ◌&&◌, get_or}
use Rattle.std.specs.Ordering.{nat_cmp}
use Rattle.std.specs.Cmp.Lexicographic.{slice_cmp}
use Rattle.std.proofs.lemmas.List.{get_or-map, length-map}
use Rattle.batch_masks.specs.Checks.{satisfies}
use Rattle.batch_masks.proofs.Masks.{narrowed, narrow_done, narrow_rest, slice_get-get_or}
use Rattle.batch_masks.proofs.narrow.narrow_ordered.Goals as goal

pub loop-place-preserved : goal.loop-place-preserved
loop-place-preserved c =
    let meets = λ (t : List ℕ). satisfies c.args.op (slice_cmp nat_cmp t c.args.literal.now) in
    let now = c.loop-place.mask in
    let i = c.loop-place.place in
    let values = c.args.values.now in
    let others = map meets values in
    let none : List ℕ = [] in
    let text = slice_get-get_or values i c.get.result.now none c.get.ensures in
    let holds = c.is_so.ensures ∙ ap (satisfies c.args.op) c.cmp.ensures ∙ ap meets text in
    record {
      done = narrow_done now c.args.mask.now others i _ (omega (arith, c.loop-place.auto.mask, c.requires, c.len-place-end.ensures, c.loop-place-test.true)) c.loop-place.invariant.done c.loop-place.invariant.rest
          (ap (λ b. get_or now i false && b) (holds ∙ sym (get_or-map meets values i none false (omega (arith, c.len-place-end.ensures, c.loop-place-test.true)))));
      rest = narrow_rest now c.args.mask.now others i _ c.loop-place.invariant.rest;
    }

pub returns : goal.returns
returns c =
    let meets = λ (t : List ℕ). satisfies c.args.op (slice_cmp nat_cmp t c.args.literal.now) in
    let others = map meets c.args.values.now in
    narrowed c.loop-place.mask c.args.mask.now others (c.requires ∙ sym (length-map c.args.values.now meets)) c.loop-place.auto.mask
    (λ k lt. c.loop-place.invariant.done k (omega (arith, lt, c.requires, c.len-place-end.ensures, c.loop-place-test.false)))

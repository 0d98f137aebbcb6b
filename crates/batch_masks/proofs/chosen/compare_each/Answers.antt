use Rattle.std.proofs.Common.{◌<◌, ◌∙◌, ◌&&◌, ℕ, List, [], length, map, false, get_or, sym, ap, arith}
use Rattle.std.proofs.lemmas.List.{get_or-map, length-map}
use Rattle.orc_values.specs.declared.value.Value.TheVariants as value
use Rattle.fragment_plan.specs.declared.test.Check.TheVariants as check
use Rattle.batch_masks.specs.Checks.{check_holds}
use Rattle.batch_masks.proofs.Masks.{narrowed, narrow_done, narrow_rest, slice_get-get_or}
use Rattle.batch_masks.proofs.chosen.compare_each.Goals as goal

pub loop-place-preserved : goal.loop-place-preserved
loop-place-preserved c =
    let asked = check_holds (check.Compare c.args.op c.args.literal.now) in
    let now = c.loop-place.mask in
    let i = c.loop-place.place in
    let values = c.args.values.now in
    let texts = map (λ (t : List ℕ). value.Text t) values in
    let none : List ℕ = [] in
    let lt : i < length values = omega (arith, c.len-place-end.ensures, c.loop-place-test.true) in
    let text = slice_get-get_or values i c.get.result.now none c.get.ensures in
    let there : i < length texts = omega (arith, lt, length-map values (λ (t : List ℕ). value.Text t)) in
    let holds = c.holds.ensures ∙ ap (λ (t : List ℕ). asked (value.Text t)) text
    ∙ sym (get_or-map asked texts i value.Null false there ∙ ap asked (get_or-map (λ (t : List ℕ). value.Text t) values i none value.Null lt)) in
    record {
      done = narrow_done now c.args.mask.now (map asked texts) i _ (omega (arith, c.loop-place.auto.mask, c.requires, lt)) c.loop-place.invariant.done c.loop-place.invariant.rest
          (ap (λ b. get_or now i false && b) holds);
      rest = narrow_rest now c.args.mask.now (map asked texts) i _ c.loop-place.invariant.rest;
    }

pub returns : goal.returns
returns c =
    let asked = check_holds (check.Compare c.args.op c.args.literal.now) in
    let values = c.args.values.now in
    let texts = map (λ (t : List ℕ). value.Text t) values in
    narrowed c.loop-place.mask c.args.mask.now (map asked texts)
    (c.requires ∙ sym (length-map values (λ (t : List ℕ). value.Text t)) ∙ sym (length-map texts asked)) c.loop-place.auto.mask
    (λ k lt. c.loop-place.invariant.done k (omega (arith, lt, c.requires, c.len-place-end.ensures, c.loop-place-test.false)))

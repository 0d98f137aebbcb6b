use Rattle.std.proofs.Common.{◌≡◌, ◌∙◌, ◌&&◌, ◌+◌, ◌<◌, ◌≤◌, ℕ, suc, List, [], Bool, length, map, false, get_or, slice_get, slice_range, Some, if◌then◌else◌, sym, ap, arith}
use Rattle.std.specs.Ordering.{nat_cmp, is_eq}
use Rattle.std.specs.Cmp.Lexicographic.{slice_cmp}
use Rattle.std.proofs.lemmas.List.{take_all, get_or-map, length-map}
use Rattle.orc_values.specs.Texts.{texts_from, AreEnds, start_of}
use Rattle.orc_values.specs.TextsLaws.{length-texts_from, start_of-suc, text_at, text_within}
use Rattle.batch_masks.proofs.Masks.{narrowed, narrow_done, narrow_stays, narrow_rest, slice_get-get_or, and-false}
use Rattle.batch_masks.proofs.narrow.narrow_same.Goals as goal

-- as many ends as texts
many : (values : List (List ℕ)) (ends bytes : List ℕ) → texts_from 0 ends bytes ≡ values → length ends ≡ length values
many values ends bytes texts = sym (length-texts_from 0 ends bytes) ∙ ap (λ (l : List (List ℕ)). length l) texts

module _ (values : List (List ℕ)) (ends bytes cut : List ℕ) (i start : ℕ) (texts : texts_from 0 ends bytes ≡ values) (is : cut ≡ ends)
    (lt : i < length values) (begins : start ≡ start_of 0 cut i) where
  h : i < length ends
  h = omega (arith, lt, many values ends bytes texts)

  end_is : get_or cut i 0 ≡ get_or ends i 0
  end_is = ap (λ (l : List ℕ). get_or l i 0) is

  start_is : start ≡ start_of 0 ends i
  start_is = begins ∙ ap (λ (l : List ℕ). start_of 0 l i) is

  -- where a text stands
  stands : AreEnds 0 ends (length bytes) → (start ≤ get_or cut i 0) × (get_or cut i 0 ≤ length bytes)
  stands are =
      let within = text_within 0 ends (length bytes) i 0 are h in
      (omega (arith, within.0, end_is, start_is), omega (arith, within.1, end_is))

  -- and what it is
  text_is : slice_range bytes start (get_or cut i 0) ≡ get_or values i []
  text_is =
      let none : List ℕ = [] in
      let text : slice_get values i ≡ Some (slice_range bytes (start_of 0 ends i) (get_or ends i 0)) =
      ap (λ (l : List (List ℕ)). slice_get l i) (sym texts) ∙ text_at 0 ends bytes i 0 h in
      ap (λ (n : ℕ). slice_range bytes n (get_or cut i 0)) start_is
      ∙ ap (λ (n : ℕ). slice_range bytes (start_of 0 ends i) n) end_is
      ∙ slice_get-get_or values i (slice_range bytes (start_of 0 ends i) (get_or ends i 0)) none text

  -- and where the next one begins
  next : get_or cut i 0 ≡ start_of 0 cut (i + 1)
  next =
      let e : suc i ≡ i + 1 = omega arith in
      let len : i < length cut = omega (arith, h, ap (λ (l : List ℕ). length l) is) in
      sym (start_of-suc 0 cut i 0 len) ∙ ap (start_of 0 cut) e

pub split_at-requires : goal.split_at-requires
split_at-requires c = omega (arith, c.requires, many c.args.values.now c.parts.result.1.now c.parts.result.0.now c.parts.ensures.texts)

pub is_between-requires-clause-order : goal.is_between-requires-clause-order
is_between-requires-clause-order c =
    let ends = c.parts.result.1.now in
    let bytes = c.parts.result.0.now in
    let values = c.args.values.now in
    let is = c.split_at.ensures.front ∙ take_all (length c.args.mask.now) ends (omega (arith, c.requires, many values ends bytes c.parts.ensures.texts)) in
    (stands values ends bytes c.split_at.result.0.now c.loop-place.place c.loop-place.start c.parts.ensures.texts is
    (omega (arith, c.requires, c.loop-place.auto.mask, c.loop-place-test.true)) c.loop-place.invariant.begins c.parts.ensures.ends).0

pub is_between-requires-clause-within : goal.is_between-requires-clause-within
is_between-requires-clause-within c =
    let ends = c.parts.result.1.now in
    let bytes = c.parts.result.0.now in
    let values = c.args.values.now in
    let is = c.split_at.ensures.front ∙ take_all (length c.args.mask.now) ends (omega (arith, c.requires, many values ends bytes c.parts.ensures.texts)) in
    (stands values ends bytes c.split_at.result.0.now c.loop-place.place c.loop-place.start c.parts.ensures.texts is
    (omega (arith, c.requires, c.loop-place.auto.mask, c.loop-place-test.true)) c.loop-place.invariant.begins c.parts.ensures.ends).1

pub loop-place-preserved-then-passes : goal.loop-place-preserved-then-passes
loop-place-preserved-then-passes c =
    let ends = c.parts.result.1.now in
    let bytes = c.parts.result.0.now in
    let values = c.args.values.now in
    let cut = c.split_at.result.0.now in
    let i = c.loop-place.place in
    let start = c.loop-place.start in
    let texts = c.parts.ensures.texts in
    let begins = c.loop-place.invariant.begins in
    let is = c.split_at.ensures.front ∙ take_all (length c.args.mask.now) ends (omega (arith, c.requires, many values ends bytes texts)) in
    let lt : i < length values = omega (arith, c.requires, c.loop-place.auto.mask, c.loop-place-test.true) in
    let none : List ℕ = [] in
    let meets = λ (t : List ℕ). if is_eq (slice_cmp nat_cmp t c.args.literal.now) then c.args.of_same else c.args.of_other in
    let now = c.loop-place.mask in
    let others = map meets values in
    let holds = c.answer-passes.ensures ∙ ap (λ (b : Bool). if b then c.args.of_same else c.args.of_other) c.is_between.ensures
    ∙ ap meets (text_is values ends bytes cut i start texts is lt begins) in
    record {
      begins = next values ends bytes cut i start texts is lt begins;
      done = narrow_stays now c.args.mask.now others i c.loop-place.invariant.done c.loop-place.invariant.rest
          (get_or-map meets values i none false lt ∙ sym holds ∙ c.if-passes.true);
      rest = λ k h. c.loop-place.invariant.rest k (omega (arith, h));
    }

pub loop-place-preserved : goal.loop-place-preserved
loop-place-preserved c =
    let ends = c.parts.result.1.now in
    let bytes = c.parts.result.0.now in
    let values = c.args.values.now in
    let cut = c.split_at.result.0.now in
    let i = c.loop-place.place in
    let start = c.loop-place.start in
    let texts = c.parts.ensures.texts in
    let begins = c.loop-place.invariant.begins in
    let is = c.split_at.ensures.front ∙ take_all (length c.args.mask.now) ends (omega (arith, c.requires, many values ends bytes texts)) in
    let lt : i < length values = omega (arith, c.requires, c.loop-place.auto.mask, c.loop-place-test.true) in
    let none : List ℕ = [] in
    let meets = λ (t : List ℕ). if is_eq (slice_cmp nat_cmp t c.args.literal.now) then c.args.of_same else c.args.of_other in
    let now = c.loop-place.mask in
    let others = map meets values in
    let holds = c.answer-passes.ensures ∙ ap (λ (b : Bool). if b then c.args.of_same else c.args.of_other) c.is_between.ensures
    ∙ ap meets (text_is values ends bytes cut i start texts is lt begins) in
    record {
      begins = next values ends bytes cut i start texts is lt begins;
      done = narrow_done now c.args.mask.now others i _ (omega (arith, c.loop-place-test.true)) c.loop-place.invariant.done c.loop-place.invariant.rest
          (and-false (get_or now i false)
          ∙ ap (λ b. get_or now i false && b) (sym c.if-passes.false ∙ holds ∙ sym (get_or-map meets values i none false lt)));
      rest = narrow_rest now c.args.mask.now others i _ c.loop-place.invariant.rest;
    }

pub returns : goal.returns
returns c =
    let meets = λ (t : List ℕ). if is_eq (slice_cmp nat_cmp t c.args.literal.now) then c.args.of_same else c.args.of_other in
    let others = map meets c.args.values.now in
    narrowed c.loop-place.mask c.args.mask.now others (c.requires ∙ sym (length-map c.args.values.now meets)) c.loop-place.auto.mask
    (λ k lt. c.loop-place.invariant.done k (omega (arith, lt, c.loop-place.auto.mask, c.loop-place-test.false)))

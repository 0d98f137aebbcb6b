use Rattle.std.proofs.Common.{◌≡◌, ◌∙◌, ◌&&◌, ◌<◌, ◌%◌, ℕ, ℤ, List, length, pos, map, false, get_or, sym, ap, arith}
use Rattle.std.specs.Int.{w64, cast_unsigned}
use Rattle.std.proofs.lemmas.List.{take_all, get_or-map, length-map}
use Rattle.orc_values.specs.Chosen.{places_of}
use Rattle.batch_masks.proofs.Masks.{narrowed, narrow_done, narrow_rest}
use Rattle.batch_masks.proofs.chosen.narrow_chosen.Goals as goal

pub loop-row-preserved : goal.loop-row-preserved
loop-row-preserved c =
    let now = c.loop-row.mask in
    let flags = c.args.flags.now in
    let numbers = c.args.numbers.now in
    let places = places_of numbers in
    let asked = λ (place : ℕ). get_or flags place false in
    let i = c.loop-row.row in
    let within : i < length c.args.mask.now = omega (arith, c.loop-row.auto.mask, c.loop-row-test.true) in
    let h : i < length numbers = omega (arith, within, c.requires.rows) in
    let there : i < length places = omega (arith, h, length-map numbers (cast_unsigned w64)) in
    let cut = c.split_at.ensures.front ∙ take_all (length c.args.mask.now) numbers (omega (arith, c.requires.rows)) in
    let place : get_or places i 0 ≡ cast_unsigned w64 (get_or numbers i (pos 0)) = get_or-map (cast_unsigned w64) numbers i (pos 0) 0 h in
    let entry : c.entry_at.result ≡ get_or places i 0 = c.entry_at.ensures ∙ ap (λ (l : List ℤ). cast_unsigned w64 (get_or l i (pos 0))) cut ∙ sym place in
    let below : get_or places i 0 < 1024 = c.requires.within i 0 there in
    let itself : c.entry_at.result % 1024 ≡ get_or places i 0 = omega (arith, entry, below) in
    record {
      done = narrow_done now c.args.mask.now (map asked places) i _ (omega (arith, c.loop-row.auto.mask, within)) c.loop-row.invariant.done c.loop-row.invariant.rest
          (ap (λ b. get_or now i false && b) (ap asked itself ∙ sym (get_or-map asked places i 0 false there)));
      rest = narrow_rest now c.args.mask.now (map asked places) i _ c.loop-row.invariant.rest;
    }

pub returns : goal.returns
returns c =
    let flags = c.args.flags.now in
    let numbers = c.args.numbers.now in
    let asked = λ (place : ℕ). get_or flags place false in
    narrowed c.loop-row.mask c.args.mask.now (map asked (places_of numbers))
    (c.requires.rows ∙ sym (length-map numbers (cast_unsigned w64)) ∙ sym (length-map (places_of numbers) asked)) c.loop-row.auto.mask
    (λ k lt. c.loop-row.invariant.done k (omega (arith, lt, c.loop-row.auto.mask, c.loop-row-test.false)))

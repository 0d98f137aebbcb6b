use Rattle.std.proofs.Common.{rules, arith, ◌^◌, ◌<◌, length, pos, bit_or, of_z, w64}
use Rattle.std.specs.Prelude.{slice_index_or}
use Rattle.std.specs.Int.{cast_unsigned}
use Rattle.std.proofs.lemmas.List.{get_or-map, length-map}
use Rattle.std.proofs.lemmas.Nat.{le_or_l, le_or_r}
use Rattle.row_texts.proofs.Below.{below_more}
use Rattle.row_texts.proofs.lookup.are_below.Goals as goal

pub loop-place-preserved : goal.loop-place-preserved
loop-place-preserved c =
    let l = c.loop-place in
    below_more (λ k. of_z w64 (slice_index_or c.args.places.now k (pos 0))) l.place-index l.seen l.moved c.cast_unsigned-number.result c.in-Some.lack c.args.size
    l.invariant (search rules) (search rules)

pub returns : goal.returns
returns c = λ below k d h.
    let places = c.args.places.now in
    let within : k < length places = omega (arith, h, length-map places (cast_unsigned w64)) in
    let l = c.loop-place in
    let both : bit_or l.seen l.moved < 2 ^ 63 = grind (arith, below) in
    let low : l.seen < 2 ^ 63 = omega (arith, both, le_or_l l.seen l.moved) in
    let moved : l.moved < 2 ^ 63 = omega (arith, both, le_or_r l.seen l.moved) in
    rw (get_or-map (cast_unsigned w64) places k (pos 0) d within) (l.invariant low moved k (omega (arith, within, c.loop-place-test.false)))

use Rattle.std.proofs.Common.{◌<◌, length, pos, arith}
use Rattle.std.specs.Int.{w64, cast_unsigned}
use Rattle.std.proofs.lemmas.List.{get_or-map, length-map}
use Rattle.row_texts.proofs.lookup.is_any_past.Goals as goal

pub returns-clause-none : goal.returns-clause-none
returns-clause-none c = λ none k d h.
    let places = c.args.places.now in
    let within : k < length places = omega (arith, length-map places (cast_unsigned w64)) in
    rw (get_or-map (cast_unsigned w64) places k (pos 0) d within) (c.loop-place.invariant k (omega (arith, within)))

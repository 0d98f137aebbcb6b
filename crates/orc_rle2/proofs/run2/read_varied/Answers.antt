use Rattle.std.proofs.Common.{◌≡◌, ◌-◌, ◌+◌, ◌%◌, ◌^◌, ◌++◌, length, refl, arith}
use Rattle.std.specs.Int.{cast_signed, w64}
use Rattle.std.proofs.lemmas.Int.{wrapping_add-bits}
use Rattle.std.proofs.lemmas.Result.{err_from_is_err_and}
use Rattle.outside.specs.Reading.{value}
use Rattle.outside.specs.ReadingLaws.{Reads-map, Reads-fault}
use Rattle.orc_integers.specs.Integers.{ramp, wrapped_sum}
use Rattle.orc_rle2.specs.Integers.{bits_in}
use Rattle.orc_rle2.specs.IntRun2.{packed, varied}
use Rattle.orc_rle2.proofs.WrappedSums.{varied-parts}
use Rattle.orc_rle2.proofs.run2.read_varied.Goals as goal

pub returns-in_err-take_packed : goal.returns-in_err-take_packed
returns-in_err-take_packed g c =
    let f = g.F.Feed in
    let law = g.met.F.Feed in
    let a = c.args in
    let count = length a.into.now in
    let p = err_from_is_err_and c.from_residual.result c.from_residual.ensures.1 in
    let len : length c.split_at_mut-front.result.1.now ≡ count - 2 = omega (arith, c.split_at_mut-front.ensures.back_len, c.min.ensures) in
    let one = rw len at (c.in_err-take_packed.ensures.bits refl) in
    rw (p.1, p.2) (Reads-fault f.rest f.fed f.fault_count a.stream law.fed_nothing law.fed_joined a.feed.now c.take_packed.new.feed (packed a.width (count - 2)) (λ numbers. value (varied (cast_signed w64 a.base) (cast_signed w64 a.delta) count numbers)) c.in_err-take_packed.field-0.0 one)

pub returns : goal.returns
returns g c =
    let f = g.F.Feed in
    let law = g.met.F.Feed in
    let a = c.args in
    let count = length a.into.now in
    let base = cast_signed w64 a.base in
    let delta = cast_signed w64 a.delta in
    let len : length c.split_at_mut-front.result.1.now ≡ count - 2 = omega (arith, c.split_at_mut-front.ensures.back_len, c.min.ensures) in
    let one = rw len at (c.in_ok-take_packed.ensures.bits refl) in
    let numbers = bits_in c.take_packed.new.into in
    let front = c.write_ramp.new.into in
    let others = c.add_steps.new.magnitudes in
    let head = length c.split_at_mut-front.result.0.now in
    let second : cast_signed w64 ((a.base + a.delta) % 2 ^ 64) ≡ wrapped_sum base delta = wrapping_add-bits w64 a.base a.delta (omega arith) (omega arith) in
    let rest_len : length others ≡ count - 2 = omega (arith, len, c.add_steps.auto.magnitudes, c.take_packed.auto.into) in
    let sums_are = rw second at c.add_steps.ensures in
    let is : ramp base delta head ++ others ≡ varied base delta count numbers =
    varied-parts a.base delta count head numbers others (omega arith) (λ e. (omega (arith, c.split_at_mut-front.ensures.front_len, c.min.ensures), omega arith)) (λ no. omega (arith, no, c.split_at_mut-front.ensures.front_len, c.min.ensures, c.requires.some)) sums_are in
    rw (c.write_ramp.ensures, is) (Reads-map f.rest f.fed f.fault_count a.stream law.fed_nothing law.fed_joined a.feed.now c.take_packed.new.feed (packed a.width (count - 2)) (varied base delta count) numbers one)

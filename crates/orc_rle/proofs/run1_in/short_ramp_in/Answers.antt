use Rattle.std.proofs.Common.{◌≡◌, ◌∷◌, ◌++◌, ◌<◌, ◌+◌, ◌∙◌, ℕ, List, length, get_or, ap, arith, rules, sym}
use Rattle.std.specs.Int.{w8, cast_signed}
use Rattle.std.proofs.lemmas.List.{take_at, take-append-drop}
use Rattle.std.proofs.lemmas.Simd.{pick_l_whole}
use Rattle.orc_integers.specs.Integers.{integer, ramp}
use Rattle.orc_rle.proofs.RunsIn.{short-ramp-read}
use Rattle.orc_rle.proofs.run1_in.short_ramp_in.Goals as goal

pub returns-clause-reads : goal.returns-clause-reads
returns-clause-reads c =
    let a = c.args in
    let head = c.in_ok-head.head.now in
    let left = c.in_ok-head.left.now in
    let control = get_or head 0 0 in
    let delta = get_or head 1 0 in
    let base = get_or head 2 0 in
    let e = c.in_ok-head.ensures.cases in
    let n : length head ≡ 3 = search rules in
    let whole : a.bytes.now ≡ head ++ left = rw (e.0, e.1) (sym (take-append-drop 3 a.bytes.now)) in
    let parts : a.bytes.now ≡ control ∷ delta ∷ base ∷ left = whole ∙ ap (λ (l : List ℕ). l ++ left) (sym (pick_l_whole 0 head 3 n)) in
    let into = c.write_ramp.new.into in
    let front = c.split_at_mut-into.result.0.now in
    let len : length into ≡ c.from-count.result + 3 = omega (arith, c.write_ramp.auto.into, c.split_at_mut-into.ensures.front_len) in
    let count : length front ≡ control + 3 = omega (arith, c.from-count.ensures, c.split_at_mut-into.ensures.front_len) in
    let made : into ≡ ramp (integer a.signed base) (cast_signed w8 delta) (length front) = rw (c.bits_of.ensures, c.from.ensures, c.widened.ensures) at c.write_ramp.ensures in
    let lt : control < 128 = omega (arith, c.if-control-ge128.false) in
    let short : base < 128 = omega (arith, c.if-base-ge128.false) in
    rw (take_at into c.split_at_mut-into.result.1.now (c.from-count.result + 3) len, parts, made, count) (short-ramp-read a.signed control delta base left lt short)

use Rattle.std.proofs.Common.{◌≡◌, ◌<◌, length, arith, rules, w64, to_z, of_z}
use Rattle.std.proofs.lemmas.List.{take_more_set}
use Rattle.orc_integers.specs.Integers.{integer}
use Rattle.orc_integers.proofs.Numbers.{integers-none, integers-one, integers-joined}
use Rattle.orc_integers.proofs.in_place.few_in.Goals as goal

pub loop-value-init : goal.loop-value-init
loop-value-init c = integers-none c.args.signed c.args.bytes.now

pub loop-value-preserved : goal.loop-value-preserved
loop-value-preserved c =
    let a = c.args in
    let l = c.loop-value in
    let number = c.in_ok-number.number in
    let h : l.value-index < length l.into = omega (arith, c.loop-value-test.true, l.auto.into) in
    let is : to_z w64 (of_z w64 c.cast_signed.result) ≡ integer a.signed number = search rules in
    rw (is, take_more_set l.into l.value-index (integer a.signed number) h)
    (integers-joined a.signed l.invariant (integers-one a.signed number c.in_ok-number.ensures (integers-none a.signed c.in_ok-number.behind.now)))

use Rattle.std.proofs.Common.{◌≡◌, ◌+◌, ◌<◌, length, drop, get_or, suc, arith, Ok, Some, None}
use Rattle.std.proofs.Math.Seq.{drop-cons}
use Rattle.std.proofs.lemmas.List.{take_rest}
use Rattle.outside.specs.Lending.{ReadsIn}
use Rattle.outside.specs.Pieces.{Pushed}
use Rattle.outside.specs.Varint.{open_varint}
use Rattle.orc_integers.proofs.Numbers.{open-ends, open-goes, number-found}
use Rattle.orc_integers.proofs.in_place.long_varint_in.Goals as goal

pub returns-in-Ok-Some : goal.returns-in-Ok-Some
returns-in-Ok-Some c =
    let bytes = c.args.bytes.now in
    let l = c.loop-i in
    let n = c.push.new.self in
    let byte = get_or bytes l.i 0 in
    let h : l.i < length bytes = omega (arith, c.loop-i-test.true) in
    let pushed : Pushed l.begun.groups l.begun.count byte n.groups n.count (Ok (Some c.in-Ok-Some.number)) = rw c.in-Ok-Some.field-0-is at c.in-Ok-Some.ensures in
    let at : ReadsIn (open_varint l.begun.groups l.begun.count) (drop l.i bytes) c.in-Ok-Some.number (drop (suc l.i) bytes) =
    rw (drop-cons bytes l.i 0 h) (open-ends l.begun.groups l.begun.count byte (drop (suc l.i) bytes) pushed.0) in
    let e : l.i + 1 ≡ suc l.i = omega arith in
    rw (take_rest, e) (number-found c.in-Ok-Some.number (l.invariant c.in-Ok-Some.number (drop (suc l.i) bytes) at))

pub loop-i-preserved : goal.loop-i-preserved
loop-i-preserved c = λ number left there.
    let bytes = c.args.bytes.now in
    let l = c.loop-i in
    let n = c.push.new.self in
    let byte = get_or bytes l.i 0 in
    let h : l.i < length bytes = omega (arith, c.loop-i-test.true) in
    let pushed : Pushed l.begun.groups l.begun.count byte n.groups n.count (Ok None) = rw c.in-Ok-None.field-0-is at c.in-Ok-None.ensures in
    let e : l.i + 1 ≡ suc l.i = omega arith in
    let at' : ReadsIn (open_varint n.groups n.count) (drop (suc l.i) bytes) number left = rw e at there in
    l.invariant number left (rw (drop-cons bytes l.i 0 h) (open-goes l.begun.groups l.begun.count n.groups n.count byte pushed.0 at'))

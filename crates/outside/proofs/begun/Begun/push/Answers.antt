use Rattle.std.proofs.Common.{arith, refl}
use Rattle.outside.proofs.Varint.{open-last, open-long, open-more}
use Rattle.outside.proofs.begun.Begun.push.Goals as goal

pub returns-then-byte-lt128 : goal.returns-then-byte-lt128
returns-then-byte-lt128 c =
    let s = c.args.self.now in
    (λ more. open-last s.groups s.count c.args.byte c.from.result more s.short c.if-byte-lt128.true c.from.ensures, c.new.ensures.groups, c.new.ensures.count)

pub returns-then-self-eq9 : goal.returns-then-self-eq9
returns-then-self-eq9 c =
    let s = c.args.self.now in
    (refl, λ more. rw c.if-self-eq9.true (open-long s.groups c.args.byte more c.if-byte-lt128.false))

pub returns : goal.returns
returns c =
    let s = c.args.self.now in
    (λ more. open-more s.groups s.count c.args.byte c.from.result more (omega (arith, s.short, c.if-self-eq9.false)) c.if-byte-lt128.false c.from.ensures, refl)

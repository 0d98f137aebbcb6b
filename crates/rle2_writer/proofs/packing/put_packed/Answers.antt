use Rattle.std.proofs.Common.{arith, get_or, refl, ap, ◌+◌, ◌∙◌, subst, ℕ, ◌∷◌, ◌++◌, []}
use Rattle.rle2_writer.proofs.PackedBits.{packed_none, packed_step, packed_all, below_more, Packs-whole, Packs-last}
use Rattle.rle2_writer.proofs.packing.put_packed.Goals as goal
use Rattle.rle2_writer.specs.Packs.{AddsBits}
use Rattle.rle2_writer.proofs.Forms.{OnOk-then}

pub loop-number-init : goal.loop-number-init
loop-number-init c = packed_none c.args.out.now.items c.args.numbers.now c.args.width

pub put_whole-requires-clause-below : goal.put_whole-requires-clause-below
put_whole-requires-clause-below c =
    let l = c.loop-number in
    rw c.join-more.ensures (below_more l.held l.bits c.args.width (get_or c.args.numbers.now l.number-index 0) l.invariant.2.below (c.requires.fits l.number-index))

pub loop-number-preserved : goal.loop-number-preserved
loop-number-preserved c =
    let l = c.loop-number in
    let numbers = c.args.numbers.now in
    let next = subst (λ (n : ℕ). AddsBits l.out.items c.put_whole.new.out.items n (l.bits + c.args.width) c.in_ok-left.left.0 c.in_ok-left.left.1) c.join-more.ensures c.in_ok-left.ensures in
    packed_step c.args.out.now.items l.out.items c.put_whole.new.out.items numbers c.args.width l.number-index l.held l.bits (get_or numbers l.number-index 0) c.in_ok-left.left.0 c.in_ok-left.left.1 (omega (arith, c.loop-number-test.true)) refl (c.requires.fits l.number-index) l.invariant next

pub returns-then-bits-eq0 : goal.returns-then-bits-eq0
returns-then-bits-eq0 c =
    let l = c.loop-number in
    let numbers = c.args.numbers.now in
    let all = packed_all c.args.out.now.items l.out.items numbers c.args.width l.number-index l.held l.bits (omega (arith, c.loop-number-test.false, l.auto.number-index-end)) l.invariant in
    Packs-whole c.args.width c.args.out.now.items l.out.items numbers all.0 l.held l.bits c.if-bits-eq0.true all.1 all.2

pub returns : goal.returns
returns c =
    let l = c.loop-number in
    let numbers = c.args.numbers.now in
    let all = packed_all c.args.out.now.items l.out.items numbers c.args.width l.number-index l.held l.bits (omega (arith, c.loop-number-test.false, l.auto.number-index-end)) l.invariant in
    OnOk-then c.put.result c.put.ensures.ok (λ written. Packs-last c.args.width c.args.out.now.items l.out.items c.put.new.out.items numbers all.0 l.held l.bits (omega (arith, c.if-bits-eq0.false)) all.3 all.1 all.2 (written ∙ ap (λ (n : ℕ). l.out.items ++ n ∷ []) c.pad.ensures))

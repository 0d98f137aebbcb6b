use Rattle.std.proofs.Common.{[], sym, append-nil}
use Rattle.rle2_writer.proofs.PackedBits.{IsSplit-all, whole_byte}
use Rattle.rle2_writer.proofs.packing.put_whole.Goals as goal

pub loop-bits-init : goal.loop-bits-init
loop-bits-init c = ([], sym (append-nil c.args.out.now.items), IsSplit-all c.args.number c.args.total c.requires.below)

pub loop-bits-preserved : goal.loop-bits-preserved
loop-bits-preserved c =
    let l = c.loop-bits in
    whole_byte c.args.out.now.items l.out.items c.put.new.out.items l.invariant.0 l.held l.bits c.args.number c.args.total c.split-top.result.0 c.split-top.result.1 c.loop-bits-test.true l.invariant.1 l.invariant.2 c.in_ok-put.ensures.ok c.split-top.ensures.top c.split-top.ensures.rest

pub returns : goal.returns
returns c = let l = c.loop-bits in (l.invariant.0, l.invariant.1, l.invariant.2, c.loop-bits-test.false)

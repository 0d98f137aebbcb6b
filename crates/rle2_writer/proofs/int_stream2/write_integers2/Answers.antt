use Rattle.std.proofs.Common.{arith}
use Rattle.orc_rle2.specs.IntRun2.{IntRun2}
use Rattle.rle_writer.specs.WrittenLaws.{Written-none, Written-step, Written-all}
use Rattle.rle2_writer.proofs.int_stream2.write_integers2.Goals as goal

pub loop-at-init : goal.loop-at-init
loop-at-init c = record { within = omega arith; written = rw c.new-stream.ensures.items (Written-none (IntRun2 c.args.signed)) }

pub loop-at-preserved : goal.loop-at-preserved
loop-at-preserved c =
    let l = c.loop-at in
    let step = Written-step (IntRun2 c.args.signed) l.stream.items c.put_run.new.out.items c.args.values.now l.at c.in_ok-at.field-0 l.invariant.within l.invariant.written c.in_ok-at.ensures in
    record { within = step.0; written = step.1 }

pub returns : goal.returns
returns c =
    let l = c.loop-at in
    Written-all (IntRun2 c.args.signed) l.stream.items c.args.values.now l.at l.invariant.within c.loop-at-test.false l.invariant.written

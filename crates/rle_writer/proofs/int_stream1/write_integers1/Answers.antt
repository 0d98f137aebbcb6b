use Rattle.std.proofs.Common.{arith}
use Rattle.rle_writer.proofs.int_stream1.write_integers1.Goals as goal
use Rattle.orc_rle.specs.IntRun1.{IntRun1}
use Rattle.rle_writer.specs.WrittenLaws.{Written-none, Written-step, Written-all}

pub loop-at-init : goal.loop-at-init
loop-at-init c = record { within = omega arith; written = rw c.new-stream.ensures.items (Written-none (IntRun1 c.args.signed)) }

pub loop-at-preserved : goal.loop-at-preserved
loop-at-preserved c =
    let l = c.loop-at in
    let step = Written-step (IntRun1 c.args.signed) l.stream.items c.put_run.new.out.items c.args.values.now l.at c.in_ok-at.field-0 l.invariant.within l.invariant.written c.in_ok-at.ensures in
    record { within = step.0; written = step.1 }

pub returns : goal.returns
returns c =
    let l = c.loop-at in
    Written-all (IntRun1 c.args.signed) l.stream.items c.args.values.now l.at l.invariant.within c.loop-at-test.false l.invariant.written

use Rattle.rle2_writer.proofs.int_stream2.put_equal_steps.Goals as goal

pub returns-then-count-le10 : goal.returns-then-count-le10
returns-then-count-le10 c = rw c.if-step-eq0.true c.put_repeat.ensures

use Rattle.std.proofs.Common.{arith}
use Rattle.std.proofs.lemmas.Result.{err_from_is_err_and}
use Rattle.orc_tail.proofs.Steps.{tail_long, tail_empty, tail_stopped, tail_then}
use Rattle.orc_tail.proofs.tail_reading.read_tail.Goals as goal

pub returns-then-file-gt-GREATEST_LEN-clause-followed : goal.returns-then-file-gt-GREATEST_LEN-clause-followed
returns-then-file-gt-GREATEST_LEN-clause-followed g c =
    tail_long g.B.RangeReader.went g.B.RangeReader.fault_count g.W.World.files c.args.file c.args.reader.now (g.met.B.RangeReader.went_nowhere c.args.reader.now) (omega arith)

pub returns-then-file-eq0-clause-followed : goal.returns-then-file-eq0-clause-followed
returns-then-file-eq0-clause-followed g c =
    tail_empty g.B.RangeReader.went g.B.RangeReader.fault_count g.W.World.files c.args.file c.args.reader.now (g.met.B.RangeReader.went_nowhere c.args.reader.now) (omega arith)

pub returns-in_err-span-clause-followed : goal.returns-in_err-span-clause-followed
returns-in_err-span-clause-followed g c =
    let p = err_from_is_err_and c.from_residual.result c.from_residual.ensures.1 in
    rw (p.1, p.2) (tail_stopped g.B.RangeReader.went g.B.RangeReader.fault_count g.W.World.files g.W.World.are_files c.args.file c.args.reader.now c.read_span.new.reader c.in_err-span.field-0.0 (omega arith) (omega arith) c.in_err-span.ensures.followed)

pub returns-clause-followed : goal.returns-clause-followed
returns-clause-followed g c =
    tail_then g.B.RangeReader.went g.B.RangeReader.fault_count g.W.World.files g.W.World.are_files c.args.file c.args.reader.now c.read_span.new.reader c.read_footer.new.reader c.in_ok-span.span c.read_footer.result (omega arith) (omega arith)
    (g.met.B.RangeReader.went_on c.args.reader.now c.read_span.new.reader c.read_footer.new.reader) c.in_ok-span.ensures.followed c.read_footer.ensures.followed

use Rattle.orc_tail.proofs.Steps.{span_then}
use Rattle.orc_tail.proofs.tail_reading.read_span.Goals as goal

pub returns-clause-followed : goal.returns-clause-followed
returns-clause-followed g c =
    span_then g.B.RangeReader.went g.B.RangeReader.fault_count g.W.World.files c.args.file c.args.reader.now c.read_range.new.reader c.in_ok-last.last c.footer_span.result
    (g.met.B.RangeReader.went_on c.args.reader.now c.read_range.new.reader c.read_range.new.reader) (g.met.B.RangeReader.went_nowhere c.read_range.new.reader) (rw c.min-count.ensures at c.in_ok-last.ensures.followed)
    (rw c.as_slice.ensures at c.footer_span.ensures.exact)

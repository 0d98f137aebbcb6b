use Rattle.orc_tail.proofs.Steps.{footer_then}
use Rattle.orc_tail.proofs.tail_reading.read_footer.Goals as goal

pub returns-clause-followed : goal.returns-clause-followed
returns-clause-followed g c =
    footer_then g.B.RangeReader.went g.B.RangeReader.fault_count g.W.World.files c.args.file c.args.span c.args.reader.now c.read_range.new.reader c.in_ok-footer.footer c.tail_of.result
    (g.met.B.RangeReader.went_on c.args.reader.now c.read_range.new.reader c.read_range.new.reader) (g.met.B.RangeReader.went_nowhere c.read_range.new.reader) c.in_ok-footer.ensures.followed (rw c.as_slice.ensures at c.tail_of.ensures.exact)

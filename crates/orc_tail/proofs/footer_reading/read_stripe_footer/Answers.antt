use Rattle.std.proofs.lemmas.Result.{err_from_is_err_and}
use Rattle.orc_tail.proofs.Steps.{stripe_stopped, stripe_then}
use Rattle.orc_tail.proofs.footer_reading.read_stripe_footer.Goals as goal

pub returns-in_err-footer-clause-followed : goal.returns-in_err-footer-clause-followed
returns-in_err-footer-clause-followed g c =
    let p = err_from_is_err_and c.from_residual.result c.from_residual.ensures.1 in
    rw (p.1, p.2) (stripe_stopped g.B.RangeReader.went g.B.RangeReader.fault_count g.W.World.files c.args.file c.args.stripe.now c.args.reader.now c.read_range.new.reader c.in_err-footer.field-0.0 c.in_err-footer.ensures.followed)

pub returns-clause-followed : goal.returns-clause-followed
returns-clause-followed g c =
    stripe_then g.B.RangeReader.went g.B.RangeReader.fault_count g.W.World.files c.args.file c.args.stripe.now c.args.reader.now c.read_range.new.reader c.in_ok-footer.footer c.stripe_footer_of_bytes.result
    (g.met.B.RangeReader.went_on c.args.reader.now c.read_range.new.reader c.read_range.new.reader) (g.met.B.RangeReader.went_nowhere c.read_range.new.reader) c.in_ok-footer.ensures.followed (rw c.as_slice.ensures at c.stripe_footer_of_bytes.ensures.exact)

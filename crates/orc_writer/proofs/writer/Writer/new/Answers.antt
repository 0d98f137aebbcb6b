use Rattle.orc_writer.proofs.Columns.{shapes_made}
use Rattle.orc_writer.proofs.Stepping.{first_is, first_holds}
use Rattle.orc_writer.proofs.writer.Writer.new.Goals as goal

pub invariant_of-result : goal.invariant_of-result
invariant_of-result c =
    first_is c.in_ok-bytes.bytes.items c.new.result.items c.args.columns.items c.in_ok-columns.columns.items c.args.stripe_rows c.in_ok-bytes.ensures c.new.ensures.items c.in_ok-columns.ensures
    c.requires.some c.ranges.stripe_rows.fits

pub returns-clause-columns : goal.returns-clause-columns
returns-clause-columns c = shapes_made c.args.columns.items c.in_ok-columns.columns.items c.in_ok-columns.ensures

pub returns-clause-rows : goal.returns-clause-rows
returns-clause-rows c =
    first_holds c.in_ok-bytes.bytes.items c.new.result.items c.args.columns.items c.in_ok-columns.columns.items c.args.stripe_rows c.new.ensures.items c.in_ok-columns.ensures

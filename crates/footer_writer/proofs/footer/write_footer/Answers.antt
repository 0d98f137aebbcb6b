use Rattle.std.proofs.Common.{[]}
use Rattle.footer_writer.proofs.Wholes.{footer_made}
use Rattle.footer_writer.proofs.Parts.{stripe_added, type_added, rows_added}
use Rattle.footer_writer.proofs.footer.write_footer.Goals as goal

pub loop-stripe-preserved : goal.loop-stripe-preserved
loop-stripe-preserved c = stripe_added c.args.stripes.now c.loop-stripe.stripe-index _ [] c.loop-stripe-test.true c.loop-stripe.invariant c.in_ok-footer.ensures

pub loop-file_type-preserved : goal.loop-file_type-preserved
loop-file_type-preserved c =
    type_added c.args.stripes.now c.args.types.now c.loop-file_type.file_type-index c.file_type-item.result c.file_type-item.is c.loop-file_type-test.true c.loop-file_type.invariant c.in_ok-footer-2.ensures

pub returns-clause-message : goal.returns-clause-message
returns-clause-message c =
    footer_made c.args.stripes.now c.args.types.now c.loop-file_type.file_type-index c.loop-file_type-test.false c.messages_are_read.ensures.read
    (rows_added c.args.rows c.loop-file_type.invariant c.in_ok-whole.ensures.field)

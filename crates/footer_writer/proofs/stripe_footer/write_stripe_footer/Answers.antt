use Rattle.std.proofs.Common.{[], map}
use Rattle.footer_writer.specs.Views.{part_view}
use Rattle.footer_writer.proofs.Wholes.{stripe_footer_made, stripe_footer_read}
use Rattle.footer_writer.proofs.Parts.{stream_added, encoding_added}
use Rattle.footer_writer.proofs.stripe_footer.write_stripe_footer.Goals as goal

pub loop-stream-preserved : goal.loop-stream-preserved
loop-stream-preserved c = stream_added c.args.streams.now c.loop-stream.stream-index _ [] c.loop-stream-test.true c.loop-stream.invariant c.in_ok-footer.ensures

pub loop-encoding-preserved : goal.loop-encoding-preserved
loop-encoding-preserved c =
    encoding_added (map part_view c.args.streams.now) c.args.encodings.now c.loop-encoding.encoding-index _ c.loop-encoding-test.true c.loop-encoding.invariant c.in_ok-footer-2.ensures

pub returns-clause-message : goal.returns-clause-message
returns-clause-message c =
    stripe_footer_made c.args.streams.now c.args.encodings.now c.loop-encoding.encoding-index c.loop-encoding-test.false c.messages_are_read.ensures.read c.loop-encoding.invariant

pub returns-clause-read : goal.returns-clause-read
returns-clause-read c =
    stripe_footer_read c.loop-encoding.footer.items c.args.streams.now c.args.encodings.now
    (stripe_footer_made c.args.streams.now c.args.encodings.now c.loop-encoding.encoding-index c.loop-encoding-test.false c.messages_are_read.ensures.read c.loop-encoding.invariant)

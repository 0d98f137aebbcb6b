use Rattle.std.proofs.Common.{[], map, take}
use Rattle.orc_tail.specs.Messages.{stripe_footer_field}
use Rattle.footer_writer.specs.Views.{part_view}
use Rattle.footer_writer.specs.Made.{Makes}
use Rattle.footer_writer.proofs.stripe_footer.write_stripe_footer.Given as goal

abbrev pub invariant-loop-stream : goal.invariant-loop-stream
invariant-loop-stream l =
    Makes stripe_footer_field (record { streams = []; encodings = [] }) l.footer.items (record { streams = map part_view (take l.stream-index l.streams); encodings = [] })

abbrev pub invariant-loop-encoding : goal.invariant-loop-encoding
invariant-loop-encoding l =
    Makes stripe_footer_field (record { streams = []; encodings = [] }) l.footer.items (record { streams = map part_view l.streams; encodings = take l.encoding-index l.encodings })

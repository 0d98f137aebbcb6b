use Rattle.footer_writer.proofs.Wholes.{stream_read}
use Rattle.footer_writer.proofs.messages.stream_message.Goals as goal

pub returns : goal.returns
returns c =
    stream_read c.args.stream.now c.the_last_number_counts.ensures.streams c.new.ensures.items c.in_ok-kind.ensures.field c.in_ok-column.ensures.field
    c.in_ok-message.ensures.field

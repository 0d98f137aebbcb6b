use Rattle.footer_writer.proofs.Wholes.{encoding_read, no_dictionary}
use Rattle.footer_writer.proofs.messages.encoding_message.Goals as goal

pub returns-then-encoding-eq0 : goal.returns-then-encoding-eq0
returns-then-encoding-eq0 c =
    no_dictionary c.args.encoding.now c.the_last_number_counts.ensures.encodings c.new.ensures.items c.in_ok-kind.ensures.field c.if-encoding-eq0.true

pub returns : goal.returns
returns c = encoding_read c.args.encoding.now c.the_last_number_counts.ensures.encodings c.new.ensures.items c.in_ok-kind.ensures.field c.in_ok-message.ensures.field

use Rattle.footer_writer.proofs.Wholes.{stripe_read}
use Rattle.footer_writer.proofs.messages.stripe_message.Goals as goal

pub returns : goal.returns
returns c =
    stripe_read c.args.stripe.now c.the_last_number_counts.ensures.stripes c.new.ensures.items c.in_ok-at.ensures.field c.in_ok-index_len.ensures.field
    c.in_ok-body_len.ensures.field c.in_ok-footer_len.ensures.field c.in_ok-message.ensures.field

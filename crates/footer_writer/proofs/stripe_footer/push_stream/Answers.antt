use Rattle.std.proofs.Common.{List, ℕ, subst}
use Rattle.orc_proto.specs.Message.{LEN}
use Rattle.message_writer.specs.Written.{Adds}
use Rattle.footer_writer.proofs.stripe_footer.push_stream.Goals as goal

pub returns : goal.returns
returns c = record {
  bytes = c.in_ok-message.message.items;
  is_read = c.in_ok-message.ensures;
  added = subst (λ (xs : List ℕ). Adds c.args.footer.items c.in_ok-after.after.items 1 (LEN xs)) c.deref.ensures.value c.in_ok-after.ensures.field;
}

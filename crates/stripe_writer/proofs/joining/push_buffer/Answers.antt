use Rattle.std.proofs.Common.{refl}
use Rattle.stripe_writer.proofs.joining.push_buffer.Goals as goal

pub returns : goal.returns
returns c = (c.in_ok-encoded.encoded, c.in_ok-encoded.ensures, refl, c.in_ok-push_column.ensures)

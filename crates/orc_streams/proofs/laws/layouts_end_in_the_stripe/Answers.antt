use Rattle.orc_streams.proofs.Layouts.{layouts_end, end_later}
use Rattle.orc_streams.proofs.laws.layouts_end_in_the_stripe.Goals as goal

pub returns : goal.returns
returns c = record { end = layouts_end; later = end_later }

use Rattle.std.proofs.Common.{◌≡◌, length}
use Rattle.orc_tail.specs.Reading.{fields_from}
use Rattle.orc_tail.specs.Messages.{stripe_footer_field, stripe_footer_of}
use Rattle.orc_tail.specs.Views.{stripe_footer_view}
use Rattle.orc_tail.proofs.stripe_footer.read_parts.Given as goal

abbrev pub invariant-loop-field : goal.invariant-loop-field
invariant-loop-field l = fields_from stripe_footer_field (stripe_footer_view l.parts) l.fields ≡ stripe_footer_of l.bytes

abbrev pub decreases-loop-field : goal.decreases-loop-field
decreases-loop-field l = length l.fields

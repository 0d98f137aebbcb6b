use Rattle.std.proofs.Common.{◌≡◌, ◌+◌, ◌≤◌, length}
use Rattle.orc_tail.specs.Reading.{fields_from}
use Rattle.orc_proto.specs.Reading.{fields_of}
use Rattle.orc_tail.specs.Messages.{footer_field, footer_of}
use Rattle.orc_tail.specs.Views.{footer_view}
use Rattle.orc_tail.proofs.footer.read_footer.Given as goal

abbrev pub invariant-loop-field : goal.invariant-loop-field
invariant-loop-field l = record {
  folded : fields_from footer_field (footer_view l.footer) l.fields ≡ footer_of l.bytes;
  few : length l.footer.types.items + length l.fields ≤ length (fields_of l.bytes);
}

abbrev pub decreases-loop-field : goal.decreases-loop-field
decreases-loop-field l = length l.fields

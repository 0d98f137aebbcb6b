use Rattle.footer_writer.proofs.Parts.{subtypes_added}
use Rattle.footer_writer.proofs.footer.push_subtypes.Goals as goal

pub returns : goal.returns
returns c = subtypes_added c.args.subtypes.now c.packed_numbers_are_read.ensures.read c.in_ok-after.ensures.field

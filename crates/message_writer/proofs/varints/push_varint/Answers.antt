use Rattle.message_writer.proofs.varints.push_varint.Goals as goal

pub write_varint-len-requires : goal.write_varint-len-requires
write_varint-len-requires c =
    let spelled = c.varints_are_read.ensures.spelled c.args.value c.ranges.value.fits in
    spelled.short

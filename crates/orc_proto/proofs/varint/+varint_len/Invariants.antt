use Rattle.orc_proto.proofs.varint.+varint_len.Given as goal

abbrev pub decreases-varint_len : goal.decreases-varint_len
decreases-varint_len l = l.value

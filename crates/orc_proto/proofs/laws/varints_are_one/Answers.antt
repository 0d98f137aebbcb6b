use Rattle.orc_proto.proofs.OneVarint.{one_varint}
use Rattle.orc_proto.proofs.laws.varints_are_one.Goals as goal

pub returns : goal.returns
returns c = one_varint

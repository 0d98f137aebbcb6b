use Rattle.orc_proto.proofs.Groups.{IsSoFar}
use Rattle.orc_proto.proofs.varint.read_varint.Given as goal

abbrev pub invariant-loop-group : goal.invariant-loop-group
invariant-loop-group l = IsSoFar l.offset l.bytes l.value l.rest l.group

use Rattle.std.proofs.Common.{sym, arith}
use Rattle.orc_proto.proofs.Shortest.{length-small, length-large, shortest-length}
use Rattle.orc_proto.proofs.varint.+varint_len.Goals as goal

pub returns-then-value-lt128-clause-len : goal.returns-then-value-lt128-clause-len
returns-then-value-lt128-clause-len t c = sym (length-small c.args.value c.if-value-lt128.true)

pub returns-else-value-lt128-clause-len : goal.returns-else-value-lt128-clause-len
returns-else-value-lt128-clause-len t c =
    omega (arith, c.varint_len.ensures.len, length-large c.args.value (omega arith) c.if-value-lt128.false)

pub returns-else-value-lt128-clause-most : goal.returns-else-value-lt128-clause-most
returns-else-value-lt128-clause-most t c =
    omega (arith, c.varint_len.ensures.len, length-large c.args.value (omega arith) c.if-value-lt128.false, shortest-length c.args.value)

use Rattle.std.proofs.Common.{sym, ◌≡◌, ◌+◌, length, arith}
use Rattle.orc_proto.specs.Varint.{shortest}
use Rattle.orc_proto.proofs.Shortest.{length-small, length-large, length-some, written_small, written_large, spelled_front}
use Rattle.orc_proto.proofs.varint.+write_varint.Goals as goal

pub returns-in_default-clause-spelled : goal.returns-in_default-clause-spelled
returns-in_default-clause-spelled t c = absurd (omega (arith, c.requires, c.in_default.ensures.cases, length-some c.args.value (omega arith)))

pub returns-then-value-lt128-clause-len : goal.returns-then-value-lt128-clause-len
returns-then-value-lt128-clause-len t c = sym (length-small c.args.value c.if-value-lt128.true)

pub returns-then-value-lt128-clause-written : goal.returns-then-value-lt128-clause-written
returns-then-value-lt128-clause-written t c = written_small c.args.value c.in-Some.first.now c.in-Some.rest.now c.args.into.now c.if-value-lt128.true c.in-Some.ensures.cases.0

pub write_varint-requires : goal.write_varint-requires
write_varint-requires t c =
    let len = length-large c.args.value (omega arith) c.if-value-lt128.false in
    let all = c.in-Some.ensures.cases.1 in
    (omega arith, omega (arith, c.requires))

pub returns-clause-len : goal.returns-clause-len
returns-clause-len t c = omega (arith, c.write_varint.ensures.len, length-large c.args.value (omega arith) c.if-value-lt128.false)

pub returns-clause-written : goal.returns-clause-written
returns-clause-written t c =
    written_large c.args.value c.in-Some.first.now c.in-Some.rest.now c.write_varint.new.into c.args.into.now (omega arith) c.if-value-lt128.false c.in-Some.ensures.cases.0 c.write_varint.ensures.written

pub returns-clause-spelled : goal.returns-clause-spelled
returns-clause-spelled t c =
    let written = written_large c.args.value c.in-Some.first.now c.in-Some.rest.now c.write_varint.new.into c.args.into.now (omega arith) c.if-value-lt128.false c.in-Some.ensures.cases.0 c.write_varint.ensures.written in
    let len : 1 + c.write_varint.result ≡ length (shortest c.args.value) = omega (arith, c.write_varint.ensures.len, length-large c.args.value (omega arith) c.if-value-lt128.false) in
    spelled_front c.args.value (1 + c.write_varint.result) _ c.args.into.now (omega arith) len written

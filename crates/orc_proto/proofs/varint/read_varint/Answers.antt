use Rattle.std.proofs.Common.{subst, List, ℕ}
use Rattle.orc_proto.proofs.Groups.{IsSoFar, begins, runs_out, is_long, ends, goes_on}
use Rattle.orc_proto.proofs.varint.read_varint.Goals as goal

pub loop-group-init : goal.loop-group-init
loop-group-init c = begins c.args.offset c.args.bytes.now

pub returns-in_default : goal.returns-in_default
returns-in_default c = runs_out c.args.offset c.args.bytes.now c.loop-group.value c.loop-group.rest.now c.loop-group.group c.loop-group-test.true (c.in_default.ensures.cases) c.loop-group.invariant

pub returns-then-byte-lt128 : goal.returns-then-byte-lt128
returns-then-byte-lt128 c =
    ends c.args.offset c.args.bytes.now c.loop-group.value c.in-Some.field-0-0.now c.in-Some.after.now c.loop-group.group c.loop-group-test.true c.if-byte-lt128.true
    (subst (λ (r : List ℕ). IsSoFar c.args.offset c.args.bytes.now c.loop-group.value r c.loop-group.group) c.in-Some.ensures.cases.0 c.loop-group.invariant)

pub loop-group-preserved : goal.loop-group-preserved
loop-group-preserved c =
    goes_on c.args.offset c.args.bytes.now c.loop-group.value c.in-Some.field-0-0.now c.in-Some.after.now c.loop-group.group c.loop-group-test.true c.if-byte-lt128.false
    (subst (λ (r : List ℕ). IsSoFar c.args.offset c.args.bytes.now c.loop-group.value r c.loop-group.group) c.in-Some.ensures.cases.0 c.loop-group.invariant)

pub returns : goal.returns
returns c = is_long c.args.offset c.args.bytes.now c.loop-group.value c.loop-group.rest.now c.loop-group.group c.loop-group-test.false c.loop-group.invariant

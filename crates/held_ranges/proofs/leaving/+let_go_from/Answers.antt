use Rattle.std.proofs.Common.{arith}
use Rattle.held_ranges.specs.Moments.{moment}
use Rattle.held_ranges.proofs.Gets.{passed_end, passed_step}
use Rattle.held_ranges.proofs.leaving.+let_go_from.Goals as goal

pub returns-then-next-len-clause-went : goal.returns-then-next-len-clause-went
returns-then-next-len-clause-went g t c =
    (passed_step g.W.World.files g.S.Store.reads c.args.of c.args.slot c.next_meant-next.result (moment c.args.desk.now c.args.slots.now.items) (moment c.let_go.new.desk c.let_go.new.slots.items) (moment c.let_go_from.new.desk c.let_go_from.new.slots.items)
    c.next_meant-next.ensures.from c.next_meant-next.ensures.passed (omega arith) (c.next_meant-next.ensures.found (omega arith)) c.let_go.ensures.went c.let_go.ensures.keys c.let_go_from.ensures.went c.let_go_from.ensures.keys).0

pub returns-then-next-len-clause-keys : goal.returns-then-next-len-clause-keys
returns-then-next-len-clause-keys g t c =
    (passed_step g.W.World.files g.S.Store.reads c.args.of c.args.slot c.next_meant-next.result (moment c.args.desk.now c.args.slots.now.items) (moment c.let_go.new.desk c.let_go.new.slots.items) (moment c.let_go_from.new.desk c.let_go_from.new.slots.items)
    c.next_meant-next.ensures.from c.next_meant-next.ensures.passed (omega arith) (c.next_meant-next.ensures.found (omega arith)) c.let_go.ensures.went c.let_go.ensures.keys c.let_go_from.ensures.went c.let_go_from.ensures.keys).1

pub returns-else-next-len-clause-went : goal.returns-else-next-len-clause-went
returns-else-next-len-clause-went g t c =
    (passed_end g.W.World.files g.S.Store.reads c.args.of c.args.slot c.next_meant-next.result (moment c.args.desk.now c.args.slots.now.items) c.next_meant-next.ensures.from c.next_meant-next.ensures.passed (omega arith)).0

pub returns-else-next-len-clause-keys : goal.returns-else-next-len-clause-keys
returns-else-next-len-clause-keys g t c =
    (passed_end g.W.World.files g.S.Store.reads c.args.of c.args.slot c.next_meant-next.result (moment c.args.desk.now c.args.slots.now.items) c.next_meant-next.ensures.from c.next_meant-next.ensures.passed (omega arith)).1

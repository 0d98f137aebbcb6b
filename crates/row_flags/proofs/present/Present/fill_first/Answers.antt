use Rattle.std.proofs.lemmas.Result.{err_from_is_err_and}
use Rattle.row_flags.proofs.FlagBatches.{first_flags_seen, first_fault_seen}
use Rattle.row_flags.proofs.present.Present.fill_first.Goals as goal

pub returns-in_err-fill_unless_empty-clause-fills : goal.returns-in_err-fill_unless_empty-clause-fills
returns-in_err-fill_unless_empty-clause-fills g c =
    let f = g.F.Feed in
    let i = c.self.inside in
    let p = err_from_is_err_and c.from_residual.result c.from_residual.ensures.1 in
    rw (p.1, p.2) (first_fault_seen f.rest f.fed f.fault_count i.stream i.state i.bits c.fill_unless_empty.new.self c.args.self.now c.args.feed.now c.fill_unless_empty.new.feed _
    c.fill_unless_empty.new.out c.in_err-fill_unless_empty.field-0.0 c.self.view_is c.requires.unread c.self.invariant c.requires.asked c.in_err-fill_unless_empty.ensures.fills)

pub returns-then-branch-clause-fills : goal.returns-then-branch-clause-fills
returns-then-branch-clause-fills g c =
    let f = g.F.Feed in
    let i = c.self.inside in
    first_flags_seen f.rest f.fed f.fault_count i.stream i.state i.bits c.fill_unless_empty.new.self c.args.self.now c.args.feed.now c.fill_unless_empty.new.feed _
    c.fill_unless_empty.new.out c.self.view_is c.requires.unread c.self.invariant c.requires.asked (rw c.if-branch.true at c.in_ok-fill_unless_empty.ensures.fills)

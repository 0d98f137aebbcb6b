use Rattle.std.proofs.Common.{◌<◌, ◌≤◌, arith}
use Rattle.orc_columns.proofs.Judged.{lengths_broken, a_negative, past_data, lengths_judged}
use Rattle.orc_columns.proofs.NoRead.{of_run-judged}
use Rattle.orc_columns.proofs.judging.judge_lengths.Goals as goal

pub returns-in-Err-clause-draws : goal.returns-in-Err-clause-draws
returns-in-Err-clause-draws g c =
    let f = g.F.Feed in
    let law = g.met.F.Feed in
    rw c.of_run.ensures (lengths_broken f.rest f.fed f.fault_count c.args.plan law.fed_lost law.fed_nothing law.fed_joined c.requires.differ c.args.version c.args.feed.now c.read_numbers.new.feed c.read_numbers.new.integers.held c.args.limit c.args.count c.in-Err.fault (rw c.new-lengths.ensures at c.in-Err.ensures))

pub returns-then-summary-gt-NEGATIVE-clause-draws : goal.returns-then-summary-gt-NEGATIVE-clause-draws
returns-then-summary-gt-NEGATIVE-clause-draws g c =
    let f = g.F.Feed in
    let law = g.met.F.Feed in
    a_negative f.rest f.fed f.fault_count c.args.plan law.fed_lost law.fed_nothing law.fed_joined c.requires.differ c.args.version c.args.feed.now c.read_numbers.new.feed c.read_numbers.new.integers.held c.args.limit c.args.count c.in-Ok.summary (rw c.new-lengths.ensures at c.in-Ok.ensures) c.if-summary-gt-NEGATIVE.true

pub returns-then-summary-from-clause-draws : goal.returns-then-summary-from-clause-draws
returns-then-summary-from-clause-draws g c =
    let f = g.F.Feed in
    let law = g.met.F.Feed in
    let high : c.args.limit < c.in-Ok.summary.total = omega (arith, c.from.ensures, c.if-summary-from.true) in
    past_data f.rest f.fed f.fault_count c.args.plan law.fed_lost law.fed_nothing law.fed_joined c.requires.differ c.args.version c.args.feed.now c.read_numbers.new.feed c.read_numbers.new.integers.held c.args.limit c.args.count c.in-Ok.summary (rw c.new-lengths.ensures at c.in-Ok.ensures) c.if-summary-gt-NEGATIVE.false high

pub returns-clause-draws : goal.returns-clause-draws
returns-clause-draws g c =
    let f = g.F.Feed in
    let law = g.met.F.Feed in
    let within : c.in-Ok.summary.total ≤ c.args.limit = omega (arith, c.from.ensures, c.if-summary-from.false) in
    lengths_judged f.rest f.fed f.fault_count c.args.plan law.fed_lost law.fed_nothing law.fed_joined c.requires.differ c.args.version c.args.feed.now c.read_numbers.new.feed c.read_numbers.new.integers.held c.args.limit c.args.count c.in-Ok.summary (rw c.new-lengths.ensures at c.in-Ok.ensures) c.if-summary-gt-NEGATIVE.false within

pub returns-in-Err-clause-judged : goal.returns-in-Err-clause-judged
returns-in-Err-clause-judged g c = rw c.of_run.ensures (of_run-judged _ c.in-Err.fault)

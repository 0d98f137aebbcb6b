use Rattle.orc_columns.proofs.JudgedColumns.{standing_judged, standing_broken}
use Rattle.orc_columns.proofs.NoRead.{of_run-judged}
use Rattle.orc_columns.proofs.judging.standing_rows.Goals as goal

pub returns-in-Ok-clause-draws : goal.returns-in-Ok-clause-draws
returns-in-Ok-clause-draws g c =
    let f = g.F.Feed in
    let law = g.met.F.Feed in
    standing_judged f.rest f.fed f.fault_count c.args.plan law.fed_lost law.fed_nothing law.fed_joined c.requires.differ c.count_flags.new.present c.args.feed.now c.count_flags.new.feed c.args.rows c.in-Ok.standing (rw c.new-present.ensures at c.in-Ok.ensures)

pub returns-in-Err-clause-draws : goal.returns-in-Err-clause-draws
returns-in-Err-clause-draws g c =
    let f = g.F.Feed in
    let law = g.met.F.Feed in
    rw c.of_run.ensures (standing_broken f.rest f.fed f.fault_count c.args.plan law.fed_lost law.fed_nothing law.fed_joined c.requires.differ c.count_flags.new.present c.args.feed.now c.count_flags.new.feed c.args.rows c.in-Err.fault (rw c.new-present.ensures at c.in-Err.ensures))

pub returns-in-Err-clause-judged : goal.returns-in-Err-clause-judged
returns-in-Err-clause-judged g c = rw c.of_run.ensures (of_run-judged _ c.in-Err.fault)

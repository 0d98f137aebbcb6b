use Rattle.orc_columns.proofs.Judged.{integers_judged, integers_broken}
use Rattle.orc_columns.proofs.NoRead.{of_run-judged}
use Rattle.orc_columns.proofs.judging.judge_integers.Goals as goal

pub returns-in-Ok-clause-draws : goal.returns-in-Ok-clause-draws
returns-in-Ok-clause-draws g c =
    let f = g.F.Feed in
    let law = g.met.F.Feed in
    integers_judged f.rest f.fed f.fault_count c.args.plan law.fed_lost law.fed_nothing law.fed_joined c.requires.differ c.args.version c.args.feed.now c.read_numbers.new.feed c.read_numbers.new.integers.held c.args.plan.dictionary_size c.args.count c.in-Ok.field-0 (rw c.new-numbers.ensures at c.in-Ok.ensures)

pub returns-clause-draws : goal.returns-clause-draws
returns-clause-draws g c =
    let f = g.F.Feed in
    let law = g.met.F.Feed in
    rw c.of_run.ensures (integers_broken f.rest f.fed f.fault_count c.args.plan law.fed_lost law.fed_nothing law.fed_joined c.requires.differ c.args.version c.args.feed.now c.read_numbers.new.feed c.read_numbers.new.integers.held c.args.plan.dictionary_size c.args.count c.in-Err.fault (rw c.new-numbers.ensures at c.in-Err.ensures))

pub returns-clause-judged : goal.returns-clause-judged
returns-clause-judged g c = rw c.of_run.ensures (of_run-judged _ c.in-Err.fault)

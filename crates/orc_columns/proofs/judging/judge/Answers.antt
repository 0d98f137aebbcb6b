use Rattle.std.proofs.lemmas.Result.{err_from_is_err_and}
use Rattle.orc_columns.proofs.JudgedColumns.{column_broken, column_judged}
use Rattle.orc_columns.proofs.judging.judge.Goals as goal

pub returns-in_err-standing-clause-draws : goal.returns-in_err-standing-clause-draws
returns-in_err-standing-clause-draws g c =
    let f = g.F.Feed in
    let law = g.met.F.Feed in
    let p = err_from_is_err_and c.from_residual.result c.from_residual.ensures.1 in
    rw (p.1, p.2) (column_broken f.rest f.fed f.fault_count c.args.plan law.fed_lost law.fed_nothing law.fed_joined c.requires.differ c.args.spelling c.args.feed.now c.standing_rows.new.feed c.args.rows c.in_err-standing.field-0.0 c.requires.spelled c.in_err-standing.ensures.draws)

pub returns-clause-draws : goal.returns-clause-draws
returns-clause-draws g c =
    let f = g.F.Feed in
    let law = g.met.F.Feed in
    column_judged f.rest f.fed f.fault_count c.args.plan law.fed_lost law.fed_nothing law.fed_joined c.requires.differ c.args.spelling c.args.feed.now c.standing_rows.new.feed c.judge_values.new.feed c.args.rows c.in_ok-standing.standing c.judge_values.result c.requires.spelled c.requires.lens c.in_ok-standing.ensures.draws c.judge_values.ensures.draws

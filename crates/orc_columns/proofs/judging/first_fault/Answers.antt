use Rattle.std.proofs.Common.{sym, ◌∙◌}
use Rattle.orc_columns.proofs.JudgedColumns.{found_none, found_so, bad_encoding}
use Rattle.orc_columns.proofs.judging.first_fault.Goals as goal

pub returns-in_default : goal.returns-in_default
returns-in_default g c =
    let f = g.F.Feed in
    let law = g.met.F.Feed in
    bad_encoding f.rest f.fed f.fault_count c.args.plan law.fed_lost law.fed_nothing law.fed_joined c.requires.differ c.args.feed.now c.args.rows (sym c.in_default.ensures)

pub returns-in-Ok : goal.returns-in-Ok
returns-in-Ok g c =
    let f = g.F.Feed in
    let law = g.met.F.Feed in
    found_none f.rest f.fed f.fault_count c.args.plan law.fed_lost law.fed_nothing law.fed_joined c.requires.differ c.in-Some.spelling (sym c.spelling_of.ensures ∙ c.in-Some.is) c.args.feed.now c.judge.new.feed c.args.rows c.in-Ok.ensures.draws

pub returns-in-Err : goal.returns-in-Err
returns-in-Err g c =
    let f = g.F.Feed in
    let law = g.met.F.Feed in
    rw c.found.ensures (found_so f.rest f.fed f.fault_count c.args.plan law.fed_lost law.fed_nothing law.fed_joined c.requires.differ c.in-Some.spelling (sym c.spelling_of.ensures ∙ c.in-Some.is) c.args.feed.now c.judge.new.feed c.args.rows c.in-Err.fault c.in-Err.ensures.judged c.in-Err.ensures.draws)

use Rattle.std.proofs.Common.{length, Ok, Err}
use Rattle.orc_columns.proofs.Drawing.{present_draws}
use Rattle.orc_columns.proofs.fills.fill_flags.Goals as goal

pub returns-in-Ok-clause-draws : goal.returns-in-Ok-clause-draws
returns-in-Ok-clause-draws g c = λ plan differ on fresh.
    let f = g.F.Feed in
    let m = g.met.F.Feed in
    present_draws f.rest f.fed f.fault_count plan m.fed_lost m.fed_nothing m.fed_joined differ c.args.present.now c.fill.new.self c.args.feed.now c.fill.new.feed
    (length c.args.flags.now) (Ok c.fill.new.flags) on (c.in-Ok.ensures.fills fresh)

pub returns-in-Err-clause-draws : goal.returns-in-Err-clause-draws
returns-in-Err-clause-draws g c = λ plan differ on fresh.
    let f = g.F.Feed in
    let m = g.met.F.Feed in
    let old = c.args.present.now in
    rw c.of_run.ensures
    (present_draws f.rest f.fed f.fault_count plan m.fed_lost m.fed_nothing m.fed_joined differ old c.fill.new.self c.args.feed.now c.fill.new.feed
    (length c.args.flags.now) (Err c.in-Err.fault) on (c.in-Err.ensures.fills fresh))

use Rattle.std.proofs.Common.{length, refl, sym, ap, Ok, Err}
use Rattle.orc_columns.proofs.Fronts.{bits_front}
use Rattle.orc_columns.proofs.fills.fill_bits.Goals as goal

pub returns-in-Ok-clause-draws : goal.returns-in-Ok-clause-draws
returns-in-Ok-clause-draws g c = λ plan differ on fresh.
    let f = g.F.Feed in
    let m = g.met.F.Feed in
    let n = length c.args.values.now in
    bits_front f.rest f.fed f.fault_count plan m.fed_lost m.fed_nothing m.fed_joined differ c.args.bits.now c.fill.new.self c.args.feed.now c.fill.new.feed
    n n (Ok c.fill.new.out) _ on refl refl (c.in-Ok.ensures.fills fresh)

pub returns-in-Err-clause-draws : goal.returns-in-Err-clause-draws
returns-in-Err-clause-draws g c = λ plan differ on fresh.
    let f = g.F.Feed in
    let m = g.met.F.Feed in
    let n = length c.args.values.now in
    bits_front f.rest f.fed f.fault_count plan m.fed_lost m.fed_nothing m.fed_joined differ c.args.bits.now c.fill.new.self c.args.feed.now c.fill.new.feed
    n n (Err c.in-Err.fault) _ on refl (ap (λ e. Err e) (sym c.of_run.ensures)) (c.in-Err.ensures.fills fresh)

use Rattle.std.proofs.Common.{◌≡◌, length, sym, ◌∙◌, ap, Ok, Err}
use Rattle.std.proofs.lemmas.List.{drop_at}
use Rattle.orc_columns.proofs.Fronts.{front_is, numbers_front}
use Rattle.orc_columns.proofs.fills.fill_numbers.Goals as goal

pub returns-in-Ok-clause-draws : goal.returns-in-Ok-clause-draws
returns-in-Ok-clause-draws g c = λ plan differ on fresh.
    let f = g.F.Feed in
    let m = g.met.F.Feed in
    let len : length c.fill.new.out ≡ c.args.count = c.fill.auto.out ∙ c.split_at_mut-front.ensures.front_len in
    numbers_front f.rest f.fed f.fault_count plan m.fed_lost m.fed_nothing m.fed_joined differ c.args.integers.now c.fill.new.self c.args.feed.now c.fill.new.feed
    _ c.args.count (Ok c.fill.new.out) _ on c.split_at_mut-front.ensures.front_len (front_is c.fill.new.out c.split_at_mut-front.result.1.now c.args.count len) (c.in-Ok.ensures.fills fresh)

pub returns-in-Err-clause-draws : goal.returns-in-Err-clause-draws
returns-in-Err-clause-draws g c = λ plan differ on fresh.
    let f = g.F.Feed in
    let m = g.met.F.Feed in
    numbers_front f.rest f.fed f.fault_count plan m.fed_lost m.fed_nothing m.fed_joined differ c.args.integers.now c.fill.new.self c.args.feed.now c.fill.new.feed
    _ c.args.count (Err c.in-Err.fault) _ on c.split_at_mut-front.ensures.front_len (ap (λ e. Err e) (sym c.of_run.ensures)) (c.in-Err.ensures.fills fresh)

pub returns-in-Ok-clause-behind : goal.returns-in-Ok-clause-behind
returns-in-Ok-clause-behind g c =
    let len : length c.fill.new.out ≡ c.args.count = c.fill.auto.out ∙ c.split_at_mut-front.ensures.front_len in
    drop_at c.fill.new.out c.split_at_mut-front.result.1.now c.args.count len ∙ c.split_at_mut-front.ensures.back

pub returns-in-Err-clause-behind : goal.returns-in-Err-clause-behind
returns-in-Err-clause-behind g c =
    let len : length c.fill.new.out ≡ c.args.count = c.fill.auto.out ∙ c.split_at_mut-front.ensures.front_len in
    drop_at c.fill.new.out c.split_at_mut-front.result.1.now c.args.count len ∙ c.split_at_mut-front.ensures.back

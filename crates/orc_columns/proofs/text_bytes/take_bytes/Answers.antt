use Rattle.std.proofs.Common.{length, refl, sym, ap, Ok, Err}
use Rattle.orc_columns.proofs.Taking.{body_taken, dictionary_taken}
use Rattle.orc_columns.proofs.text_bytes.take_bytes.Goals as goal

pub returns-in-Ok-clause-body : goal.returns-in-Ok-clause-body
returns-in-Ok-clause-body g c = λ plan differ on.
    let f = g.F.Feed in
    body_taken f.rest f.fed f.fault_count plan g.met.F.Feed.fed_lost differ c.args.feed.now c.take_some.new.feed (length c.args.into.now) c.args.stream (Ok c.take_some.new.into) _ on refl c.in-Ok.ensures

pub returns-in-Err-clause-body : goal.returns-in-Err-clause-body
returns-in-Err-clause-body g c = λ plan differ on.
    let f = g.F.Feed in
    body_taken f.rest f.fed f.fault_count plan g.met.F.Feed.fed_lost differ c.args.feed.now c.take_some.new.feed (length c.args.into.now) c.args.stream (Err c.in-Err.fault) _ on (ap (λ e. Err e) (sym c.of_take.ensures)) c.in-Err.ensures

pub returns-in-Ok-clause-dictionary : goal.returns-in-Ok-clause-dictionary
returns-in-Ok-clause-dictionary g c = λ plan differ on.
    let f = g.F.Feed in
    dictionary_taken f.rest f.fed f.fault_count plan g.met.F.Feed.fed_lost differ c.args.feed.now c.take_some.new.feed (length c.args.into.now) c.args.stream (Ok c.take_some.new.into) _ on refl c.in-Ok.ensures

pub returns-in-Err-clause-dictionary : goal.returns-in-Err-clause-dictionary
returns-in-Err-clause-dictionary g c = λ plan differ on.
    let f = g.F.Feed in
    dictionary_taken f.rest f.fed f.fault_count plan g.met.F.Feed.fed_lost differ c.args.feed.now c.take_some.new.feed (length c.args.into.now) c.args.stream (Err c.in-Err.fault) _ on (ap (λ e. Err e) (sym c.of_take.ensures)) c.in-Err.ensures

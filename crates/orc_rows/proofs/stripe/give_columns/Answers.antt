use Rattle.std.proofs.Common.{List, ◌++◌, sym, ◌∙◌, ap, length}
use Rattle.orc_columns.specs.Midway.{ReaderOf}
use Rattle.orc_rows.specs.Starting.{layouts_in}
use Rattle.orc_rows.proofs.Giving.{as_many, all_apart_now, kinds_now, gives, not_started}
use Rattle.orc_rows.proofs.stripe.give_columns.Goals as goal

pub give_rows-requires-clause-beside : goal.give_rows-requires-clause-beside
give_rows-requires-clause-beside g c =
    let s = c.in-Ok.ensures.starts in
    let e = c.deref_mut.ensures.value ∙ s.1 ∙ ap (λ (rs : List ReaderOf). rs ++ s.0) c.new-readers.ensures.items in
    ap (λ (rs : List ReaderOf). length rs) e ∙ as_many c.args.footer.now 0 c.args.columns.now s.0 s.2.readers.0 ∙ c.requires.beside

pub give_rows-requires-clause-apart : goal.give_rows-requires-clause-apart
give_rows-requires-clause-apart g c =
    let s = c.in-Ok.ensures.starts in
    let e = c.deref_mut.ensures.value ∙ s.1 ∙ ap (λ (rs : List ReaderOf). rs ++ s.0) c.new-readers.ensures.items in
    rw e (all_apart_now c.plans_are_apart.ensures 0 (layouts_in c.args.footer.now c.args.columns.now) s.0 s.2.readers.0)

pub give_rows-requires-clause-kinds : goal.give_rows-requires-clause-kinds
give_rows-requires-clause-kinds g c =
    let s = c.in-Ok.ensures.starts in
    let e = c.deref_mut.ensures.value ∙ s.1 ∙ ap (λ (rs : List ReaderOf). rs ++ s.0) c.new-readers.ensures.items in
    rw e (c.requires.kinds ∙ sym (kinds_now c.args.footer.now 0 c.args.columns.now s.0 s.2.readers.0))

pub returns-in-Ok-clause-gives : goal.returns-in-Ok-clause-gives
returns-in-Ok-clause-gives g c =
    let d = g.S.StreamReader in
    let m = g.met.S.StreamReader in
    let s = c.in-Ok.ensures.starts in
    let e = c.deref_mut.ensures.value ∙ s.1 ∙ ap (λ (rs : List ReaderOf). rs ++ s.0) c.new-readers.ensures.items in
    gives d.did g.S.Feed.rest g.S.Feed.fed g.S.Feed.fault_count g.W.World.files g.C.Consumer.ate c.args.file c.args.footer.now c.args.columns.now c.args.rows c.a_column_is_one.ensures.never_both
    m.did_joined m.did_take c.a_reader_gives_the_column.ensures c.args.reader.now c.start_columns.new.reader c.give_rows.new.feed c.args.consumer.now c.give_rows.new.consumer s.0 c.give_rows.new.readers c.give_rows.result
    (rw e at c.give_rows.ensures.plans) s.2 (rw e at c.give_rows.ensures.walked)

pub returns-clause-gives : goal.returns-clause-gives
returns-clause-gives g c =
    let d = g.S.StreamReader in
    let m = g.met.S.StreamReader in
    not_started d.did g.S.Feed.rest g.S.Feed.fed g.S.Feed.fault_count g.W.World.files g.C.Consumer.ate c.args.file c.args.footer.now c.args.columns.now c.args.rows c.a_column_is_one.ensures.never_both
    c.args.reader.now c.start_columns.new.reader c.args.consumer.now c.in-Err.fault (g.met.C.Consumer.ate_nothing c.args.consumer.now) c.in-Err.ensures.starts.2

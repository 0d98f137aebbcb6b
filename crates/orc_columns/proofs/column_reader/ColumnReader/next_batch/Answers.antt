use Rattle.std.proofs.Common.{◌≡◌, None, ◌∙◌, ap}
use Rattle.orc_columns.specs.Midway.{ReaderOf}
use Rattle.orc_columns.proofs.ReadingRows.{sound_after, reader_draws, not_some}
use Rattle.orc_columns.proofs.column_reader.ColumnReader.next_batch.Goals as goal

pub invariant_of-self : goal.invariant_of-self
invariant_of-self g c =
    let i = c.self.inside in
    let e = c.fill_rows-filled.ensures in
    let fresh : i.fault ≡ None = not_some i.fault (λ x e. c.in_default.not-Some x e) in
    rw c.err-self-inside.ensures.value
    (sound_after i.plan c.fill_rows-filled.new.present i.values c.fill_rows-filled.new.values c.fill_rows-filled.result c.self.invariant.differ c.self.invariant.spelled e.spelling (e.ready i.plan (c.self.invariant.ready fresh)) e.no_read)

pub returns-clause-draws : goal.returns-clause-draws
returns-clause-draws g c = λ fresh.
    let f = g.F.Feed in
    let m = g.met.F.Feed in
    let i = c.self.inside in
    let new = c.fill_rows-filled.new in
    let inside : i.fault ≡ None = ap (λ (r : ReaderOf). r.fault) c.self.view_is ∙ fresh in
    reader_draws f.rest f.fed f.fault_count m.fed_lost m.fed_nothing m.fed_joined i.plan i.present new.present i.values new.values c.args.self.now c.args.rows c.args.feed.now new.feed new.out
    c.fill_rows-filled.result i.fault c.err-self-inside.result c.self.invariant.spelled c.self.view_is fresh c.err-self-inside.ensures.value
    (c.fill_rows-filled.ensures.draws i.plan c.self.invariant.differ (c.self.invariant.ready inside))

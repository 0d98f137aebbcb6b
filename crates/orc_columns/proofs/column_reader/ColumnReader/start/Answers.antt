use Rattle.std.proofs.Common.{◌≡◌, Some, sym, ◌∙◌, ap}
use Rattle.std.proofs.lemmas.Result.{err_from_is_err_and}
use Rattle.orc_columns.specs.declared.fault.ColumnFault.TheVariants.{BadEncoding}
use Rattle.orc_columns.specs.declared.spelling.Spelling.{Spelling}
use Rattle.orc_columns.specs.Batches.{ValuesBegin, ValuesFailAtStart}
use Rattle.orc_columns.specs.Column.{encoding}
use Rattle.orc_columns.specs.Reader.{Begins, FailsAtStart}
use Rattle.orc_columns.specs.Spelling.{spelling_of}
use Rattle.orc_columns.proofs.Beginnings.{reader_begins, start_fails}
use Rattle.orc_columns.proofs.Drawing.{Draws-refused, Draws-ok, Draws-fault}
use Rattle.orc_columns.proofs.ReadingRows.{not_some}
use Rattle.orc_columns.proofs.column_reader.ColumnReader.start.Goals as goal

pub returns-in_default-clause-draws : goal.returns-in_default-clause-draws
returns-in_default-clause-draws g c =
    let f = g.F.Feed in
    let m = g.met.F.Feed in
    Draws-refused f.rest f.fed f.fault_count c.args.plan m.fed_lost m.fed_nothing m.fed_joined c.args.feed.now Begins (FailsAtStart c.args.plan) BadEncoding (λ no. no)
    (λ s tells. encoding (sym c.spelling_of.ensures ∙ not_some c.spelling_of.result (λ x e. c.in_default.not-Some x e)))

pub returns-in_err-values-clause-draws : goal.returns-in_err-values-clause-draws
returns-in_err-values-clause-draws g c =
    let f = g.F.Feed in
    let m = g.met.F.Feed in
    let size = c.args.plan.dictionary_size in
    let p = err_from_is_err_and c.from_residual.result c.from_residual.ensures.1 in
    rw (p.1, p.2, sym c.spelling_of.ensures ∙ c.in-Some.is) (Draws-fault f.rest f.fed f.fault_count c.args.plan m.fed_lost m.fed_nothing m.fed_joined c.args.feed.now c.start_values.new.feed
    (ValuesBegin size) Begins (ValuesFailAtStart size c.in-Some.spelling) (FailsAtStart c.args.plan) c.in_err-values.field-0.0
    (λ b fault tells fails. start_fails c.args.plan c.in-Some.spelling b fault (sym c.spelling_of.ensures ∙ c.in-Some.is) fails)
    c.in_err-values.ensures.draws)

pub returns-clause-draws : goal.returns-clause-draws
returns-clause-draws g c =
    let f = g.F.Feed in
    let m = g.met.F.Feed in
    let size = c.args.plan.dictionary_size in
    let by : spelling_of c.args.plan.kind c.args.plan.encoding ≡ Some c.in-Some.spelling = sym c.spelling_of.ensures ∙ c.in-Some.is in
    let spelled = by ∙ ap (λ (s : Spelling). Some s) (sym c.in_ok-values.ensures.spelling) in
    rw (c.new.ensures, by)
    (Draws-ok f.rest f.fed f.fault_count c.args.plan m.fed_lost m.fed_nothing m.fed_joined c.args.feed.now c.start_values.new.feed
    (ValuesBegin size) Begins (ValuesFailAtStart size c.in-Some.spelling) (FailsAtStart c.args.plan) c.in_ok-values.values _
    (λ b a tells begun. reader_begins f.rest c.args.feed.now c.args.plan b a c.in_ok-values.values tells.present spelled begun)
    c.in_ok-values.ensures.draws)

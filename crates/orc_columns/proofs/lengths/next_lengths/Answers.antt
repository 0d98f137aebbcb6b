use Rattle.std.proofs.Common.{◌≡◌, List, length, take, ℤ, subst, arith}
use Rattle.std.specs.Prelude.{IfErr}
use Rattle.std.proofs.lemmas.List.{length-take-le}
use Rattle.std.proofs.lemmas.Result.{err_from_is_err_and}
use Rattle.orc_columns.specs.Batches.{LengthsGoOn, LengthsBreak, LengthsRefuse, AreRefused}
use Rattle.orc_columns.proofs.Drawing.{Draws-fault}
use Rattle.orc_columns.proofs.TextLengths.{lengths_break, lengths_judged}
use Rattle.orc_columns.proofs.lengths.next_lengths.Goals as goal

pub returns-in_err-fill_lengths-clause-draws : goal.returns-in_err-fill_lengths-clause-draws
returns-in_err-fill_lengths-clause-draws g c = λ plan differ on unsigned fresh.
    let f = g.F.Feed in
    let m = g.met.F.Feed in
    let old = c.args.lengths.now in
    let new = c.fill_lengths.new.integers in
    let p = err_from_is_err_and c.from_residual.result c.from_residual.ensures.1 in
    rw (p.1, p.2) (Draws-fault f.rest f.fed f.fault_count plan m.fed_lost m.fed_nothing m.fed_joined c.args.feed.now c.fill_lengths.new.feed
    (LengthsGoOn old new) (LengthsGoOn old new) (LengthsBreak old c.args.count) (LengthsRefuse old c.args.count c.args.room) c.in_err-fill_lengths.field-0.0
    (λ b fault tells breaks. lengths_break old c.args.count c.args.room b fault unsigned breaks)
    (c.in_err-fill_lengths.ensures.draws plan differ on fresh))

pub returns-clause-draws : goal.returns-clause-draws
returns-clause-draws g c = λ plan differ on unsigned fresh.
    let f = g.F.Feed in
    let m = g.met.F.Feed in
    let old = c.args.lengths.now in
    let new = c.fill_lengths.new.integers in
    let entries : List ℤ = c.fill_lengths.new.entries in
    let len : length (take c.args.count entries) ≡ c.args.count = length-take-le c.args.count entries (omega (arith, c.fill_lengths.ensures.len, c.requires)) in
    let judged : IfErr c.total_of.result (AreRefused (take c.args.count entries) c.args.room) = subst (λ (l : List ℤ). IfErr c.total_of.result (AreRefused l c.args.room)) c.split_at.ensures.front c.total_of.ensures.refused in
    lengths_judged f.rest f.fed f.fault_count plan m.fed_lost m.fed_nothing m.fed_joined old new c.args.count c.args.room c.args.feed.now c.fill_lengths.new.feed
    (take c.args.count entries) c.total_of.result unsigned len judged (c.in_ok-fill_lengths.ensures.draws plan differ on fresh)

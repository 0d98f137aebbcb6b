use Rattle.std.proofs.Common.{take}
use Rattle.std.proofs.lemmas.Result.{err_from_is_err_and}
use Rattle.orc_columns.specs.declared.fault.ColumnFault.TheVariants.{NoMemory}
use Rattle.orc_columns.specs.Batches.{LengthsGoOn, LengthsBreak}
use Rattle.orc_columns.proofs.Drawing.{Draws-stops}
use Rattle.orc_columns.proofs.entry_lengths.push_lengths.Goals as goal

pub returns-in_err-extend_from_slice-clause-draws : goal.returns-in_err-extend_from_slice-clause-draws
returns-in_err-extend_from_slice-clause-draws g c = λ plan differ on fresh.
    let f = g.F.Feed in
    let m = g.met.F.Feed in
    let old = c.args.integers.now in
    let new = c.fill_lengths.new.integers in
    let p = err_from_is_err_and c.from_residual-in_err-extend_from_slice.result c.from_residual-in_err-extend_from_slice.ensures.1 in
    rw (p.1, p.2) (Draws-stops f.rest f.fed f.fault_count plan m.fed_lost m.fed_nothing m.fed_joined c.args.feed.now c.fill_lengths.new.feed
    (LengthsGoOn old new) (LengthsGoOn old new) (LengthsBreak old c.args.count) (LengthsBreak old c.args.count) (take c.args.count c.fill_lengths.new.entries) NoMemory (λ no. no) (λ b a tells goes. tt)
    (c.in_ok-fill_lengths.ensures.draws plan differ on fresh))

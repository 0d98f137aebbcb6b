use Rattle.std.proofs.Common.{◌≡◌, length, List, take, ◌∙◌, arith, ℤ}
use Rattle.std.proofs.lemmas.Result.{err_from_is_err_and}
use Rattle.orc_values.specs.declared.value.Value.{Value}
use Rattle.orc_values.specs.declared.value.Value.TheVariants as value
use Rattle.orc_columns.specs.declared.fault.ColumnFault.TheVariants.{NoMemory}
use Rattle.orc_columns.specs.declared.value_reader.ValueReader.TheVariants as reader
use Rattle.orc_columns.specs.Batches.{NumbersGoOn, NumbersBreak, ValuesGoOn, ValuesBreak}
use Rattle.orc_columns.proofs.ValueBatches.{filled_front, numbers_go, numbers_break}
use Rattle.orc_columns.proofs.Drawing.{Draws-ok, Draws-fault, Draws-refused}
use Rattle.orc_columns.proofs.value_reader.next_numbers.Goals as goal

pub returns-in_err-resize-clause-draws : goal.returns-in_err-resize-clause-draws
returns-in_err-resize-clause-draws g c = λ plan differ on.
    let f = g.F.Feed in
    let m = g.met.F.Feed in
    let p = err_from_is_err_and c.from_residual.result c.from_residual.ensures.1 in
    rw (p.1, p.2) (Draws-refused f.rest f.fed f.fault_count plan m.fed_lost m.fed_nothing m.fed_joined c.args.feed.now _ _ NoMemory (λ no. no) (λ s t. tt))

pub fill_numbers-requires : goal.fill_numbers-requires
fill_numbers-requires g c = omega (arith, c.deref_mut.ensures.len, c.in_ok-resize.ensures.len)

pub returns-in_err-fill_numbers-clause-draws : goal.returns-in_err-fill_numbers-clause-draws
returns-in_err-fill_numbers-clause-draws g c = λ plan differ on.
    let f = g.F.Feed in
    let m = g.met.F.Feed in
    let old = c.args.integers.now in
    let new = c.fill_numbers.new.integers in
    let n = c.args.count in
    let p = err_from_is_err_and c.from_residual-in_err-fill_numbers.result c.from_residual-in_err-fill_numbers.ensures.1 in
    rw (p.1, p.2) (Draws-fault f.rest f.fed f.fault_count plan m.fed_lost m.fed_nothing m.fed_joined c.args.feed.now c.fill_numbers.new.feed
    (NumbersGoOn old new) (ValuesGoOn plan.dictionary_size (reader.Integers old) (reader.Integers new))
    (NumbersBreak old n) (ValuesBreak plan.dictionary_size n (reader.Integers old)) c.in_err-fill_numbers.field-0.0
    (λ b fault tells breaks. numbers_break plan.dictionary_size n old b fault on.1 breaks)
    (c.in_err-fill_numbers.ensures.draws plan differ on.0 on.2))

pub returns-clause-draws : goal.returns-clause-draws
returns-clause-draws g c = λ plan differ on.
    let f = g.F.Feed in
    let m = g.met.F.Feed in
    let old = c.args.integers.now in
    let new = c.fill_numbers.new.integers in
    let n = c.args.count in
    let entries : List ℤ = c.fill_numbers.new.entries in
    let kind : ℤ → Value = λ (n : ℤ). value.Int n in
    let filled : length entries ≡ c.resize.new.self.len = c.fill_numbers.ensures.len ∙ c.deref_mut.ensures.len in
    Draws-ok f.rest f.fed f.fault_count plan m.fed_lost m.fed_nothing m.fed_joined c.args.feed.now c.fill_numbers.new.feed
    (NumbersGoOn old new) (ValuesGoOn plan.dictionary_size (reader.Integers old) (reader.Integers new))
    (NumbersBreak old n) (ValuesBreak plan.dictionary_size n (reader.Integers old)) (take n entries) _
    (λ b a tells goes. numbers_go plan.dictionary_size old new b a (take n entries) _ on.1 c.fill_numbers.ensures.version (filled_front kind n c.resize.new.self entries filled c.in_ok-resize.ensures.len) goes)
    (c.in_ok-fill_numbers.ensures.draws plan differ on.0 on.2)

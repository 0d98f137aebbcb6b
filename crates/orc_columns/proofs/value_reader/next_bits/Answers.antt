use Rattle.std.proofs.Common.{◌≡◌, ℕ, length, Bool, List, ◌∙◌, subst}
use Rattle.std.proofs.lemmas.Result.{err_from_is_err_and}
use Rattle.orc_values.specs.declared.value.Value.{Value}
use Rattle.orc_values.specs.declared.value.Value.TheVariants as value
use Rattle.orc_columns.specs.declared.fault.ColumnFault.TheVariants.{NoMemory}
use Rattle.orc_columns.specs.declared.value_reader.ValueReader.TheVariants as reader
use Rattle.orc_columns.specs.Batches.{BitsGoOn, BitsBreak, ValuesGoOn, ValuesBreak}
use Rattle.orc_columns.proofs.ValueBatches.{filled_values, bits_go, bits_break}
use Rattle.orc_columns.proofs.Drawing.{Draws-ok, Draws-fault, Draws-refused}
use Rattle.orc_columns.proofs.value_reader.next_bits.Goals as goal

pub returns-in_err-resize-clause-draws : goal.returns-in_err-resize-clause-draws
returns-in_err-resize-clause-draws g c = λ plan differ on.
    let f = g.F.Feed in
    let m = g.met.F.Feed in
    let p = err_from_is_err_and c.from_residual.result c.from_residual.ensures.1 in
    rw (p.1, p.2) (Draws-refused f.rest f.fed f.fault_count plan m.fed_lost m.fed_nothing m.fed_joined c.args.feed.now _ _ NoMemory (λ no. no) (λ s t. tt))

pub returns-in_err-fill_bits-clause-draws : goal.returns-in_err-fill_bits-clause-draws
returns-in_err-fill_bits-clause-draws g c = λ plan differ on.
    let f = g.F.Feed in
    let m = g.met.F.Feed in
    let old = c.args.bits.now in
    let new = c.fill_bits.new.bits in
    let n : length c.deref_mut.result.now ≡ c.args.count = c.deref_mut.ensures.len ∙ c.in_ok-resize.ensures.len in
    let p = err_from_is_err_and c.from_residual-in_err-fill_bits.result c.from_residual-in_err-fill_bits.ensures.1 in
    rw (p.1, p.2) (Draws-fault f.rest f.fed f.fault_count plan m.fed_lost m.fed_nothing m.fed_joined c.args.feed.now c.fill_bits.new.feed
    (BitsGoOn old new) (ValuesGoOn plan.dictionary_size (reader.Bits old) (reader.Bits new))
    (BitsBreak old (length c.deref_mut.result.now)) (ValuesBreak plan.dictionary_size c.args.count (reader.Bits old)) c.in_err-fill_bits.field-0.0
    (λ b fault tells breaks. bits_break plan.dictionary_size c.args.count old b fault (subst (λ (k : ℕ). BitsBreak old k b fault) n breaks))
    (c.in_err-fill_bits.ensures.draws plan differ on.0 on.1))

pub returns-clause-draws : goal.returns-clause-draws
returns-clause-draws g c = λ plan differ on.
    let f = g.F.Feed in
    let m = g.met.F.Feed in
    let old = c.args.bits.now in
    let new = c.fill_bits.new.bits in
    let some : List Bool = c.fill_bits.new.values in
    let n : length c.deref_mut.result.now ≡ c.args.count = c.deref_mut.ensures.len ∙ c.in_ok-resize.ensures.len in
    let filled : length some ≡ c.resize.new.self.len = c.fill_bits.auto.values ∙ c.deref_mut.ensures.len in
    let kind : Bool → Value = λ (b : Bool). value.Bool b in
    Draws-ok f.rest f.fed f.fault_count plan m.fed_lost m.fed_nothing m.fed_joined c.args.feed.now c.fill_bits.new.feed
    (BitsGoOn old new) (ValuesGoOn plan.dictionary_size (reader.Bits old) (reader.Bits new))
    (BitsBreak old (length c.deref_mut.result.now)) (ValuesBreak plan.dictionary_size c.args.count (reader.Bits old)) some _
    (λ b a tells goes. bits_go plan.dictionary_size old new b a some _ (filled_values kind c.resize.new.self some filled) goes)
    (c.in_ok-fill_bits.ensures.draws plan differ on.0 on.1)

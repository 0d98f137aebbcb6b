use Rattle.std.proofs.Common.{◌≡◌, ℕ, Bool, List, length, Ok, Err, sym, ◌∙◌, ap, subst, arith}
use Rattle.std.specs.Prelude.{All}
use Rattle.std.proofs.lemmas.List.{with_items_is}
use Rattle.std.proofs.lemmas.Result.{err_from_is_err_and}
use Rattle.orc_values.specs.declared.value.Value.{Value}
use Rattle.orc_columns.specs.declared.fault.ColumnFault.TheVariants.{NoMemory}
use Rattle.orc_values.specs.Column.{column_of, entries_in}
use Rattle.orc_values.specs.Woven.{present_count}
use Rattle.orc_values.specs.WovenLaws.{present_count-le}
use Rattle.orc_values.specs.declared.column_values.ColumnValues.{ColumnValues}
use Rattle.orc_columns.specs.Batches.{IsOfKind, FlagsGoOn, FlagsBreak, ValuesGoOn, ValuesBreak}
use Rattle.orc_columns.specs.Draws.{Draws}
use Rattle.orc_columns.specs.Reader.{whole_reader, RowsGoOn, RowsFail}
use Rattle.orc_columns.proofs.Drawing.{Draws-fault, Draws-front, Draws-refused}
use Rattle.orc_columns.proofs.KindsOf.{rows_of_kind}
use Rattle.orc_columns.proofs.ReadingRows.{flags_fail, batch_ok, batch_fault}
use Rattle.orc_values.specs.ColumnLaws.{length-column_of}
use Rattle.orc_columns.specs.Midway.{spelling_in}
use Rattle.orc_columns.specs.Turns.{alone, value_streams}
use Rattle.orc_columns.proofs.column_reader.fill_rows.Goals as goal

pub returns-in_err-resize-clause-draws : goal.returns-in_err-resize-clause-draws
returns-in_err-resize-clause-draws g c = λ plan differ on.
    let f = g.F.Feed in
    let m = g.met.F.Feed in
    let p = err_from_is_err_and c.from_residual.result c.from_residual.ensures.1 in
    rw (p.1, p.2) (Draws-refused f.rest f.fed f.fault_count plan m.fed_lost m.fed_nothing m.fed_joined c.args.feed.now _ _ NoMemory (λ no. no) (λ s t. tt))

pub returns-in_err-fill_flags-clause-draws : goal.returns-in_err-fill_flags-clause-draws
returns-in_err-fill_flags-clause-draws g c = λ plan differ on.
    let f = g.F.Feed in
    let m = g.met.F.Feed in
    let old = c.args.present.now in
    let new = c.fill_flags.new.present in
    let ov = c.args.values.now in
    let n : length c.deref_mut.result.now ≡ c.args.rows = c.deref_mut.ensures.len ∙ c.in_ok-resize.ensures.len in
    let p = err_from_is_err_and c.from_residual-in_err-fill_flags.result c.from_residual-in_err-fill_flags.ensures.1 in
    rw (p.1, p.2) (Draws-front f.rest f.fed f.fault_count plan m.fed_lost m.fed_nothing m.fed_joined (value_streams plan (spelling_in ov)) c.args.feed.now c.fill_flags.new.feed
    (RowsGoOn (whole_reader plan old ov) (whole_reader plan new ov)) (RowsFail (whole_reader plan old ov) c.args.rows) (Err c.in_err-fill_flags.field-0.0)
    (Draws-fault f.rest f.fed f.fault_count plan m.fed_lost m.fed_nothing m.fed_joined c.args.feed.now c.fill_flags.new.feed
    (FlagsGoOn old new) (RowsGoOn (whole_reader plan old ov) (whole_reader plan new ov)) (FlagsBreak old (length c.deref_mut.result.now)) (RowsFail (whole_reader plan old ov) c.args.rows) c.in_err-fill_flags.field-0.0
    (λ b fault tells breaks. flags_fail plan old new ov ov c.args.rows b fault (subst (λ (k : ℕ). FlagsBreak old k b fault) n breaks))
    (c.in_err-fill_flags.ensures.draws plan differ on.on on.fresh)))

pub fill-requires : goal.fill-requires
fill-requires g c =
    let flags : List Bool = c.fill_flags.new.flags in
    let len : length flags ≡ c.resize.new.self.len = c.fill_flags.auto.flags ∙ c.deref_mut.ensures.len in
    let same : c.deref.result.now ≡ flags = c.deref.ensures.value ∙ with_items_is c.resize.new.self flags len in
    let all : length c.deref.result.now ≡ c.args.rows = ap length same ∙ len ∙ c.in_ok-resize.ensures.len in
    record { few = omega (arith, c.count_present-count.ensures, present_count-le c.deref.result.now, all, c.requires) }

pub returns-in_err-typed-clause-draws : goal.returns-in_err-typed-clause-draws
returns-in_err-typed-clause-draws g c = λ plan differ on.
    let f = g.F.Feed in
    let m = g.met.F.Feed in
    let old = c.args.present.now in
    let new = c.fill_flags.new.present in
    let n : length c.deref_mut.result.now ≡ c.args.rows = c.deref_mut.ensures.len ∙ c.in_ok-resize.ensures.len in
    let flags : List Bool = c.fill_flags.new.flags in
    let len : length flags ≡ c.resize.new.self.len = c.fill_flags.auto.flags ∙ c.deref_mut.ensures.len in
    let same : c.deref.result.now ≡ flags = c.deref.ensures.value ∙ with_items_is c.resize.new.self flags len in
    let p = err_from_is_err_and c.from_residual-in_err-typed.result c.from_residual-in_err-typed.ensures.1 in
    rw (p.1, p.2) (batch_fault f.rest f.fed f.fault_count plan m.fed_lost m.fed_nothing m.fed_joined old new c.args.values.now c.fill.new.self c.args.rows c.args.feed.now c.fill_flags.new.feed c.fill.new.feed
    flags c.deref.result.now same c.in_err-typed.field-0.0 (ap length same ∙ c.fill_flags.auto.flags ∙ n)
    (subst (λ (k : ℕ). Draws f.rest f.fed f.fault_count plan (alone plan.present) c.args.feed.now c.fill_flags.new.feed (FlagsGoOn old new) (FlagsBreak old k) (Ok flags)) n (c.in_ok-fill_flags.ensures.draws plan differ on.on on.fresh))
    (subst (λ (k : ℕ). Draws {Y = ColumnValues} f.rest f.fed f.fault_count plan (value_streams plan (spelling_in c.args.values.now)) c.fill_flags.new.feed c.fill.new.feed (ValuesGoOn plan.dictionary_size c.args.values.now c.fill.new.self) (ValuesBreak plan.dictionary_size k c.args.values.now) (Err c.in_err-typed.field-0.0))
    c.count_present-count.ensures (c.in_err-typed.ensures.draws plan differ on.reads)))

pub returns-clause-ready : goal.returns-clause-ready
returns-clause-ready g c = λ plan on. record {
  on = c.fill_flags.ensures.stream ∙ on.on;
  fresh = c.in_ok-fill_flags.ensures.whole on.fresh;
  reads = c.in_ok-typed.ensures.ready plan on.reads;
}

pub returns-clause-rows : goal.returns-clause-rows
returns-clause-rows g c =
    let flags : List Bool = c.fill_flags.new.flags in
    let len : length flags ≡ c.resize.new.self.len = c.fill_flags.auto.flags ∙ c.deref_mut.ensures.len in
    let same : c.deref.result.now ≡ flags = c.deref.ensures.value ∙ with_items_is c.resize.new.self flags len in
    let made : c.new.result ≡ column_of c.deref.result.now c.in_ok-typed.typed = c.new.ensures ∙ ap (λ (l : List Bool). column_of l c.in_ok-typed.typed) (sym c.deref.ensures.value) in
    ap length made ∙ length-column_of c.deref.result.now c.in_ok-typed.typed ∙ ap length same ∙ len ∙ c.in_ok-resize.ensures.len

pub returns-clause-kinds : goal.returns-clause-kinds
returns-clause-kinds g c = λ plan spelled.
    let made : c.new.result ≡ column_of c.deref.result.now c.in_ok-typed.typed = c.new.ensures ∙ ap (λ (l : List Bool). column_of l c.in_ok-typed.typed) (sym c.deref.ensures.value) in
    subst (λ (l : List Value). All (IsOfKind plan.kind) l) (sym made) (rows_of_kind plan.kind plan.encoding _ c.deref.result.now c.in_ok-typed.typed spelled c.in_ok-typed.ensures.typed)

pub returns-clause-draws : goal.returns-clause-draws
returns-clause-draws g c = λ plan differ on.
    let f = g.F.Feed in
    let m = g.met.F.Feed in
    let old = c.args.present.now in
    let new = c.fill_flags.new.present in
    let n : length c.deref_mut.result.now ≡ c.args.rows = c.deref_mut.ensures.len ∙ c.in_ok-resize.ensures.len in
    let flags : List Bool = c.fill_flags.new.flags in
    let len : length flags ≡ c.resize.new.self.len = c.fill_flags.auto.flags ∙ c.deref_mut.ensures.len in
    let same : c.deref.result.now ≡ flags = c.deref.ensures.value ∙ with_items_is c.resize.new.self flags len in
    let made : c.new.result ≡ column_of c.deref.result.now c.in_ok-typed.typed = c.new.ensures ∙ ap (λ (l : List Bool). column_of l c.in_ok-typed.typed) (sym c.deref.ensures.value) in
    let counted : entries_in c.in_ok-typed.typed ≡ present_count c.deref.result.now = c.in_ok-typed.ensures.count ∙ c.count_present-count.ensures in
    batch_ok f.rest f.fed f.fault_count plan m.fed_lost m.fed_nothing m.fed_joined old new c.args.values.now c.fill.new.self c.args.rows c.args.feed.now c.fill_flags.new.feed c.fill.new.feed
    flags c.deref.result.now same c.in_ok-typed.typed c.new.result c.fill.ensures.spelling counted made
    (subst (λ (k : ℕ). Draws f.rest f.fed f.fault_count plan (alone plan.present) c.args.feed.now c.fill_flags.new.feed (FlagsGoOn old new) (FlagsBreak old k) (Ok flags)) n (c.in_ok-fill_flags.ensures.draws plan differ on.on on.fresh))
    (subst (λ (k : ℕ). Draws f.rest f.fed f.fault_count plan (value_streams plan (spelling_in c.args.values.now)) c.fill_flags.new.feed c.fill.new.feed (ValuesGoOn plan.dictionary_size c.args.values.now c.fill.new.self) (ValuesBreak plan.dictionary_size k c.args.values.now) (Ok c.in_ok-typed.typed))
    c.count_present-count.ensures (c.in_ok-typed.ensures.draws plan differ on.reads))

use Rattle.std.proofs.Common.{◌≡◌, ◌∙◌, ℕ, List, [], length, map, take, unsigned_abs, Err, ℤ, ap, arith}
use Rattle.std.proofs.lemmas.List.{length-map, length-take-le, with_items_is}
use Rattle.std.specs.Vec.{with_items}
use Rattle.orc_values.specs.Texts.{slices}
use Rattle.orc_values.specs.TextsLaws.{length-slices}
use Rattle.std.proofs.lemmas.Result.{err_from_is_err_and}
use Rattle.orc_values.specs.declared.value.Value.{Value}
use Rattle.orc_values.specs.declared.value.Value.TheVariants as value
use Rattle.orc_columns.specs.declared.fault.ColumnFault.TheVariants.{NoMemory}
use Rattle.orc_columns.specs.Turns.{alone}
use Rattle.orc_columns.specs.Batches.{LengthsGoOn, LengthsRefuse, ValuesGoOn, ValuesBreak}
use Rattle.orc_columns.proofs.Drawing.{Draws-fault, Draws-front, Draws-refused}
use Rattle.orc_columns.proofs.TextRows.{reader_of, texts_refuse, texts_ok, texts_fault}
use Rattle.orc_columns.proofs.text_reader.next_texts.Goals as goal

pub returns-in_err-resize-clause-draws : goal.returns-in_err-resize-clause-draws
returns-in_err-resize-clause-draws g c = λ plan differ on.
    let f = g.F.Feed in
    let m = g.met.F.Feed in
    let p = err_from_is_err_and c.from_residual.result c.from_residual.ensures.1 in
    rw (p.1, p.2) (Draws-refused f.rest f.fed f.fault_count plan m.fed_lost m.fed_nothing m.fed_joined c.args.feed.now _ _ NoMemory (λ no. no) (λ s t. tt))

pub returns-in_err-resize-2-clause-draws : goal.returns-in_err-resize-2-clause-draws
returns-in_err-resize-2-clause-draws g c = λ plan differ on.
    let f = g.F.Feed in
    let m = g.met.F.Feed in
    let p = err_from_is_err_and c.from_residual-in_err-resize-2.result c.from_residual-in_err-resize-2.ensures.1 in
    rw (p.1, p.2) (Draws-refused f.rest f.fed f.fault_count plan m.fed_lost m.fed_nothing m.fed_joined c.args.feed.now _ _ NoMemory (λ no. no) (λ s t. tt))

pub next_lengths-requires : goal.next_lengths-requires
next_lengths-requires g c = omega (arith, c.requires, c.deref_mut.ensures.len, c.in_ok-resize-2.ensures.len)

pub split_at-requires : goal.split_at-requires
split_at-requires g c =
    let own : length c.next_lengths.new.entries ≡ c.resize-2.new.self.len = c.next_lengths.ensures.len ∙ c.deref_mut.ensures.len in
    let whole : length c.deref.result.now ≡ length c.next_lengths.new.entries = ap length (c.deref.ensures.value ∙ with_items_is c.resize-2.new.self c.next_lengths.new.entries own) in
    omega (arith, c.requires, whole, own, c.in_ok-resize-2.ensures.len)

pub returns-in_err-total-clause-draws : goal.returns-in_err-total-clause-draws
returns-in_err-total-clause-draws g c = λ plan differ on.
    let f = g.F.Feed in
    let m = g.met.F.Feed in
    let t = c.args.texts.now in
    let old = t.lengths in
    let new = c.next_lengths.new.lengths in
    let n = c.args.count in
    let kept = with_items c.resize-2.new.self c.next_lengths.new.entries in
    let size = plan.dictionary_size in
    let p = err_from_is_err_and c.from_residual-in_err-total.result c.from_residual-in_err-total.ensures.1 in
    rw (p.1, p.2) (Draws-front f.rest f.fed f.fault_count plan m.fed_lost m.fed_nothing m.fed_joined (alone plan.body) c.args.feed.now c.next_lengths.new.feed
    (ValuesGoOn size (reader_of old t.«data» t.left t.memory) (reader_of new t.«data» t.left kept)) (ValuesBreak size n (reader_of old t.«data» t.left t.memory)) (Err c.in_err-total.field-0.0)
    (Draws-fault f.rest f.fed f.fault_count plan m.fed_lost m.fed_nothing m.fed_joined c.args.feed.now c.next_lengths.new.feed
    (LengthsGoOn old new) (ValuesGoOn size (reader_of old t.«data» t.left t.memory) (reader_of new t.«data» t.left kept))
    (LengthsRefuse old n t.left) (ValuesBreak size n (reader_of old t.«data» t.left t.memory)) c.in_err-total.field-0.0
    (λ b fault tells refuse. texts_refuse size n old new t.«data» t.left 0 t.memory t.memory [] on.1 b fault refuse)
    (c.in_err-total.ensures.draws plan differ on.0 on.1 on.2)))

pub returns-in_err-read_bytes-clause-draws : goal.returns-in_err-read_bytes-clause-draws
returns-in_err-read_bytes-clause-draws g c = λ plan differ on.
    let f = g.F.Feed in
    let m = g.met.F.Feed in
    let t = c.args.texts.now in
    let n = c.args.count in
    let numbers : List ℤ = take n c.next_lengths.new.entries in
    let p = err_from_is_err_and c.from_residual-in_err-read_bytes.result c.from_residual-in_err-read_bytes.ensures.1 in
    rw (p.1, p.2) (texts_fault plan.dictionary_size n t.lengths c.next_lengths.new.lengths t.«data» t.left c.in_ok-total.total t.memory t.memory numbers on.1
    f.rest f.fed f.fault_count plan m.fed_lost m.fed_nothing m.fed_joined c.args.feed.now c.next_lengths.new.feed c.read_bytes.new.feed c.in_ok-total.ensures.total
    _ c.in_err-read_bytes.field-0.0 (c.in_ok-total.ensures.draws plan differ on.0 on.1 on.2) (c.in_err-read_bytes.ensures.body plan differ on.3))

pub returns-clause-count : goal.returns-clause-count
returns-clause-count g c =
    let entries : List ℤ = c.next_lengths.new.entries in
    let numbers : List ℤ = c.split_at.result.0.now in
    let own : length entries ≡ c.resize-2.new.self.len = c.next_lengths.ensures.len ∙ c.deref_mut.ensures.len in
    let made : length entries ≡ 1024 = own ∙ c.in_ok-resize-2.ensures.len in
    let front : numbers ≡ take c.args.count entries = c.split_at.ensures.front ∙ ap (λ (l : List ℤ). take c.args.count l) (c.deref.ensures.value ∙ with_items_is c.resize-2.new.self entries own) in
    let len : length numbers ≡ c.args.count = ap length front ∙ length-take-le c.args.count entries (omega (arith, c.requires, made)) in
    rw c.laid_texts.ensures (length-slices 0 (map unsigned_abs numbers) c.read_bytes.new.bytes.items ∙ length-map numbers unsigned_abs ∙ len)

pub returns-clause-draws : goal.returns-clause-draws
returns-clause-draws g c = λ plan differ on.
    let f = g.F.Feed in
    let m = g.met.F.Feed in
    let t = c.args.texts.now in
    let n = c.args.count in
    let entries : List ℤ = c.next_lengths.new.entries in
    let numbers : List ℤ = take n entries in
    let own : length entries ≡ c.resize-2.new.self.len = c.next_lengths.ensures.len ∙ c.deref_mut.ensures.len in
    let made : length entries ≡ 1024 = own ∙ c.in_ok-resize-2.ensures.len in
    let len : length numbers ≡ n = length-take-le n entries (omega (arith, c.requires, made)) in
    let front : c.split_at.result.0.now ≡ numbers = c.split_at.ensures.front ∙ ap (λ (l : List ℤ). take n l) (c.deref.ensures.value ∙ with_items_is c.resize-2.new.self entries own) in
    let kind : List ℕ → Value = λ (t : List ℕ). value.Text t in
    let laid : List (List ℕ) = slices 0 (map unsigned_abs numbers) c.read_bytes.new.bytes.items in
    let texts_are : c.laid_texts.result ≡ laid = c.laid_texts.ensures ∙ ap (λ (l : List ℤ). slices 0 (map unsigned_abs l) c.read_bytes.new.bytes.items) front in
    texts_ok plan.dictionary_size n t.lengths c.next_lengths.new.lengths t.«data» t.left c.in_ok-total.total t.memory _ numbers on.1
    f.rest f.fed f.fault_count plan m.fed_lost m.fed_nothing m.fed_joined c.args.feed.now c.next_lengths.new.feed c.read_bytes.new.feed c.in_ok-total.ensures.total
    c.read_bytes.new.bytes.items _ c.next_lengths.ensures.version len (ap (map kind) texts_are) (c.in_ok-total.ensures.draws plan differ on.0 on.1 on.2) (c.in_ok-read_bytes.ensures.body plan differ on.3)

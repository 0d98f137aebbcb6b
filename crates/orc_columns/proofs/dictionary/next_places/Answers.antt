use Rattle.std.proofs.Common.{◌≡◌, ℕ, ◌<◌, List, length, map, take, ℤ, ◌∙◌, ap, subst, arith}
use Rattle.std.specs.Prelude.{All}
use Rattle.std.proofs.lemmas.List.{length-take-le}
use Rattle.std.proofs.lemmas.Result.{err_from_is_err_and}
use Rattle.orc_values.specs.declared.value.Value.{Value}
use Rattle.orc_values.specs.declared.value.Value.TheVariants as value
use Rattle.orc_columns.specs.declared.fault.ColumnFault.TheVariants.{NoMemory}
use Rattle.orc_columns.specs.Column.{places_of}
use Rattle.orc_values.specs.Chosen.{chosen}
use Rattle.orc_columns.specs.Entries.{IsOutOf}
use Rattle.orc_columns.proofs.Drawing.{Draws-refused}
use Rattle.orc_columns.proofs.PlaceRows.{length-chosen, places_ok, places_fault, places_out}
use Rattle.orc_columns.proofs.ValueBatches.{filled_items}
use Rattle.orc_columns.proofs.dictionary.next_places.Goals as goal

pub returns-in_err-resize-clause-draws : goal.returns-in_err-resize-clause-draws
returns-in_err-resize-clause-draws g c = λ plan differ on.
    let f = g.F.Feed in
    let m = g.met.F.Feed in
    let p = err_from_is_err_and c.from_residual.result c.from_residual.ensures.1 in
    rw (p.1, p.2) (Draws-refused f.rest f.fed f.fault_count plan m.fed_lost m.fed_nothing m.fed_joined c.args.feed.now _ _ NoMemory (λ no. no) (λ s t. tt))

pub fill_numbers-requires : goal.fill_numbers-requires
fill_numbers-requires g c = omega (arith, c.deref_mut.ensures.len, c.in_ok-resize.ensures.len)

pub returns-in_err-fill_numbers-clause-draws : goal.returns-in_err-fill_numbers-clause-draws
returns-in_err-fill_numbers-clause-draws g c = λ plan differ on.
    let f = g.F.Feed in
    let m = g.met.F.Feed in
    let d = c.args.dictionary.now in
    let p = err_from_is_err_and c.from_residual-in_err-fill_numbers.result c.from_residual-in_err-fill_numbers.ensures.1 in
    rw (p.1, p.2) (places_fault plan.dictionary_size c.args.count d.entries d.places c.fill_numbers.new.integers on.1
    f.rest f.fed f.fault_count plan m.fed_lost m.fed_nothing m.fed_joined c.args.feed.now c.fill_numbers.new.feed c.in_err-fill_numbers.field-0.0 (c.in_err-fill_numbers.ensures.draws plan differ on.0 on.2))

pub returns-in_err-texts-clause-draws : goal.returns-in_err-texts-clause-draws
returns-in_err-texts-clause-draws g c = λ plan differ on.
    let f = g.F.Feed in
    let m = g.met.F.Feed in
    let d = c.args.dictionary.now in
    let n = c.args.count in
    let entries : List ℤ = c.fill_numbers.new.entries in
    let filled : length entries ≡ c.resize.new.self.len = c.fill_numbers.ensures.len ∙ c.deref_mut.ensures.len in
    let len : length (take n entries) ≡ n = length-take-le n entries (omega (arith, filled, c.in_ok-resize.ensures.len)) in
    let is : IsOutOf d.entries (take n entries) c.in_err-texts.field-0.0 = subst (λ (l : List ℤ). IsOutOf d.entries l c.in_err-texts.field-0.0) (filled_items n c.resize.new.self entries filled c.in_ok-resize.ensures.len) c.in_err-texts.ensures.refused in
    let p = err_from_is_err_and c.from_residual-in_err-texts.result c.from_residual-in_err-texts.ensures.1 in
    rw (p.1, p.2) (places_out plan.dictionary_size n d.entries d.places c.fill_numbers.new.integers on.1
    f.rest f.fed f.fault_count plan m.fed_lost m.fed_nothing m.fed_joined c.args.feed.now c.fill_numbers.new.feed (take n entries) c.in_err-texts.field-0.0 len is (c.in_ok-fill_numbers.ensures.draws plan differ on.0 on.2))

pub returns-clause-count : goal.returns-clause-count
returns-clause-count g c =
    let n = c.args.count in
    let entries : List ℤ = c.fill_numbers.new.entries in
    let filled : length entries ≡ c.resize.new.self.len = c.fill_numbers.ensures.len ∙ c.deref_mut.ensures.len in
    let len : length (take n entries) ≡ n = length-take-le n entries (omega (arith, filled, c.in_ok-resize.ensures.len)) in
    let items = filled_items n c.resize.new.self entries filled c.in_ok-resize.ensures.len in
    rw c.in_ok-texts.ensures.texts (length-chosen c.args.dictionary.now.entries _ ∙ ap length items ∙ len)

pub returns-clause-draws : goal.returns-clause-draws
returns-clause-draws g c = λ plan differ on.
    let f = g.F.Feed in
    let m = g.met.F.Feed in
    let d = c.args.dictionary.now in
    let n = c.args.count in
    let entries : List ℤ = c.fill_numbers.new.entries in
    let numbers : List ℤ = take n entries in
    let filled : length entries ≡ c.resize.new.self.len = c.fill_numbers.ensures.len ∙ c.deref_mut.ensures.len in
    let len : length numbers ≡ n = length-take-le n entries (omega (arith, filled, c.in_ok-resize.ensures.len)) in
    let items = filled_items n c.resize.new.self entries filled c.in_ok-resize.ensures.len in
    let kind : List ℕ → Value = λ (t : List ℕ). value.Text t in
    let below : All (λ place. place < length d.entries) (places_of numbers) = subst (λ (l : List ℤ). All (λ place. place < length d.entries) (places_of l)) items c.in_ok-texts.ensures.below in
    let texts : c.in_ok-texts.texts ≡ chosen d.entries (places_of numbers) = c.in_ok-texts.ensures.texts ∙ ap (λ (l : List ℤ). chosen d.entries (places_of l)) items in
    places_ok plan.dictionary_size n d.entries d.places c.fill_numbers.new.integers on.1
    f.rest f.fed f.fault_count plan m.fed_lost m.fed_nothing m.fed_joined c.args.feed.now c.fill_numbers.new.feed numbers _ c.fill_numbers.ensures.version len below (ap (map kind) texts) (c.in_ok-fill_numbers.ensures.draws plan differ on.0 on.2)

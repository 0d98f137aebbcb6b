use Rattle.std.proofs.Common.{rules, ◌≡◌, ◌∙◌, ℕ, List, length, drop, replicate, sym, ap}
use Rattle.std.proofs.lemmas.Result.{on_ok_weaker}
use Rattle.std.proofs.lemmas.List.{length-replicate, take_at}
use Rattle.orc_values.specs.declared.column_values.ColumnValues.TheVariants as list
use Rattle.orc_values.specs.Column.{column_of}
use Rattle.orc_values.specs.Chosen.{places_of, chosen}
use Rattle.group_counts.specs.Order.{value_cmp}
use Rattle.group_counts.specs.Tally.{added_all}
use Rattle.group_counts.specs.Entries.{Entries}
use Rattle.group_counts.specs.EntryCounts.{entry_counts, flagged}
use Rattle.group_counts.proofs.ByEntry.{none-counted}
use Rattle.group_counts.proofs.counts.Counts.add_chosen.Goals as goal

pub returns : goal.returns
returns c =
    let entries = c.parts.result.0.now in
    let start = c.args.self.now in
    let rows = flagged c.args.mask.now in
    let none : c.deref_mut.result.now ≡ replicate c.len.result 0 = search rules in
    let counts = c.count_rows-nulls.new.counts in
    let texts = chosen entries (places_of c.parts.result.1.now) in
    let full : length counts ≡ c.in-Ok.counts.len = c.count_rows-nulls.ensures.long ∙ c.deref_mut.ensures.len in
    let all : c.deref.result.now ≡ counts = c.deref.ensures.value ∙ take_at counts (drop (length counts) c.in-Ok.counts.items) c.in-Ok.counts.len full in
    let long : length entries ≡ length c.deref_mut.result.now = sym (ap length none ∙ length-replicate c.len.result 0 ∙ c.len.ensures) in
    on_ok_weaker c.add_entries.result (λ e. e
    ∙ ap (λ (l : List ℕ). added_all value_cmp c.add_counted.new.self (entry_counts entries l)) all
    ∙ ap (λ (s : Entries). added_all value_cmp s (entry_counts entries counts)) c.in_ok-add_counted.ensures
    ∙ c.count_rows-nulls.ensures.counted entries long start
    ∙ ap (λ (l : List ℕ). added_all value_cmp (added_all value_cmp start (entry_counts entries l)) (rows (column_of c.args.present.now (list.Chosen texts)))) none
    ∙ ap (λ (l : Entries). added_all value_cmp (added_all value_cmp start l) (rows (column_of c.args.present.now (list.Chosen texts)))) (none-counted entries c.len.result)
    ∙ ap (λ (l : List (List ℕ)). added_all value_cmp start (rows (column_of c.args.present.now (list.Chosen l)))) c.parts.ensures.texts) c.add_entries.ensures

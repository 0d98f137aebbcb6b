use Rattle.std.proofs.Common.{rules, ◌∙◌, sym, ap, ℕ, List}
use Rattle.std.specs.Ordering.{nat_cmp, is_eq}
use Rattle.std.specs.Cmp.Lexicographic.{slice_cmp, nat_list_cmp_total}
use Rattle.std.specs.BTreeMap.{insert_entry}
use Rattle.std.specs.Map.{set_value}
use Rattle.group_counts.specs.Entries.{by_bytes}
use Rattle.group_counts.proofs.Adding.{added-absent, added-present, renamed-insert, renamed-set, renamed-lookup, renamed-sorted}
use Rattle.group_counts.proofs.maps.add_text.Goals.{in-Ok-insert, in-Err}
use Rattle.group_counts.proofs.maps.add_text.Goals as goal

pub returns-in-Some : goal.returns-in-Some
returns-in-Some c =
    let old = c.args.counts.now.entries in
    let text = c.args.text.now in
    ap by_bytes (c.get_mut.follows.holds c.saturating_add.result).0
    ∙ renamed-set (λ k. k.items) (slice_cmp nat_cmp) (λ b. is_eq (slice_cmp nat_cmp text b)) old c.saturating_add.result
    ∙ ap (λ (n : ℕ). set_value (λ b. is_eq (slice_cmp nat_cmp text b)) (by_bytes old) n) c.saturating_add.ensures
    ∙ added-present (slice_cmp nat_cmp) nat_list_cmp_total (by_bytes old) text c.args.more c.in-Some.count.now (renamed-sorted (λ k. k.items) (slice_cmp nat_cmp) old c.in-Some.ensures.ordered)
    (sym (renamed-lookup (λ k. k.items) (slice_cmp nat_cmp) (λ b. is_eq (slice_cmp nat_cmp text b)) old) ∙ sym c.in-Some.ensures.value)

pub returns-after-insert : goal.returns-after-insert
returns-after-insert c = elim c.match-insert.branch [
  | in-Ok-insert w ↦ rw w.result-is (
      ap by_bytes w.in-Ok-insert.ensures.entries
      ∙ ap (λ m. by_bytes (insert_entry (λ a b. slice_cmp nat_cmp a.items b.items) m.entries c.in-Ok.key c.args.more)) c.get_mut.follows.holds-at-none
      ∙ renamed-insert (λ k. k.items) (slice_cmp nat_cmp) c.args.counts.now.entries c.in-Ok.key c.args.more
      ∙ ap (λ (t : List ℕ). insert_entry (slice_cmp nat_cmp) (by_bytes c.args.counts.now.entries) t c.args.more) c.in-Ok.ensures.items
      ∙ added-absent (slice_cmp nat_cmp) (by_bytes c.args.counts.now.entries) c.args.text.now c.args.more
      (sym (renamed-lookup (λ k. k.items) (slice_cmp nat_cmp) (λ b. is_eq (slice_cmp nat_cmp c.args.text.now b)) c.args.counts.now.entries) ∙ sym c.in-None.ensures.value))
  | in-Err w ↦ rw w.result-is (search rules)
]

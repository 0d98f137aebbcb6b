use Rattle.std.proofs.Common.{◌≡◌, ◌∙◌, ◌<◌, ◌≤◌, ◌-◌, ◌^◌, ◌+◌, ℕ, List, length, get_or, drop, false, if◌then◌else◌, subst, refl, sym, ap, arith}
use Rattle.std.specs.Prelude.{All}
use Rattle.std.proofs.lemmas.List.{length-set}
use Rattle.std.proofs.lemmas.List.Elements.{All-get_or}
use Rattle.orc_values.specs.declared.value.Value.TheVariants as value
use Rattle.orc_values.specs.Chosen.{places_of, chosen}
use Rattle.group_counts.specs.Order.{value_cmp}
use Rattle.group_counts.specs.Tally.{added_all}
use Rattle.group_counts.specs.Slots.{counted}
use Rattle.group_counts.specs.EntryCounts.{entry_counts, flagged}
use Rattle.group_counts.proofs.ByEntry.{place-below, few-more, few-later, null-row, some-row, number-left, numbers-left, rows_of}
use Rattle.group_counts.proofs.entry_counts.count_some.Goals as goal

pub loop-row-preserved-then-not-present-row : goal.loop-row-preserved-then-not-present-row
loop-row-preserved-then-not-present-row c =
    let l = c.loop-row in
    let present = c.args.present.now in
    let flags = c.args.mask.now in
    let row : l.row < length present = omega (arith, c.requires.rows, c.loop-row-test.true) in
    let one : c.from-nulls.result ≡ (if get_or flags l.row false then 1 else 0) = grind (arith, c.from-nulls.ensures) in
    let many : c.from-nulls.result ≤ 1 = grind (arith, one) in
    let few : l.nulls < 2 ^ 64 - 1 = omega (arith, l.invariant.nulls, c.loop-row-test.true) in
    record {
      long = l.invariant.long;
      few = few-later l.counts l.row l.invariant.few;
      nulls = omega (arith, l.invariant.nulls, many);
      before = l.invariant.before;
      left = numbers-left present l.row row c.if-not-present-row.true ∙ l.invariant.left;
      counted = λ texts len es.
          null-row present flags (drop l.before (chosen texts (places_of c.args.numbers.now))) l.row l.nulls (l.nulls + c.from-nulls.result) c.requires.rows c.loop-row-test.true c.if-not-present-row.true
          few (ap (λ (n : ℕ). l.nulls + n) one) es (entry_counts texts l.counts)
          ∙ l.invariant.counted texts len es;
    }

pub entry_at-requires : goal.entry_at-requires
entry_at-requires c =
    let l = c.loop-row in
    let row : l.row < length c.args.present.now = omega (arith, c.requires.rows, c.loop-row-test.true) in
    (number-left c.args.present.now l.row l.before (length c.args.numbers.now) row c.if-not-present-row.false l.invariant.left l.invariant.before).0

pub count_entry-requires-clause-entry : goal.count_entry-requires-clause-entry
count_entry-requires-clause-entry c =
    let l = c.loop-row in
    let row : l.row < length c.args.present.now = omega (arith, c.requires.rows, c.loop-row-test.true) in
    let left = number-left c.args.present.now l.row l.before (length c.args.numbers.now) row c.if-not-present-row.false l.invariant.left l.invariant.before in
    omega (arith, l.invariant.long, c.entry_at.ensures, place-below (length c.args.counts.now) c.args.numbers.now l.before c.requires.within left.0)

pub count_entry-requires-clause-few : goal.count_entry-requires-clause-few
count_entry-requires-clause-few c =
    let l = c.loop-row in
    let row : l.row < length c.args.present.now = omega (arith, c.requires.rows, c.loop-row-test.true) in
    let left = number-left c.args.present.now l.row l.before (length c.args.numbers.now) row c.if-not-present-row.false l.invariant.left l.invariant.before in
    let below : c.entry_at.result < length l.counts = omega (arith, l.invariant.long, c.entry_at.ensures, place-below (length c.args.counts.now) c.args.numbers.now l.before c.requires.within left.0) in
    let here : get_or l.counts c.entry_at.result 0 ≤ l.row = All-get_or (λ (count : ℕ). count ≤ l.row) l.counts c.entry_at.result 0 below l.invariant.few in
    omega (arith, here, c.loop-row-test.true)

pub loop-row-preserved : goal.loop-row-preserved
loop-row-preserved c =
    let l = c.loop-row in
    let present = c.args.present.now in
    let numbers = c.args.numbers.now in
    let flags = c.args.mask.now in
    let place = c.entry_at.result in
    let row : l.row < length present = omega (arith, c.requires.rows, c.loop-row-test.true) in
    let left = number-left present l.row l.before (length numbers) row c.if-not-present-row.false l.invariant.left l.invariant.before in
    let below : place < length l.counts = omega (arith, l.invariant.long, c.entry_at.ensures, place-below (length c.args.counts.now) numbers l.before c.requires.within left.0) in
    let here : get_or l.counts place 0 ≤ l.row = All-get_or (λ (count : ℕ). count ≤ l.row) l.counts place 0 below l.invariant.few in
    let few : get_or l.counts place 0 < 2 ^ 64 - 1 = omega (arith, here, c.loop-row-test.true) in
    record {
      long = ap length c.count_entry.ensures ∙ length-set l.counts place _ ∙ l.invariant.long;
      few = subst (All (λ count. count ≤ l.row + 1)) (sym c.count_entry.ensures) (few-more l.counts l.row place _ l.invariant.few below);
      nulls = omega (arith, l.invariant.nulls);
      before = omega (arith, left.0);
      left = left.1;
      counted = λ texts len es.
          let start = added_all value_cmp es (counted value.Null l.nulls) in
          let all = chosen texts (places_of numbers) in
          ap (λ (counts : List ℕ). added_all value_cmp (added_all value_cmp start (entry_counts texts counts)) (flagged (drop (l.row + 1) flags) (rows_of (drop (l.row + 1) present) (drop (l.before + 1) all)))) c.count_entry.ensures
          ∙ some-row present flags texts l.counts numbers l.row l.before place _ c.requires.rows c.loop-row-test.true c.if-not-present-row.false left.0 c.entry_at.ensures below (len ∙ sym l.invariant.long) few refl start
          ∙ l.invariant.counted texts len es;
    }

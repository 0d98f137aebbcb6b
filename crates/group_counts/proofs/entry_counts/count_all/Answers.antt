use Rattle.std.proofs.Common.{◌∙◌, ◌<◌, ◌≤◌, ◌-◌, ◌^◌, ◌+◌, ℕ, List, length, get_or, drop, subst, refl, sym, ap, arith}
use Rattle.std.specs.Prelude.{All}
use Rattle.std.proofs.lemmas.List.{length-set}
use Rattle.std.proofs.lemmas.List.Elements.{All-get_or}
use Rattle.group_counts.specs.Order.{value_cmp}
use Rattle.group_counts.specs.Tally.{added_all}
use Rattle.group_counts.specs.EntryCounts.{entry_counts, flagged}
use Rattle.group_counts.proofs.ByEntry.{place-below, few-more, text-row, text_values}
use Rattle.group_counts.proofs.entry_counts.count_all.Goals as goal

pub count_entry-requires-clause-entry : goal.count_entry-requires-clause-entry
count_entry-requires-clause-entry c =
    let l = c.loop-row in
    omega (arith, l.invariant.long, c.entry_at.ensures, place-below (length c.args.counts.now) c.args.numbers.now l.row c.requires.within (omega (arith, c.requires.rows, c.loop-row-test.true)))

pub count_entry-requires-clause-few : goal.count_entry-requires-clause-few
count_entry-requires-clause-few c =
    let l = c.loop-row in
    let below : c.entry_at.result < length l.counts =
    omega (arith, l.invariant.long, c.entry_at.ensures, place-below (length c.args.counts.now) c.args.numbers.now l.row c.requires.within (omega (arith, c.requires.rows, c.loop-row-test.true))) in
    let here : get_or l.counts c.entry_at.result 0 ≤ l.row = All-get_or (λ (count : ℕ). count ≤ l.row) l.counts c.entry_at.result 0 below l.invariant.few in
    omega (arith, here, c.loop-row-test.true)

pub loop-row-preserved : goal.loop-row-preserved
loop-row-preserved c =
    let l = c.loop-row in
    let place = c.entry_at.result in
    let lt : l.row < length c.args.numbers.now = omega (arith, c.requires.rows, c.loop-row-test.true) in
    let below : place < length l.counts = omega (arith, l.invariant.long, c.entry_at.ensures, place-below (length c.args.counts.now) c.args.numbers.now l.row c.requires.within lt) in
    let here : get_or l.counts place 0 ≤ l.row = All-get_or (λ (count : ℕ). count ≤ l.row) l.counts place 0 below l.invariant.few in
    let few : get_or l.counts place 0 < 2 ^ 64 - 1 = omega (arith, here, c.loop-row-test.true) in
    record {
      long = ap length c.count_entry.ensures ∙ length-set l.counts place _ ∙ l.invariant.long;
      few = subst (All (λ count. count ≤ l.row + 1)) (sym c.count_entry.ensures) (few-more l.counts l.row place _ l.invariant.few below);
      counted = λ texts len es.
          ap (λ (counts : List ℕ). added_all value_cmp (added_all value_cmp es (entry_counts texts counts)) (flagged (drop (l.row + 1) c.args.mask.now) (drop (l.row + 1) (text_values texts c.args.numbers.now)))) c.count_entry.ensures
          ∙ text-row texts l.counts c.args.numbers.now c.args.mask.now l.row place _ c.requires.rows c.loop-row-test.true c.entry_at.ensures below (len ∙ sym l.invariant.long) few refl es
          ∙ l.invariant.counted texts len es;
    }

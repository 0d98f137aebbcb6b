use Rattle.std.proofs.Common.{◌∙◌, List, sym, ap}
use Rattle.orc_values.specs.declared.value.Value.{Value}
use Rattle.orc_values.specs.Chosen.{places_of, chosen}
use Rattle.group_counts.specs.Order.{value_cmp}
use Rattle.group_counts.specs.Tally.{added_all}
use Rattle.group_counts.specs.EntryCounts.{entry_counts, flagged}
use Rattle.group_counts.proofs.ByEntry.{rows_of-all, length-chosen}
use Rattle.group_counts.proofs.entry_counts.count_rows.Goals as goal

pub returns-then-numbers-present-clause-counted : goal.returns-then-numbers-present-clause-counted
returns-then-numbers-present-clause-counted c = λ texts len es.
    let present = c.args.present.now in
    let numbers = c.args.numbers.now in
    let all = chosen texts (places_of numbers) in
    let long = length-chosen texts numbers in
    c.count_all.ensures.counted texts len es
    ∙ ap (λ (column : List Value). added_all value_cmp (added_all value_cmp es (entry_counts texts c.args.counts.now)) (flagged c.args.mask.now column))
    (sym (rows_of-all present all (long ∙ c.if-numbers-present.true) (long ∙ c.requires.count)))

use Rattle.std.proofs.Common.{◌≡◌, ◌∙◌, ◌+◌, ◌<◌, Bool, List, false, get_or, if◌then◌else◌, length, take, ap, arith}
use Rattle.std.proofs.lemmas.List.{length-map, length-take}
use Rattle.orc_values.specs.Column.{is_present, present_of}
use Rattle.orc_values.specs.Woven.{present_count}
use Rattle.orc_values.specs.WovenLaws.{count_more, present_count-le}
use Rattle.group_counts.specs.Order.{value_cmp}
use Rattle.group_counts.specs.Tally.{added_all}
use Rattle.fold_rows.proofs.Rows.{once_more}
use Rattle.fold_rows.proofs.kept.count_each.Goals as goal

pub loop-row-preserved : goal.loop-row-preserved
loop-row-preserved c =
    let l = c.loop-row in
    let column = c.args.column.now in
    let flags : List Bool = present_of column in
    let h : l.row < length flags = omega (arith, c.requires, c.loop-row-test.true, length-map column is_present) in
    let more = count_more flags l.row h in
    let lent : c.from-before.result ≡ (if get_or c.present-present.result.now l.row false then 1 else 0) = grind (arith, c.from-before.ensures) in
    let one : c.from-before.result ≡ (if get_or flags l.row false then 1 else 0) = lent ∙ ap (λ (x : List Bool). if get_or x l.row false then 1 else 0) c.present-present.ensures in
    let counted : l.before + c.from-before.result ≡ present_count (take (l.row + 1) flags) = omega (arith, more, one, l.invariant.counted) in
    record {
      few = omega (arith, counted, present_count-le (take (l.row + 1) flags), length-take (l.row + 1) flags);
      counted = counted;
      counts = c.in_ok-count_row.ensures ∙ once_more c.args.counts (added_all value_cmp l.now l.seen) c.args.mask.now column l.row c.requires (omega (arith, c.requires, c.loop-row-test.true)) l.invariant.counts;
    }

use Rattle.std.proofs.Common.{rules, arith, ◌<◌, length}
use Rattle.orc_values.specs.WovenLaws.{count_more}
use Rattle.orc_values.proofs.rows.count_each.Goals as goal

pub loop-flag-preserved : goal.loop-flag-preserved
loop-flag-preserved c =
    let l = c.loop-flag in
    let h : l.flag-index < length c.args.flags.now = search rules in
    let more = count_more c.args.flags.now l.flag-index h in
    record {
      few = search rules;
      counted = grind (arith, more, c.from-count.ensures, l.invariant.counted);
    }

use Rattle.std.proofs.Common.{arith}
use Rattle.orc_values.specs.WovenLaws.{present_count-le}
use Rattle.orc_values.proofs.Counts.{in_two, lengths_in_two}
use Rattle.orc_values.proofs.rows.count_present.Goals as goal

pub loop-flags-preserved : goal.loop-flags-preserved
loop-flags-preserved c =
    let cases = c.in-Some.ensures.cases in
    let left = c.loop-flags.left.now in
    let all = in_two 128 left c.in-Some.flags.now c.in-Some.behind.now cases.0 cases.1 in
    let len = lengths_in_two 128 left c.in-Some.flags.now c.in-Some.behind.now cases.0 cases.1 in
    let most = present_count-le c.in-Some.flags.now in
    record {
      few = omega (arith, len, most, c.loop-flags.invariant.few, c.from-count.ensures, c.count_chunk.ensures);
      counted = omega (arith, all, c.loop-flags.invariant.counted, c.from-count.ensures, c.count_chunk.ensures);
    }

pub overflow_add-result : goal.overflow_add-result
overflow_add-result c = grind (arith, c.loop-flags.invariant.few, c.count_each.ensures, present_count-le c.loop-flags.left.now)

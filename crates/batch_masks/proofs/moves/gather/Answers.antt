use Rattle.std.proofs.Common.{◌≡◌, ◌∙◌, ◌+◌, ◌<◌, List, Bool, ap, false, get_or, if◌then◌else◌, length, take, sym, arith}
use Rattle.std.proofs.lemmas.List.{take_all}
use Rattle.orc_values.specs.Woven.{present_count}
use Rattle.orc_values.specs.WovenLaws.{count_more}
use Rattle.batch_masks.proofs.Gathering.{all_kept, count_short, gather_more, rest_more}
use Rattle.batch_masks.proofs.moves.gather.Goals as goal

pub returns-then-count-present : goal.returns-then-count-present
returns-then-count-present c =
    let mask = c.args.mask.now in
    let present = c.args.present.now in
    let all : present_count present ≡ length present = sym c.requires.count ∙ c.if-count-present.true in
    take_all c.args.count mask (omega (arith, c.requires.rows, c.if-count-present.true)) ∙ sym (all_kept present mask c.requires.rows all)

pub loop-row-preserved : goal.loop-row-preserved
loop-row-preserved c =
    let l = c.loop-row in
    let present = c.args.present.now in
    let row = l.row in
    let h : row < length present = omega (arith, c.requires.rows, l.auto.mask, c.loop-row-test.true) in
    let more = count_more present row h in
    let cut = c.split_at.ensures.front ∙ take_all (length c.args.mask.now) present (omega (arith, c.requires.rows)) in
    let flag : get_or c.split_at.result.0.now row false ≡ get_or present row false = ap (λ (fs : List Bool). get_or fs row false) cut in
    let one : c.from-used.result ≡ (if get_or present row false then 1 else 0) = grind (arith, c.from-used.ensures, flag) in
    let counted : l.used + c.from-used.result ≡ present_count (take (row + 1) present) = omega (arith, more, one, l.invariant.counted) in
    let next : l.used + c.from-used.result ≡ l.used + (if get_or present row false then 1 else 0) = omega (arith, one) in
    record {
      few = omega (arith, counted, count_short present (row + 1));
      counted = counted;
      front = gather_more present c.args.mask.now l.mask row l.used (l.used + c.from-used.result) (get_or l.mask row false) h c.requires.rows (l.auto.mask ∙ c.requires.rows) l.invariant.few l.invariant.front
          (l.invariant.rest row (omega arith)) next;
      rest = rest_more c.args.mask.now l.mask row l.used (get_or l.mask row false) l.invariant.few l.invariant.rest;
    }

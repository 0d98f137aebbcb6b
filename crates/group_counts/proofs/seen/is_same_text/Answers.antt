use Rattle.std.proofs.Common.{◌≡◌, ◌<◌, ◌≤◌, ◌∙◌, get_or, length, sym, arith}
use Rattle.std.proofs.lemmas.List.{take_all, take_more_same}
use Rattle.group_counts.proofs.seen.is_same_text.Goals as goal

pub loop-place-preserved : goal.loop-place-preserved
loop-place-preserved c =
    let l = c.loop-place in
    let one = c.args.one.now in
    let two = c.args.two.now in
    let within : l.place < length one = omega arith in
    let as_well : l.place < length two = omega arith in
    let here : get_or one l.place 0 ≡ get_or two l.place 0 = omega arith in
    take_more_same one two l.place 0 within as_well l.invariant here

pub returns : goal.returns
returns c = λ done.
    let l = c.loop-place in
    let all : length c.args.one.now ≤ l.place = omega arith in
    let as_well : length c.args.two.now ≤ l.place = omega arith in
    sym (take_all l.place c.args.one.now all) ∙ l.invariant ∙ take_all l.place c.args.two.now as_well

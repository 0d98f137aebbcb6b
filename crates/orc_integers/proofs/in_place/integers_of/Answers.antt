use Rattle.std.proofs.Common.{◌≡◌, ◌+◌, ◌++◌, ◌∙◌, ℕ, ℤ, List, length, take, ap, sym, arith, length-append}
use Rattle.std.proofs.Math.Seq.{take-append-add}
use Rattle.std.proofs.lemmas.List.{take_at}
use Rattle.orc_integers.proofs.Numbers.{integers-none, integers-joined, integers-joined-if}
use Rattle.orc_integers.proofs.in_place.integers_of.Goals as goal

pub loop-done-init : goal.loop-done-init
loop-done-init c = record { within = omega arith; read = integers-none c.args.signed c.args.bytes.now }

pub loop-done-preserved : goal.loop-done-preserved
loop-done-preserved c =
    let a = c.args in
    let l = c.loop-done in
    let front = c.split_at_mut-open.result.0.now in
    let group = c.eight_in.new.into in
    let back = c.split_at_mut-group.result.1.now in
    let eight : length group ≡ 8 = omega (arith, c.eight_in.auto.into, c.split_at_mut-group.ensures.front_len) in
    let is : take (l.done + 8) (front ++ (group ++ back)) ≡ take l.done l.into ++ group =
    ap (λ (n : ℕ). take (n + 8) (front ++ (group ++ back))) (sym c.split_at_mut-open.ensures.front_len)
    ∙ take-append-add front (group ++ back) 8 ∙ ap (λ (v : List ℤ). front ++ v) (take_at group back 8 eight)
    ∙ ap (λ (v : List ℤ). v ++ group) c.split_at_mut-open.ensures.front in
    let len : length (front ++ (group ++ back)) ≡ length l.into = omega (arith, length-append front (group ++ back), length-append group back, eight, c.split_at_mut-open.ensures.front_len, c.split_at_mut-open.ensures.back_len, c.split_at_mut-group.ensures.front_len, c.split_at_mut-group.ensures.back_len) in
    record {
      within = omega (arith, len, c.loop-done-test.true);
      read = rw is (integers-joined a.signed l.invariant.read c.in_ok-left.ensures);
    }

pub returns : goal.returns
returns c =
    rw c.split_at_mut-open-2.ensures.front (integers-joined-if c.args.signed c.few_in.new.into c.loop-done.invariant.read c.few_in.result c.few_in.ensures)

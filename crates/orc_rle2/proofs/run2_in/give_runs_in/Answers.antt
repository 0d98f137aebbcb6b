use Rattle.std.proofs.Common.{◌≡◌, ◌∙◌, ℕ, ◌+◌, ◌<◌, length, take, List, ◌++◌, ℤ, refl, arith, sym, ap, length-append}
use Rattle.std.proofs.Math.Seq.{take-append-add}
use Rattle.std.proofs.lemmas.List.{length-take-le}
use Rattle.outside.specs.LendingLaws.{FillsIn-run}
use Rattle.orc_rle2.specs.IntRun2.{IntRun2, int_run2}
use Rattle.orc_rle2.proofs.RunReader.{int_run2_reads}
use Rattle.orc_rle2.proofs.run2_in.give_runs_in.Goals as goal

pub loop-given-preserved : goal.loop-given-preserved
loop-given-preserved c =
    let a = c.args in
    let l = c.loop-given in
    let open_out = c.give_run_in.new.out in
    let held = c.give_run_in.new.held in
    let count = c.in-Some.count in
    let gives = c.in-Some.ensures.gives in
    let front = c.split_at_mut-open.result.0.now in
    let more = take count open_out in
    let h : l.given < length l.out = omega (arith, c.loop-given-test.true) in
    let one = rw (l.invariant.empty h) at l.invariant.fills in
    let room : length open_out ≡ length c.split_at_mut-open.result.1.now = omega (arith, c.give_run_in.auto.out) in
    let len : length more ≡ count = length-take-le count open_out (omega (arith, gives.within)) in
    let some : 0 < length more = omega (arith, gives.some) in
    let whole : length (front ++ open_out) ≡ length l.out = omega (arith, length-append front open_out, c.split_at_mut-open.ensures.front_len, c.split_at_mut-open.ensures.back_len) in
    let given : take (l.given + count) (front ++ open_out) ≡ take l.given l.out ++ more = ap (λ (n : ℕ). take (n + count) (front ++ open_out)) (sym c.split_at_mut-open.ensures.front_len) ∙ take-append-add front open_out count ∙ ap (λ (v : List ℤ). v ++ more) c.split_at_mut-open.ensures.front in
    record {
      within = omega (arith, whole, gives.within, c.split_at_mut-open.ensures.back_len);
      empty = λ k. gives.all (omega (arith, whole, c.split_at_mut-open.ensures.back_len));
      fills = rw given (FillsIn-run (IntRun2 a.signed) (int_run2 a.signed) (int_run2_reads a.signed) a.bytes.now l.left.now c.in-Some.behind.now (take l.given l.out) (more ++ held) more held one c.in-Some.ensures.reads refl some);
    }

use Rattle.std.proofs.Common.{◌≡◌, ◌∙◌, ℕ, ◌+◌, ◌<◌, length, take, List, ◌++◌, ℤ, arith, sym, ap, length-append}
use Rattle.std.proofs.Math.Seq.{take-append-add}
use Rattle.std.proofs.lemmas.List.{length-take-le}
use Rattle.std.proofs.lemmas.Result.{err_from_is_err_and}
use Rattle.outside.specs.FillingLaws.{Fills-give}
use Rattle.outside.specs.LendingLaws.{Fills-then, Fills-broken}
use Rattle.orc_rle2.specs.IntRun2.{IntRun2, int_run2}
use Rattle.orc_rle2.proofs.RunReader.{int_run2_reads}
use Rattle.orc_rle2.proofs.int_runs2.fill_on.Goals as goal

pub loop-given-init : goal.loop-given-init
loop-given-init g c =
    let f = g.F.Feed in
    let law = g.met.F.Feed in
    let a = c.args in
    let e = c.give-given in
    record {
      within = omega (arith, e.ensures.room, e.auto.out);
      empty = λ h. e.ensures.all (omega (arith, e.auto.out));
      fills = Fills-give f.rest f.fed f.fault_count a.stream law.fed_nothing law.fed_joined (IntRun2 a.signed) (int_run2 a.signed) (int_run2_reads a.signed) a.feed.now a.held.now (take e.result e.new.out) e.new.self (length a.out.now) e.ensures.parts;
    }

pub returns-in_err-given : goal.returns-in_err-given
returns-in_err-given g c =
    let f = g.F.Feed in
    let law = g.met.F.Feed in
    let a = c.args in
    let l = c.loop-given in
    let p = err_from_is_err_and c.from_residual.result c.from_residual.ensures.1 in
    let h : l.given < length l.out = omega (arith, c.loop-given-test.true) in
    let one = rw (l.invariant.empty h) at l.invariant.fills in
    let fewer : length (take l.given l.out) ≡ l.given = length-take-le l.given l.out l.invariant.within in
    let more : length (take l.given l.out) + length c.split_at_mut-open.result.1.now ≡ length a.out.now = omega (arith, fewer, l.invariant.within, l.auto.out, c.split_at_mut-open.ensures.back_len) in
    rw (p.1, p.2) (Fills-broken f.rest f.fed f.fault_count a.stream law.fed_joined (IntRun2 a.signed) (int_run2 a.signed) a.feed.now l.feed c.give_runs.new.feed a.held.now (take l.given l.out) c.give_runs.new.held (length a.out.now) _ c.in_err-given.field-0.0 more one c.in_err-given.ensures.fills)

pub loop-given-preserved : goal.loop-given-preserved
loop-given-preserved g c =
    let f = g.F.Feed in
    let law = g.met.F.Feed in
    let a = c.args in
    let l = c.loop-given in
    let open_out = c.give_runs.new.out in
    let held = c.give_runs.new.held in
    let count = c.in_ok-given.field-0 in
    let gives = c.in_ok-given.ensures.gives in
    let front = c.split_at_mut-open.result.0.now in
    let more = take count open_out in
    let h : l.given < length l.out = omega (arith, c.loop-given-test.true) in
    let one = rw (l.invariant.empty h) at l.invariant.fills in
    let room : length open_out ≡ length c.split_at_mut-open.result.1.now = omega (arith, c.give_runs.auto.out) in
    let len : length more ≡ count = length-take-le count open_out (omega (arith, gives.within)) in
    let some : 0 < length more = omega (arith, gives.some) in
    let whole : length (front ++ open_out) ≡ length l.out = omega (arith, length-append front open_out, c.split_at_mut-open.ensures.front_len, c.split_at_mut-open.ensures.back_len) in
    let given : take (l.given + count) (front ++ open_out) ≡ take l.given l.out ++ more = ap (λ (n : ℕ). take (n + count) (front ++ open_out)) (sym c.split_at_mut-open.ensures.front_len) ∙ take-append-add front open_out count ∙ ap (λ (v : List ℤ). v ++ more) c.split_at_mut-open.ensures.front in
    let asked : length (take l.given l.out) + length c.split_at_mut-open.result.1.now ≡ length a.out.now = omega (arith, length-take-le l.given l.out l.invariant.within, l.invariant.within, l.auto.out, c.split_at_mut-open.ensures.back_len) in
    record {
      within = omega (arith, whole, gives.within, c.split_at_mut-open.ensures.back_len);
      empty = λ k. gives.all (omega (arith, whole, c.split_at_mut-open.ensures.back_len));
      fills = rw given (Fills-then f.rest f.fed f.fault_count a.stream law.fed_joined (IntRun2 a.signed) (int_run2 a.signed) a.feed.now l.feed c.give_runs.new.feed a.held.now (take l.given l.out) more held (length a.out.now) _ asked one c.in_ok-given.ensures.fills);
    }

use Rattle.std.proofs.Common.{◌≡◌, ◌∙◌, ℕ, ◌+◌, ◌<◌, length, take, List, ◌++◌, Bool, arith, sym, ap, length-append}
use Rattle.std.proofs.Math.Seq.{take-append-add}
use Rattle.std.proofs.lemmas.List.{length-take-le}
use Rattle.std.proofs.lemmas.Result.{err_from_is_err_and}
use Rattle.outside.specs.FillingLaws.{Fills-give, Fills-run, Fills-fault}
use Rattle.orc_rle.specs.BitRun.{BitRun, bit_run}
use Rattle.orc_rle.proofs.Lists.{some_given}
use Rattle.orc_rle.proofs.BitRuns.{bit_run_reads}
use Rattle.orc_rle.proofs.bits.fill_bits.Goals as goal

pub loop-given-init : goal.loop-given-init
loop-given-init g c =
    let f = g.F.Feed in
    let law = g.met.F.Feed in
    let a = c.args in
    let e = c.give-given in
    record {
      within = omega (arith, e.ensures.room, e.auto.out);
      empty = λ h. e.ensures.all (omega (arith, e.auto.out));
      fills = Fills-give f.rest f.fed f.fault_count a.stream law.fed_nothing law.fed_joined BitRun bit_run bit_run_reads a.feed.now a.held.now (take e.result e.new.out) e.new.self (length a.out.now) e.ensures.parts;
    }

pub returns-in_err-read_run : goal.returns-in_err-read_run
returns-in_err-read_run g c =
    let f = g.F.Feed in
    let law = g.met.F.Feed in
    let a = c.args in
    let l = c.loop-given in
    let p = err_from_is_err_and c.from_residual.result c.from_residual.ensures.1 in
    let h : l.given < length l.out = omega (arith, c.loop-given-test.true) in
    let one = rw (l.invariant.empty h) at l.invariant.fills in
    let fewer : length (take l.given l.out) < length a.out.now = omega (arith, length-take-le l.given l.out l.invariant.within, l.auto.out) in
    rw (p.1, p.2) (Fills-fault f.rest f.fed f.fault_count a.stream law.fed_nothing law.fed_joined BitRun bit_run bit_run_reads a.feed.now l.feed c.read_run.new.feed a.held.now (take l.given l.out) c.read_run.new.self (length a.out.now) c.in_err-read_run.field-0.0 one c.in_err-read_run.ensures.reads fewer)

pub loop-given-preserved : goal.loop-given-preserved
loop-given-preserved g c =
    let f = g.F.Feed in
    let law = g.met.F.Feed in
    let a = c.args in
    let l = c.loop-given in
    let e = c.give-given-in-loop-given in
    let front = c.split_at_mut-open.result.0.now in
    let room = length c.split_at_mut-open.result.1.now in
    let more = take e.result e.new.out in
    let h : l.given < length l.out = omega (arith, c.loop-given-test.true) in
    let one = rw (l.invariant.empty h) at l.invariant.fills in
    let len : length more ≡ e.result = length-take-le e.result e.new.out (omega (arith, e.ensures.room, e.auto.out)) in
    let asked : 0 < room = omega (arith, c.split_at_mut-open.ensures.back_len) in
    let some : 0 < length more = some_given c.read_run.new.self more e.new.self room e.ensures.parts c.in_ok-read_run.ensures.some (λ k. e.ensures.all (omega arith)) asked in
    let whole : length (front ++ e.new.out) ≡ length l.out = omega (arith, length-append front e.new.out, e.auto.out, c.split_at_mut-open.ensures.front_len, c.split_at_mut-open.ensures.back_len) in
    let given : take (l.given + e.result) (front ++ e.new.out) ≡ take l.given l.out ++ more = ap (λ (n : ℕ). take (n + e.result) (front ++ e.new.out)) (sym c.split_at_mut-open.ensures.front_len) ∙ take-append-add front e.new.out e.result ∙ ap (λ (v : List Bool). v ++ more) c.split_at_mut-open.ensures.front in
    record {
      within = omega (arith, whole, e.ensures.room, c.split_at_mut-open.ensures.back_len);
      empty = λ k. e.ensures.all (omega (arith, whole, c.split_at_mut-open.ensures.back_len));
      fills = rw given (Fills-run f.rest f.fed f.fault_count a.stream law.fed_nothing law.fed_joined BitRun bit_run bit_run_reads a.feed.now l.feed c.read_run.new.feed a.held.now (take l.given l.out) c.read_run.new.self more e.new.self (length a.out.now) one c.in_ok-read_run.ensures.reads e.ensures.parts some);
    }

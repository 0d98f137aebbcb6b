use Rattle.std.proofs.Common.{◌≡◌, ◌+◌, ◌≤◌, ◌∙◌, length, refl, arith}
use Rattle.std.proofs.lemmas.Result.{err_from_is_err_and}
use Rattle.orc_columns.proofs.NumberBatches.{reads_none, reads_more, reads_fault}
use Rattle.orc_columns.proofs.numbers.read_numbers.Goals as goal

pub loop-given-init : goal.loop-given-init
loop-given-init g c = record {
  within = omega arith;
  stream = refl;
  version = refl;
  signed = refl;
  whole = c.requires.whole;
  high = omega arith;
  top = omega arith;
  reads = reads_none _ _ _ _ _ _ c.args.feed.now _ (g.met.F.Feed.fed_nothing c.args.feed.now);
}

pub returns-in_err-fill : goal.returns-in_err-fill
returns-in_err-fill g c =
    let f = g.F.Feed in
    let i = c.loop-given.invariant in
    let p = err_from_is_err_and c.from_residual.result c.from_residual.ensures.1 in
    let within : c.loop-given.given + length c.split_at_mut-out.result.0.now ≤ c.args.count = omega (arith, c.split_at_mut-out.ensures.front_len) in
    rw (p.1, p.2) (reads_fault f.rest f.fed f.fault_count _ _ g.met.F.Feed.fed_joined c.args.integers.now.stream c.args.feed.now c.loop-given.feed c.fill.new.feed c.args.integers.now.held c.loop-given.integers.held c.fill.new.self.held
    c.loop-given.given (length c.split_at_mut-out.result.0.now) c.args.count c.loop-given.summary c.in_err-fill.field-0.0 within i.reads (rw (i.version, i.signed, i.stream) at (c.in_err-fill.ensures.fills i.whole)))

pub loop-given-preserved : goal.loop-given-preserved
loop-given-preserved g c =
    let f = g.F.Feed in
    let i = c.loop-given.invariant in
    let len : length c.fill.new.out ≡ c.min-asked.result = omega (arith, c.split_at_mut-out.ensures.front_len) in
    let asked : length c.split_at_mut-out.result.0.now ≡ c.min-asked.result = omega (arith, c.split_at_mut-out.ensures.front_len) in
    record {
      within = omega arith;
      stream = c.fill.ensures.stream ∙ i.stream;
      version = c.fill.ensures.version ∙ i.version;
      signed = c.fill.ensures.signed ∙ i.signed;
      whole = c.in_ok-fill.ensures.whole i.whole;
      high = omega (arith, len, c.with_numbers-summary.ensures.total);
      top = c.with_numbers-summary.ensures.bound;
      reads = reads_more f.rest f.fed f.fault_count _ _ g.met.F.Feed.fed_joined c.args.integers.now.stream c.args.feed.now c.loop-given.feed c.fill.new.feed c.args.integers.now.held c.loop-given.integers.held c.fill.new.self.held
          c.loop-given.given c.min-asked.result c.loop-given.summary c.with_numbers-summary.result c.fill.new.out len c.with_numbers-summary.ensures.sum c.with_numbers-summary.ensures.most c.with_numbers-summary.ensures.fit
          i.reads (rw (i.version, i.signed, i.stream, asked) at (c.in_ok-fill.ensures.fills i.whole));
    }

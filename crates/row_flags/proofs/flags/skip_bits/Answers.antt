use Rattle.std.proofs.Common.{◌≡◌, ◌+◌, ◌≤◌, ◌∙◌, length, refl, arith}
use Rattle.std.proofs.lemmas.Result.{err_from_is_err_and}
use Rattle.row_flags.proofs.FlagsFollowing.{bits_none, bits_more, bits_fault}
use Rattle.row_flags.proofs.flags.skip_bits.Goals as goal

pub loop-given-init : goal.loop-given-init
loop-given-init g c = record {
  within = omega arith;
  stream = refl;
  whole = c.requires.whole;
  reads = bits_none _ _ _ c.args.bits.now.stream c.args.feed.now c.args.bits.now.held (g.met.F.Feed.fed_nothing c.args.feed.now);
}

pub returns-in_err-fill : goal.returns-in_err-fill
returns-in_err-fill g c =
    let f = g.F.Feed in
    let i = c.loop-given.invariant in
    let p = err_from_is_err_and c.from_residual.result c.from_residual.ensures.1 in
    let within : c.loop-given.given + length c.split_at_mut-out.result.0.now ≤ c.args.count = omega (arith, c.split_at_mut-out.ensures.front_len) in
    rw (p.1, p.2) (bits_fault f.rest f.fed f.fault_count g.met.F.Feed.fed_joined c.args.bits.now.stream c.args.feed.now c.loop-given.feed c.fill.new.feed c.args.bits.now.held c.loop-given.bits.held c.fill.new.self.held
    c.loop-given.given (length c.split_at_mut-out.result.0.now) c.args.count c.in_err-fill.field-0.0 within i.reads (rw i.stream at (c.in_err-fill.ensures.fills i.whole)))

pub loop-given-preserved : goal.loop-given-preserved
loop-given-preserved g c =
    let f = g.F.Feed in
    let i = c.loop-given.invariant in
    let len : length c.fill.new.out ≡ c.min-asked.result = omega (arith, c.split_at_mut-out.ensures.front_len) in
    let asked : length c.split_at_mut-out.result.0.now ≡ c.min-asked.result = omega (arith, c.split_at_mut-out.ensures.front_len) in
    record {
      within = omega arith;
      stream = c.fill.ensures.stream ∙ i.stream;
      whole = c.in_ok-fill.ensures.whole i.whole;
      reads = bits_more f.rest f.fed f.fault_count g.met.F.Feed.fed_joined c.args.bits.now.stream c.args.feed.now c.loop-given.feed c.fill.new.feed c.args.bits.now.held c.loop-given.bits.held c.fill.new.self.held
          c.loop-given.given c.min-asked.result c.fill.new.out len i.reads (rw (i.stream, asked) at (c.in_ok-fill.ensures.fills i.whole));
    }

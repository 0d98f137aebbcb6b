use Rattle.std.proofs.Common.{◌≡◌, ◌+◌, ◌≤◌, ◌∙◌, length, refl, arith, Ok}
use Rattle.std.proofs.lemmas.Result.{err_from_is_err_and}
use Rattle.orc_values.specs.WovenLaws.{present_count-le}
use Rattle.row_flags.specs.Flags.{ReadsFlags}
use Rattle.row_flags.proofs.AllLeft.{all_left}
use Rattle.row_flags.proofs.FlagsFollowing.{flags_none, flags_more, flags_fault}
use Rattle.row_flags.proofs.flags.count_flags.Goals as goal

pub loop-given-init : goal.loop-given-init
loop-given-init g c = record {
  within = omega arith;
  few = omega arith;
  stream = refl;
  whole = c.requires.whole;
  reads = flags_none _ _ _ c.args.present.now c.args.feed.now (g.met.F.Feed.fed_nothing c.args.feed.now);
}

pub returns-in_err-fill : goal.returns-in_err-fill
returns-in_err-fill g c =
    let f = g.F.Feed in
    let i = c.loop-given.invariant in
    let p = err_from_is_err_and c.from_residual.result c.from_residual.ensures.1 in
    let within : c.loop-given.given + length c.split_at_mut-flags.result.0.now ≤ c.args.rows = omega (arith, c.split_at_mut-flags.ensures.front_len) in
    rw (p.1, p.2) (flags_fault f.rest f.fed f.fault_count g.met.F.Feed.fed_joined c.args.present.now c.loop-given.present c.fill.new.self c.args.feed.now c.loop-given.feed c.fill.new.feed
    c.loop-given.given (length c.split_at_mut-flags.result.0.now) c.loop-given.set c.args.rows c.in_err-fill.field-0.0 i.stream within i.reads (c.in_err-fill.ensures.fills i.whole))

pub loop-given-preserved : goal.loop-given-preserved
loop-given-preserved g c =
    let f = g.F.Feed in
    let i = c.loop-given.invariant in
    let len : length c.fill.new.flags ≡ c.min-asked.result = omega (arith, c.split_at_mut-flags.ensures.front_len) in
    let asked : length c.split_at_mut-flags.result.0.now ≡ c.min-asked.result = omega (arith, c.split_at_mut-flags.ensures.front_len) in
    record {
      within = omega arith;
      few = omega (arith, len, c.count_present.ensures, present_count-le c.fill.new.flags);
      stream = c.fill.ensures.stream ∙ i.stream;
      whole = c.in_ok-fill.ensures.whole i.whole;
      reads = flags_more f.rest f.fed f.fault_count g.met.F.Feed.fed_joined c.args.present.now c.loop-given.present c.fill.new.self c.args.feed.now c.loop-given.feed c.fill.new.feed
          c.loop-given.given c.min-asked.result c.loop-given.set c.count_present.result c.fill.new.flags i.stream len c.count_present.ensures
          i.reads (rw asked at (c.in_ok-fill.ensures.fills i.whole));
    }

pub overflow_add-set : goal.overflow_add-set
overflow_add-set g c = omega (arith, c.split_at_mut-flags.ensures.front_len, c.count_present.ensures, present_count-le c.fill.new.flags)

pub overflow_add-result : goal.overflow_add-result
overflow_add-result g c = omega (arith, c.loop-given.invariant.few, c.loop-given.invariant.within, c.split_at_mut-flags.ensures.front_len, c.count_present.ensures, present_count-le c.fill.new.flags)

pub returns-then-is_empty : goal.returns-then-is_empty
returns-then-is_empty g c =
    let f = g.F.Feed in
    let i = c.loop-given.invariant in
    let n = c.loop-given.given + c.min-asked.result in
    let len : length c.fill.new.flags ≡ c.min-asked.result = omega (arith, c.split_at_mut-flags.ensures.front_len) in
    let asked : length c.split_at_mut-flags.result.0.now ≡ c.min-asked.result = omega (arith, c.split_at_mut-flags.ensures.front_len) in
    let one : ReadsFlags f.rest f.fed f.fault_count c.args.present.now c.fill.new.self c.args.feed.now c.fill.new.feed n (Ok (c.loop-given.set + c.count_present.result)) =
    flags_more f.rest f.fed f.fault_count g.met.F.Feed.fed_joined c.args.present.now c.loop-given.present c.fill.new.self c.args.feed.now c.loop-given.feed c.fill.new.feed
    c.loop-given.given c.min-asked.result c.loop-given.set c.count_present.result c.fill.new.flags i.stream len c.count_present.ensures
    i.reads (rw asked at (c.in_ok-fill.ensures.fills i.whole)) in
    all_left f.rest f.fed f.fault_count g.met.F.Feed.fed_joined c.args.present.now c.fill.new.self c.args.feed.now c.fill.new.feed n c.args.rows (c.loop-given.set + c.count_present.result)
    (g.met.F.Feed.fed_nothing c.fill.new.feed) (c.fill.ensures.stream ∙ i.stream) (c.is_empty.ensures.empty c.if-is_empty.true) (omega (arith, i.within)) one

use Rattle.std.proofs.Common.{List, refl, sym, ap, length, arith, ◌∙◌}
use Rattle.orc_columns.specs.declared.plan.ColumnPlan.{ColumnPlan}
use Rattle.orc_batches.proofs.Walking.{as_many_plans, begins, goes_on, stops, refused}
use Rattle.orc_batches.proofs.stripe_rows.give_rows.Goals as goal

pub loop-given-init : goal.loop-given-init
loop-given-init g c =
    let f = g.F.Feed in
    record {
      within = omega arith;
      plans = refl;
      beside = c.requires.beside;
      as_many = refl;
      fresh = c.requires.fresh;
      kinds = c.requires.kinds;
      so_far = begins f.rest f.fed f.fault_count g.C.Consumer.ate g.met.F.Feed.fed_nothing g.met.C.Consumer.ate_nothing c.args.rows c.args.feed.now c.args.consumer.now c.args.readers.now;
    }

pub returns-in-Err-clause-walked : goal.returns-in-Err-clause-walked
returns-in-Err-clause-walked g c =
    let f = g.F.Feed in
    stops f.rest f.fed f.fault_count g.C.Consumer.ate g.met.F.Feed.fed_joined g.met.C.Consumer.ate_on c.takes_in_turn_join.ensures.join c.args.rows c.loop-given.given c.min-more.result
    c.args.feed.now c.loop-given.feed c.next_batches.new.feed c.args.consumer.now c.loop-given.consumer c.loop-given.consumer c.args.readers.now c.loop-given.readers c.next_batches.new.readers
    c.loop-given.invariant.plans c.loop-given-test.true c.loop-given.invariant.so_far c.in-Err.fault (omega (arith, c.min-more.ensures, c.loop-given-test.true)) c.in-Err.ensures.draws

pub returns-in-Err-batch-clause-walked : goal.returns-in-Err-batch-clause-walked
returns-in-Err-batch-clause-walked g c =
    let f = g.F.Feed in
    refused f.rest f.fed f.fault_count g.C.Consumer.ate g.met.F.Feed.fed_joined g.met.C.Consumer.ate_on c.takes_in_turn_join.ensures.join c.args.rows c.loop-given.given c.min-more.result
    c.args.feed.now c.loop-given.feed c.next_batches.new.feed c.args.consumer.now c.loop-given.consumer c.batch.new.self c.args.readers.now c.loop-given.readers c.next_batches.new.readers
    c.loop-given.invariant.plans c.loop-given-test.true c.loop-given.invariant.so_far c.next_batches.new.batches c.in-Ok.ensures.draws

pub loop-given-preserved : goal.loop-given-preserved
loop-given-preserved g c =
    let f = g.F.Feed in
    let i = c.loop-given.invariant in
    record {
      within = omega (arith, c.from-given.ensures, c.min-more.ensures, c.loop-given-test.true);
      plans = c.next_batches.ensures.plans ∙ i.plans;
      beside = sym (as_many_plans c.next_batches.new.readers) ∙ ap (λ (ps : List ColumnPlan). length ps) c.next_batches.ensures.plans ∙ as_many_plans c.loop-given.readers
          ∙ i.beside ∙ sym c.next_batches.ensures.beside ∙ sym c.in-Ok-batch.ensures.as_many;
      as_many = c.in-Ok-batch.ensures.as_many ∙ c.next_batches.ensures.beside ∙ i.as_many;
      fresh = c.in-Ok.ensures.fresh;
      kinds = g.met.C.Consumer.ate_kinds _ _ _ c.in-Ok-batch.ensures.ate ∙ i.kinds;
      so_far = rw c.from-given.ensures (goes_on f.rest f.fed f.fault_count g.C.Consumer.ate g.met.F.Feed.fed_joined g.met.C.Consumer.ate_on c.takes_in_turn_join.ensures.join c.args.rows c.loop-given.given c.min-more.result
          c.args.feed.now c.loop-given.feed c.next_batches.new.feed c.args.consumer.now c.loop-given.consumer c.batch.new.self c.args.readers.now c.loop-given.readers c.next_batches.new.readers
          i.plans c.loop-given-test.true i.so_far c.next_batches.new.batches (omega (arith, c.min-more.ensures, c.loop-given-test.true)) (omega (arith, c.min-more.ensures))
          (λ left. omega (arith, c.min-more.ensures, left)) c.in-Ok.ensures.batch c.in-Ok.ensures.draws c.in-Ok-batch.ensures.ate);
    }

use Rattle.std.proofs.Common.{refl, arith, ◌∙◌, sym}
use Rattle.orc_walk.proofs.StripesWalking.{begins, goes_on, stops, ends}
use Rattle.orc_walk.proofs.stripes_walk.walk_each.Goals as goal

pub loop-stripe-init : goal.loop-stripe-init
loop-stripe-init g c = record {
  counted = refl;
  as_many = c.requires.beside;
  kinds = c.requires.kinds;
  so_far = begins g.S.StreamReader.did g.S.Feed.fault_count g.W.World.files g.C.Consumer.ate c.args.file c.args.columns.now g.met.S.StreamReader.did_nothing g.met.C.Consumer.ate_nothing
      c.args.reader.now c.args.consumer.now;
}

pub returns-in-Err : goal.returns-in-Err
returns-in-Err g c = record {
  walks = stops g.S.StreamReader.did g.S.Feed.fault_count g.W.World.files g.C.Consumer.ate c.args.file c.args.columns.now g.met.S.StreamReader.did_joined g.met.C.Consumer.ate_on
      c.args.stripes.now c.loop-stripe.stripe-index _ (omega arith) c.args.reader.now c.loop-stripe.reader c.walk_stripe.new.reader c.args.consumer.now c.loop-stripe.consumer c.walk_stripe.new.consumer
      c.loop-stripe.invariant.so_far c.in-Err.why (rw c.loop-stripe.invariant.counted at c.in-Err.ensures.walks);
}

pub loop-stripe-preserved : goal.loop-stripe-preserved
loop-stripe-preserved g c =
    let i = c.loop-stripe.invariant in
    let w = rw i.counted at c.in-Ok.ensures.walks in
    record {
      counted = omega (arith, i.counted);
      as_many = i.as_many ∙ sym c.walk_stripe.ensures.beside;
      kinds = g.met.C.Consumer.ate_kinds c.loop-stripe.consumer c.walk_stripe.new.consumer w.pieces w.eaten ∙ i.kinds;
      so_far = goes_on g.S.StreamReader.did g.S.Feed.fault_count g.W.World.files g.C.Consumer.ate c.args.file c.args.columns.now g.met.S.StreamReader.did_joined g.met.C.Consumer.ate_on
          c.args.stripes.now c.loop-stripe.stripe-index _ (omega arith) c.args.reader.now c.loop-stripe.reader c.walk_stripe.new.reader c.args.consumer.now c.loop-stripe.consumer c.walk_stripe.new.consumer
          i.so_far c.in-Ok.field-0 w;
    }

pub returns : goal.returns
returns g c = record {
  walks = ends g.S.StreamReader.did g.S.Feed.fault_count g.W.World.files g.C.Consumer.ate c.args.file c.args.columns.now c.args.stripes.now c.loop-stripe.stripe-index
      c.args.reader.now c.loop-stripe.reader c.args.consumer.now c.loop-stripe.consumer (omega arith) c.loop-stripe.invariant.so_far;
}

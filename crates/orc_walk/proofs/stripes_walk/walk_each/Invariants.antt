use Rattle.std.proofs.Common.{◌≡◌, take, length}
use Rattle.orc_rows.specs.Given.{kinds_in}
use Rattle.orc_walk.specs.StripeWalk.{StripesSoFar}
use Rattle.orc_walk.proofs.stripes_walk.walk_each.Given as goal

abbrev pub invariant-loop-stripe : goal.invariant-loop-stripe
invariant-loop-stripe g l = record {
  counted : l.number ≡ l.stripe-index;
  as_many : length l.columns ≡ length l.batches;
  kinds : g.C.Consumer.kinds l.consumer ≡ kinds_in l.columns;
  so_far : StripesSoFar g.S.StreamReader.did g.S.Feed.fault_count g.W.World.files g.C.Consumer.ate l.file l.columns (take l.stripe-index l.stripes) l.fn.reader l.reader l.fn.consumer l.consumer;
}

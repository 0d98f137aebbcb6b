use Rattle.orc_walk.proofs.StripesWalking.{refused}
use Rattle.orc_walk.proofs.stripes_walk.walk_stripes.Goals as goal

pub returns-in_default : goal.returns-in_default
returns-in_default g c = record {
  walks = refused g.S.StreamReader.did g.S.Feed.fault_count g.W.World.files g.C.Consumer.ate c.args.file c.args.columns.now g.met.S.StreamReader.did_nothing
      c.args.stripes.now c.args.reader.now c.args.consumer.now;
}

use Rattle.orc_walk.proofs.Blaming.{stopped_read, stopped_memory, stopped_fault}
use Rattle.orc_walk.proofs.stripe_walk.walk_columns.Goals as goal

pub returns-in-Fault-clause-walks : goal.returns-in-Fault-clause-walks
returns-in-Fault-clause-walks g c =
    stopped_fault g.S.StreamReader.did g.S.Feed.fault_count g.W.World.files g.C.Consumer.ate c.args.file c.args.footer.now c.args.columns.now c.args.rows c.args.stripe
    c.args.reader.now c.give_columns.new.reader c.args.consumer.now c.give_columns.new.consumer c.in-Err.fault c.in-Err.ensures.gives g.met.S.StreamReader.did_joined
    c.in-Err.ensures.no_read c.in-Fault.fault c.blame.new.reader c.blame.result c.in-Fault.ensures c.blame.ensures.blames

pub returns-in-Read-clause-walks : goal.returns-in-Read-clause-walks
returns-in-Read-clause-walks g c =
    stopped_read g.S.StreamReader.did g.S.Feed.fault_count g.W.World.files g.C.Consumer.ate c.args.file c.args.footer.now c.args.columns.now c.args.rows c.args.stripe
    c.args.reader.now c.give_columns.new.reader c.args.consumer.now c.give_columns.new.consumer c.in-Err.fault c.in-Err.ensures.gives c.in-Read.failed c.in-Read.ensures

pub returns-in-NoMemory-clause-walks : goal.returns-in-NoMemory-clause-walks
returns-in-NoMemory-clause-walks g c =
    stopped_memory g.S.StreamReader.did g.S.Feed.fault_count g.W.World.files g.C.Consumer.ate c.args.file c.args.footer.now c.args.columns.now c.args.rows c.args.stripe
    c.args.reader.now c.give_columns.new.reader c.args.consumer.now c.give_columns.new.consumer c.in-Err.fault c.in-Err.ensures.gives c.in-NoMemory.ensures

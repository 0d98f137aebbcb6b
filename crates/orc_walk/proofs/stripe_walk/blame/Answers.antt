use Rattle.orc_walk.proofs.Blaming.{blamed_found, blamed_read, blamed_memory}
use Rattle.orc_walk.proofs.stripe_walk.blame.Goals as goal

pub returns-in-Ok-Some : goal.returns-in-Ok-Some
returns-in-Ok-Some g c = record {
  blames = blamed_found g.S.StreamReader.did g.S.Feed.fault_count g.W.World.files c.args.file c.args.footer.now c.args.columns.now c.args.rows c.args.stripe
      c.args.reader.now c.judge_columns.new.reader c.in-Ok-Some.refused (rw c.in-Ok-Some.field-0-is at c.in-Ok-Some.ensures.judges);
}

pub returns-in-Err-Read : goal.returns-in-Err-Read
returns-in-Err-Read g c = record {
  blames = blamed_read g.S.StreamReader.did g.S.Feed.fault_count g.W.World.files c.args.file c.args.footer.now c.args.columns.now c.args.rows c.args.stripe
      c.args.reader.now c.judge_columns.new.reader c.in-Err-Read.failed (rw c.in-Err-Read.field-0-is at c.in-Err-Read.ensures.judges);
}

pub returns-in-Err-NoMemory : goal.returns-in-Err-NoMemory
returns-in-Err-NoMemory g c = record {
  blames = blamed_memory g.S.StreamReader.did g.S.Feed.fault_count g.W.World.files c.args.file c.args.footer.now c.args.columns.now c.args.rows c.args.stripe
      c.args.reader.now c.judge_columns.new.reader (rw c.in-Err-NoMemory.field-0-is at c.in-Err-NoMemory.ensures.judges);
}

use Rattle.orc_rows.proofs.Judging.{no_room, found_none, found_fault, take_failed}
use Rattle.orc_rows.proofs.judge.judge_column.Goals as goal

pub returns-in-Ok-None : goal.returns-in-Ok-None
returns-in-Ok-None g c =
    let s = g.S.StreamReader in
    let m = g.met.S.StreamReader in
    record {
      judges = found_none s.did g.S.Feed.fault_count g.W.World.files c.args.file m.did_joined g.S.Feed.rest g.S.Feed.fed m.did_take c.args.index c.args.layout c.args.rows
          c.args.reader.now c.open_column.new.reader c.first_fault.new.feed c.in_ok-open_column.field-0 c.in_ok-open_column.ensures.opens c.in_ok-open_column.ensures.told
          (rw (c.plan.ensures.exact, c.in-Ok-None.field-0-is) at c.in-Ok-None.ensures);
    }

pub returns-in-Ok-Some : goal.returns-in-Ok-Some
returns-in-Ok-Some g c =
    let s = g.S.StreamReader in
    let m = g.met.S.StreamReader in
    record {
      judges = found_fault s.did g.S.Feed.fault_count g.W.World.files c.args.file m.did_joined g.S.Feed.rest g.S.Feed.fed m.did_take c.args.index c.args.layout c.args.rows
          c.args.reader.now c.open_column.new.reader c.first_fault.new.feed c.in_ok-open_column.field-0 c.in_ok-open_column.ensures.opens c.in_ok-open_column.ensures.told
          c.in-Ok-Some.fault c.of_content.result c.of_content.ensures.found c.of_content.ensures.content c.of_content.ensures.no_read (rw (c.plan.ensures.exact, c.in-Ok-Some.field-0-is) at c.in-Ok-Some.ensures);
    }

pub returns-in-Err-Read : goal.returns-in-Err-Read
returns-in-Err-Read g c =
    let s = g.S.StreamReader in
    let m = g.met.S.StreamReader in
    record {
      judges = take_failed s.did g.S.Feed.fault_count g.W.World.files c.args.file m.did_joined g.S.Feed.rest g.S.Feed.fed m.did_take c.args.index c.args.layout c.args.rows
          c.args.reader.now c.open_column.new.reader c.first_fault.new.feed c.in_ok-open_column.field-0 c.in_ok-open_column.ensures.opens c.in_ok-open_column.ensures.told
          c.in-Err-Read.failed (rw (c.plan.ensures.exact, c.in-Err-Read.field-0-is) at c.in-Err-Read.ensures);
    }

pub returns-in_default : goal.returns-in_default
returns-in_default g c =
    let s = g.S.StreamReader in
    let m = g.met.S.StreamReader in
    record {
      judges = no_room s.did g.S.Feed.fault_count g.W.World.files c.args.file m.did_joined g.S.Feed.rest g.S.Feed.fed m.did_take c.args.index c.args.layout c.args.rows
          c.args.reader.now c.open_column.new.reader c.open_column.new.reader c.in_ok-open_column.field-0 c.in_ok-open_column.ensures.opens c.in_ok-open_column.ensures.told;
    }

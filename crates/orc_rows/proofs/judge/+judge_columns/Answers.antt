use Rattle.orc_rows.proofs.Judging.{no_column_judged, first_unread, first_good, first_refused}
use Rattle.orc_rows.proofs.judge.+judge_columns.Goals as goal

pub returns-in_default : goal.returns-in_default
returns-in_default g t c =
    let s = g.S.StreamReader in
    let m = g.met.S.StreamReader in
    record {
      judges = no_column_judged s.did g.S.Feed.fault_count g.W.World.files c.args.file m.did_joined c.args.footer.now c.args.rows c.args.index m.did_nothing c.args.columns.now c.args.reader.now c.in_default.ensures.cases;
    }

pub returns-in-Ok-None : goal.returns-in-Ok-None
returns-in-Ok-None g t c =
    let s = g.S.StreamReader in
    let m = g.met.S.StreamReader in
    let is = c.in-Some.ensures.cases.0 in
    record {
      judges = rw is (first_good s.did g.S.Feed.fault_count g.W.World.files c.args.file m.did_joined c.args.footer.now c.args.rows c.args.index c.in-Some.column.now c.in-Some.others.now
          c.args.reader.now c.judge_column.new.reader c.judge_columns.new.reader c.judge_columns.result
          (rw (c.layout_of.ensures, c.in-Ok-None.field-0-is) at c.in-Ok-None.ensures.judges) c.judge_columns.ensures.judges);
    }

pub returns-in-Ok-Some : goal.returns-in-Ok-Some
returns-in-Ok-Some g t c =
    let s = g.S.StreamReader in
    let m = g.met.S.StreamReader in
    let is = c.in-Some.ensures.cases.0 in
    record {
      judges = rw is (first_refused s.did g.S.Feed.fault_count g.W.World.files c.args.file m.did_joined c.args.footer.now c.args.rows c.args.index c.in-Some.column.now c.in-Some.others.now
          c.args.reader.now c.judge_column.new.reader c.in-Ok-Some.fault (rw (c.layout_of.ensures, c.in-Ok-Some.field-0-is) at c.in-Ok-Some.ensures.judges));
    }

pub returns-in-Err : goal.returns-in-Err
returns-in-Err g t c =
    let s = g.S.StreamReader in
    let m = g.met.S.StreamReader in
    let is = c.in-Some.ensures.cases.0 in
    record {
      judges = rw is (first_unread s.did g.S.Feed.fault_count g.W.World.files c.args.file m.did_joined c.args.footer.now c.args.rows c.args.index c.in-Some.column.now c.in-Some.others.now
          c.args.reader.now c.judge_column.new.reader c.in-Err.fault (rw c.layout_of.ensures at c.in-Err.ensures.judges));
    }

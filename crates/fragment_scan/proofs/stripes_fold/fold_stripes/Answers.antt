use Rattle.fragment_scan.proofs.Folded.{folds_whole, folds_broke, folds_unread, folds_unkept}
use Rattle.fragment_scan.proofs.stripes_fold.fold_stripes.Goals as goal

pub returns-in-Ok : goal.returns-in-Ok
returns-in-Ok g c =
    let w = rw (c.new-consumer.ensures, c.as_slice-stripes.ensures) at c.in-Ok.ensures.walks in
    record {
      folds = rw c.answer_outcome.ensures
          (folds_whole g.S.StreamReader.did g.S.Feed.fault_count g.W.World.files c.args.file c.args.tail.now c.args.named.now c.args.fold c.args.reader.now c.walk_stripes.new.reader
          c.in-Ok.field-0 c.a_walk_folds_the_rows.ensures c.files_are_bounded.ensures.tails g.W.World.are_files c.requires.begun
          c.args.read.now c.walk_stripes.new.consumer c.finish.result c.requires.goes_by.read_is c.finish.ensures w);
    }

pub returns-in-Err-Fault : goal.returns-in-Err-Fault
returns-in-Err-Fault g c =
    let w = rw (c.new-consumer.ensures, c.as_slice-stripes.ensures, c.in-Err-Fault.field-0-is) at c.in-Err-Fault.ensures.walks in
    record {
      folds = rw (c.broken_failure.ensures, c.in-Err-Fault.field-0-is)
          (folds_broke g.S.StreamReader.did g.S.Feed.fault_count g.W.World.files c.args.file c.args.tail.now c.args.named.now c.args.fold c.args.reader.now c.walk_stripes.new.reader
          c.stripe_footers_have_three_faults.ensures c.args.read.now c.walk_stripes.new.consumer c.in-Err-Fault.fault c.requires.goes_by.read_is w);
    }

pub returns-in-Err-Read : goal.returns-in-Err-Read
returns-in-Err-Read g c =
    let w = rw (c.new-consumer.ensures, c.as_slice-stripes.ensures, c.in-Err-Read.field-0-is) at c.in-Err-Read.ensures.walks in
    record {
      folds = folds_unread g.S.StreamReader.did g.S.Feed.fault_count g.W.World.files c.args.file c.args.tail.now c.args.named.now c.args.fold c.args.reader.now c.walk_stripes.new.reader
          c.args.read.now c.walk_stripes.new.consumer c.in-Err-Read.field-0-0 c.requires.goes_by.read_is w;
    }

pub returns : goal.returns
returns g c =
    let w = rw (c.new-consumer.ensures, c.as_slice-stripes.ensures, c.in-Err-NoMemory.field-0-is) at c.in-Err-NoMemory.ensures.walks in
    record {
      folds = folds_unkept g.S.StreamReader.did g.S.Feed.fault_count g.W.World.files c.args.file c.args.tail.now c.args.named.now c.args.fold c.args.reader.now c.walk_stripes.new.reader
          c.args.read.now c.walk_stripes.new.consumer c.requires.goes_by.read_is w;
    }

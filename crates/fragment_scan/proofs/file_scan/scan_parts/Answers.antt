use Rattle.fragment_scan.proofs.Parts.{parts_fail, parts_refused}
use Rattle.fragment_scan.proofs.file_scan.scan_parts.Goals as goal

pub returns-in-Err-Fault : goal.returns-in-Err-Fault
returns-in-Err-Fault g c =
    let judged = rw c.in-Err-Fault.field-0-is at c.in-Err-Fault.ensures.columns in
    record {
      scans = rw c.in-Err-Fault.field-0-is
          (parts_fail g.S.StreamReader.did g.S.Feed.fault_count g.W.World.files c.args.file c.args.scan.now c.args.tail.now g.met.S.StreamReader.did_nothing c.args.reader.now c.in-Err-Fault.why judged);
    }

pub returns-in-Err-NoMemory : goal.returns-in-Err-NoMemory
returns-in-Err-NoMemory g c = record {
  scans = parts_refused g.S.StreamReader.did g.S.Feed.fault_count g.W.World.files c.args.file c.args.scan.now c.args.tail.now g.met.S.StreamReader.did_nothing c.args.reader.now;
}

pub returns-in-Err : goal.returns-in-Err
returns-in-Err g c = record {
  scans = parts_refused g.S.StreamReader.did g.S.Feed.fault_count g.W.World.files c.args.file c.args.scan.now c.args.tail.now g.met.S.StreamReader.did_nothing c.args.reader.now;
}

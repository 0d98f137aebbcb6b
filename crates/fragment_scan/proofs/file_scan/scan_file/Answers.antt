use Rattle.std.proofs.Common.{subst}
use Rattle.fragment_plan.specs.declared.fragment.Scan.{Scan}
use Rattle.fragment_folds.specs.Scans.{scan_at}
use Rattle.fragment_scan.specs.Scanned.{ScansFile}
use Rattle.fragment_scan.proofs.Finding.{same_scan}
use Rattle.fragment_scan.proofs.Parts.{begin_refused, tail_stops, tail_then}
use Rattle.fragment_scan.proofs.file_scan.scan_file.Goals as goal

pub returns-in-Err : goal.returns-in-Err
returns-in-Err g c = record {
  scans = λ scan is. begin_refused g.S.StreamReader.did g.S.Feed.fault_count g.W.World.files c.args.file scan g.met.S.StreamReader.did_nothing c.args.reader.now;
}

pub returns-in-Err-read_tail : goal.returns-in-Err-read_tail
returns-in-Err-read_tail g c = record {
  scans = λ scan is. rw c.tail_outcome.ensures
      (tail_stops g.S.StreamReader.did g.S.Feed.fault_count g.W.World.files c.args.file scan g.S.RangeReader.went g.S.RangeReader.fault_count g.met.S.StreamReader.one_count
      g.met.S.StreamReader.did_read c.args.reader.now c.read_tail.new.reader c.in-Err-read_tail.fault c.in-Err-read_tail.ensures.followed);
}

pub returns : goal.returns
returns g c = record {
  scans = λ scan is.
      let same = same_scan (scan_at c.args.plan.now c.args.fragment) c.scan_of-scan.result.now scan c.scan_of-scan.ensures.scan is in
      subst (λ (s : Scan). ScansFile g.S.StreamReader.did g.S.Feed.fault_count g.W.World.files c.args.file s c.args.reader.now c.scan_parts.new.reader c.scan_parts.result) same
      (tail_then g.S.StreamReader.did g.S.Feed.fault_count g.W.World.files c.args.file c.scan_of-scan.result.now g.S.RangeReader.went g.S.RangeReader.fault_count g.met.S.StreamReader.one_count
      g.met.S.StreamReader.did_read c.args.reader.now c.read_tail.new.reader g.met.S.StreamReader.did_joined c.in-Ok-read_tail.tail c.scan_parts.new.reader c.scan_parts.result
      c.in-Ok-read_tail.ensures.followed c.scan_parts.ensures.scans);
}

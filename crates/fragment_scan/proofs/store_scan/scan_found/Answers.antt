use Rattle.std.proofs.Common.{◌≡◌, rules}
use Rattle.outside.specs.Cause.{Cause}
use Rattle.fragment_scan.specs.Scanned.{IsReadFault}
use Rattle.fragment_folds.specs.Scans.{scan_at}
use Rattle.fragment_scan.proofs.Finding.{the_scan}
use Rattle.fragment_scan.proofs.store_scan.scan_found.Goals as goal

pub returns-clause-means : goal.returns-clause-means
returns-clause-means g c = λ scan is. (c.scan_file.ensures.scans scan is).means

pub returns-clause-is_for : goal.returns-clause-is_for
returns-clause-is_for g c = λ scan is. (c.scan_file.ensures.scans scan is).is_for

pub returns-clause-cause : goal.returns-clause-cause
returns-clause-cause g c =
    let s = the_scan (scan_at c.args.plan.now c.args.fragment) c.requires.scan in
    let scans = c.scan_file.ensures.scans s.0 s.1 in
    let same : c.scan_file.new.reader.store.ghost_name ≡ c.new-reader.result.store.ghost_name = scans.by.0 in
    let cause : Cause (g.S.Store.fault_count c.new-reader.result.store.now) (g.S.Store.fault_count c.scan_file.new.reader.store.now) (IsReadFault c.scan_file.result) = scans.cause in
    search rules

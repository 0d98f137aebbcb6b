use Rattle.std.proofs.Common.{subst}
use Rattle.fragment_plan.specs.declared.fragment.Scan.{Scan}
use Rattle.fragment_folds.specs.Scans.{scan_at}
use Rattle.fragment_scan.specs.Scanned.{ScanActs}
use Rattle.scan_inline.proofs.Finding.{same_scan}
use Rattle.scan_inline.proofs.Scans.{the_scan}
use Rattle.scan_inline.proofs.through.scan_by.Goals as goal

pub returns-clause-means : goal.returns-clause-means
returns-clause-means g c = λ scan is. (c.scan_file.ensures.scans scan is).means

pub returns-clause-is_for : goal.returns-clause-is_for
returns-clause-is_for g c = λ scan is. (c.scan_file.ensures.scans scan is).is_for

pub returns-clause-cause : goal.returns-clause-cause
returns-clause-cause g c =
    let s = the_scan (scan_at c.args.plan.now c.args.fragment) c.requires.scan in
    (c.scan_file.ensures.scans s.0 s.1).cause

pub returns-clause-cache : goal.returns-clause-cache
returns-clause-cache g c =
    let s = the_scan (scan_at c.args.plan.now c.args.fragment) c.requires.scan in
    (c.scan_file.ensures.scans s.0 s.1).by.same.cache

pub returns-clause-seat_name : goal.returns-clause-seat_name
returns-clause-seat_name g c =
    let s = the_scan (scan_at c.args.plan.now c.args.fragment) c.requires.scan in
    (c.scan_file.ensures.scans s.0 s.1).by.same.seat

pub returns-clause-evictor_name : goal.returns-clause-evictor_name
returns-clause-evictor_name g c =
    let s = the_scan (scan_at c.args.plan.now c.args.fragment) c.requires.scan in
    (c.scan_file.ensures.scans s.0 s.1).by.same.evictor

pub returns-clause-store_name : goal.returns-clause-store_name
returns-clause-store_name g c =
    let s = the_scan (scan_at c.args.plan.now c.args.fragment) c.requires.scan in
    (c.scan_file.ensures.scans s.0 s.1).by.same.store

pub returns-clause-totals_name : goal.returns-clause-totals_name
returns-clause-totals_name g c =
    let s = the_scan (scan_at c.args.plan.now c.args.fragment) c.requires.scan in
    (c.scan_file.ensures.scans s.0 s.1).by.same.totals

pub returns-clause-scratch_name : goal.returns-clause-scratch_name
returns-clause-scratch_name g c =
    let s = the_scan (scan_at c.args.plan.now c.args.fragment) c.requires.scan in
    (c.scan_file.ensures.scans s.0 s.1).by.scratch

pub returns-clause-acts : goal.returns-clause-acts
returns-clause-acts g c =
    let s = the_scan (scan_at c.args.plan.now c.args.fragment) c.requires.scan in
    let scans = c.scan_file.ensures.scans s.0 s.1 in (
      scans.acts,
      scans.by,
      λ scan is. subst (λ (x : Scan). ScanActs g.W.World.files c.args.file x scans.acts c.scan_file.result)
          (same_scan (scan_at c.args.plan.now c.args.fragment) s.0 scan s.1 is) scans.are,
    )

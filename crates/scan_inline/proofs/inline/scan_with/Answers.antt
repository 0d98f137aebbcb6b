use Rattle.std.proofs.Common.{◌≡◌, List, ℕ, Some, refl, sym, ap, subst, ◌∙◌}
use Rattle.outside.specs.Files.{Files, file_named}
use Rattle.fragment_plan.specs.declared.fragment.Scan.{Scan}
use Rattle.fragment_folds.specs.Scans.{scan_at}
use Rattle.scan_inline.specs.Through.{Log, ScansFileThrough, standing}
use Rattle.scan_inline.specs.Through.ScansThrough.{found as was_found, no_file, read_fault}
use Rattle.scan_inline.proofs.Finding.{found_is_file, same_scan, scanned_means}
use Rattle.scan_inline.proofs.Growth.{counted_since}
use Rattle.scan_inline.proofs.inline.scan_with.Goals as goal

pub scan_through-requires-clause-is_file : goal.scan_through-requires-clause-is_file
scan_through-requires-clause-is_file g c =
    found_is_file g.W.World.files c.as_str.result.now c.in-Ok-Some.found (λ files told. sym c.in-Ok-Some.field-0-is ∙ c.in-Ok-Some.ensures.found files told)

pub returns-clause-means : goal.returns-clause-means
returns-clause-means g c =
    scanned_means g.W.World.files (scan_at c.args.plan.now c.args.fragment) c.scan_of.result.now c.in-Ok-Some.found c.scan_through.result c.scan_of.ensures
    (λ files told. sym c.in-Ok-Some.field-0-is ∙ c.in-Ok-Some.ensures.found files told ∙ ap (λ (n : List ℕ). file_named n files) c.as_str.ensures)
    c.scan_through.ensures.means

pub returns-clause-counted : goal.returns-clause-counted
returns-clause-counted g c =
    counted_since (g.S.Store.reads c.args.store.now) (g.S.Store.reads c.find.new.self) (g.S.Store.reads c.scan_through.new.store) c.args.totals.now c.scan_through.new.totals
    c.find.ensures.reads c.scan_through.ensures.counted

pub returns-in-Ok-None-clause-cause : goal.returns-in-Ok-None-clause-cause
returns-in-Ok-None-clause-cause g c = record { later = c.find.ensures.cause.later; failed = λ e. absurd cc }

pub returns-in-Err-clause-means : goal.returns-in-Err-clause-means
returns-in-Err-clause-means g c = λ files scan told is no_fault. absurd (no_fault refl)

pub returns-clause-did : goal.returns-clause-did
returns-clause-did g c = λ scan is.
    let here = c.scan_of.result.now in
    let same = same_scan (scan_at c.args.plan.now c.args.fragment) here scan c.scan_of.ensures is in
    let found : (told : Files) → g.W.World.files ≡ Some told → Some c.in-Ok-Some.found ≡ file_named scan.file told =
    subst (λ (s : Scan). (told : Files) → g.W.World.files ≡ Some told → Some c.in-Ok-Some.found ≡ file_named s.file told) same
    (λ told are. sym c.in-Ok-Some.field-0-is ∙ c.in-Ok-Some.ensures.found told are ∙ ap (λ (n : List ℕ). file_named n told) c.as_str.ensures) in
    was_found c.in-Ok-Some.found c.scan_through.result found
    (subst (λ (log : Log). ScansFileThrough g.W.World.files c.args.cache.now c.in-Ok-Some.found scan
    (standing c.args.seat.now c.args.evictor.now log c.args.totals.now)
    (standing c.scan_through.new.seat c.scan_through.new.evictor (g.S.Store.reads c.scan_through.new.store) c.scan_through.new.totals)
    c.scan_through.result) c.find.ensures.reads (c.scan_through.ensures.did scan is))

pub returns-in-Ok-None-clause-did : goal.returns-in-Ok-None-clause-did
returns-in-Ok-None-clause-did g c = λ scan is.
    no_file (ap (λ (log : Log). standing c.args.seat.now c.args.evictor.now log c.args.totals.now) c.find.ensures.reads)

pub returns-in-Err-clause-did : goal.returns-in-Err-clause-did
returns-in-Err-clause-did g c = λ scan is.
    read_fault (ap (λ (log : Log). standing c.args.seat.now c.args.evictor.now log c.args.totals.now) c.find.ensures.reads)

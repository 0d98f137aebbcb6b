use Rattle.std.proofs.lemmas.Result.{IfOk-weaker}
use Rattle.std.specs.Prelude.{◌≡◌, Some, refl}
use Rattle.fragment_plan.specs.declared.fragment.Scan.{Scan}
use Rattle.fragment_folds.specs.Scans.{scan_at}
use Rattle.fragment_scan.specs.Outcomes.{IsOutcomeFor}
use Rattle.plan_run.specs.Words.{ScanHasWords}
use Rattle.data_path.proofs.Running.{if_scanned}
use Rattle.data_path.proofs.ScanWords.{scan_words}
use Rattle.data_path.proofs.cache_scanner.CacheScannerScanner.scan.Goals as goal

pub returns-clause-worded : goal.returns-clause-worded
returns-clause-worded g c =
    let found = scan_at c.args.plan.now c.args.fragment in
    IfOk-weaker c.scan_with.result (λ o. (scan : Scan) → found ≡ Some scan → IsOutcomeFor scan o) ScanHasWords
    (λ o is. scan_words found o c.requires.is_scan is) c.scan_with.ensures.is_for

pub returns-clause-scanned : goal.returns-clause-scanned
returns-clause-scanned g c =
    if_scanned g.W.World.files g.S.Store.reads c.args.self.now _ c.args.plan.now c.args.fragment c.scan_with.result refl c.scan_with.ensures.did

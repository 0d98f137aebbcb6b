use Rattle.std.proofs.Common.{ap, Option}
use Rattle.std.specs.Option.{unwrap_or}
use Rattle.fragment_plan.specs.declared.fragment.Scan.{Scan}
use Rattle.fragment_folds.specs.Scans.{scan_at, empty_scan}
use Rattle.fragment_folds.specs.Folding.{FoldOf, rows_in}
use Rattle.fragment_folds.proofs.Folds.{batched}
use Rattle.fragment_folds.proofs.fold.Fold.fold_batch.Goals as goal

pub returns : goal.returns
returns c =
    let in_fold = c.self.inside in
    let scan = unwrap_or (scan_at in_fold.plan in_fold.fragment) empty_scan in
    let f : FoldOf = record { scan = scan; rows = in_fold.rows; state = in_fold.state } in
    let few = rw (← c.self.view_is) at c.requires.few in
    rw (← c.self.view_is) (batched f c.scan_at-scan.result.now (rows_in c.args.columns.now) c.batch_rows-rows.result c.args.columns.now c.replace-state.result c.in_ok-state.state
    (ap (λ (o : Option Scan). unwrap_or o empty_scan) c.scan_at-scan.ensures.scan) c.replace-state.ensures.value c.batch_rows-rows.ensures few c.in_ok-state.ensures.state)

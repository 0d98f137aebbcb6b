use Rattle.std.proofs.Common.{◌∙◌, ap, ℕ, [], replicate, List}
use Rattle.std.specs.Option.{unwrap_or}
use Rattle.orc_values.specs.declared.value.Value.{Value}
use Rattle.fragment_plan.specs.declared.fragment.FoldKind.TheVariants as kind
use Rattle.group_counts.specs.Tally.{plus}
use Rattle.fold_rows.specs.declared.state.State.{State}
use Rattle.fragment_folds.specs.Scans.{scan_at, empty_scan}
use Rattle.fold_rows.specs.States.{with_rows}
use Rattle.fragment_folds.specs.Folding.{FoldOf}
use Rattle.fragment_folds.proofs.Folds.{counted}
use Rattle.fragment_folds.proofs.fold.Fold.fold_count.Goals as goal

pub returns : goal.returns
returns c =
    let none : List Value = [] in
    let in_fold = c.self.inside in
    let scan = unwrap_or (scan_at in_fold.plan in_fold.fragment) empty_scan in
    let f : FoldOf = record { scan = scan; rows = in_fold.rows; state = in_fold.state } in
    let count = rw (← c.self.view_is) at c.requires.count in
    let all = rw (← c.self.view_is) at c.requires.all in
    rw (← c.self.view_is) (
    ap (λ (n : ℕ). record { scan = scan; rows = n; state = c.count_with.result }) c.saturating_add-self-inside.ensures
    ∙ ap (λ (s : State). record { scan = scan; rows = plus in_fold.rows c.args.rows; state = s }) (c.count_with.ensures.state ∙ ap (λ (s : State). with_rows kind.Count s (replicate c.args.rows none)) c.replace-state.ensures.value)
    ∙ counted f c.args.rows count all)

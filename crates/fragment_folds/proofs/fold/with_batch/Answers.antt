use Rattle.std.proofs.Common.{◌∙◌, ap, sym, length, ◌==◌, List}
use Rattle.std.proofs.lemmas.Result.{IfOk-weaker}
use Rattle.orc_values.specs.declared.value.Value.{Value}
use Rattle.fragment_plan.specs.declared.test.Test.{Test}
use Rattle.batch_masks.specs.Rows.{rows_of}
use Rattle.fold_rows.specs.States.{with_rows}
use Rattle.fragment_folds.proofs.Folds.{none-is, whole-passes}
use Rattle.fragment_folds.proofs.fold.with_batch.Goals as goal

pub returns-then-is_empty-clause-state : goal.returns-then-is_empty-clause-state
returns-then-is_empty-clause-state c =
    let tests = c.args.scan.now.tests in
    let rows = rows_of c.args.rows c.args.columns.now in
    let none = none-is tests (ap (λ (l : List Test). length l == 0) (sym c.as_slice.ensures) ∙ sym c.is_empty.ensures ∙ c.if-is_empty.true) in
    IfOk-weaker c.with_whole.result _ _
    (λ new e. e ∙ ap (λ (l : List (List Value)). with_rows c.args.scan.now.fold c.args.state l) (whole-passes tests rows none))
    c.with_whole.ensures.state

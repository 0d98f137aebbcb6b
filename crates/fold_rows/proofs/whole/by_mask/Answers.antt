use Rattle.std.proofs.Common.{rules, ◌∙◌, ◌≡◌, ap, replicate, true, List}
use Rattle.std.proofs.lemmas.Result.{IfOk-weaker}
use Rattle.orc_values.specs.declared.value.Value.{Value}
use Rattle.fold_rows.specs.States.{with_rows}
use Rattle.fold_rows.proofs.Rows.{kept-whole}
use Rattle.fold_rows.proofs.whole.by_mask.Goals as goal

pub returns-clause-state : goal.returns-clause-state
returns-clause-state c =
    let mask : c.deref_mut.result.now ≡ replicate c.args.rows true = search rules in
    let all = kept-whole c.args.rows c.args.columns.now c.deref_mut.result.now mask in
    IfOk-weaker c.with_kept_rows.result _ _ (λ new e. e ∙ ap (λ (l : List (List Value)). with_rows c.args.fold.now c.args.state l) all)
    c.with_kept_rows.ensures.state

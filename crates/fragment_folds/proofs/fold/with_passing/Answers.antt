use Rattle.std.proofs.Common.{◌∙◌, ◌+◌, map, sym, ap, subst, arith, List, ℕ}
use Rattle.std.proofs.lemmas.Result.{IfOk-weaker}
use Rattle.orc_values.specs.declared.value.Value.{Value}
use Rattle.batch_masks.specs.Rows.{rows_of, passes}
use Rattle.batch_masks.specs.Totals.{SumOfFew}
use Rattle.fold_rows.specs.States.{with_rows, sum_in}
use Rattle.fragment_folds.proofs.Folds.{length-mask, kept-mask}
use Rattle.fragment_folds.proofs.fold.with_passing.Goals as goal

pub with_kept_rows-requires-clause-rows : goal.with_kept_rows-requires-clause-rows
with_kept_rows-requires-clause-rows c =
    let mask = c.deref_mut.ensures.value ∙ c.in_ok-mask.ensures ∙ ap (λ tests. map (passes tests) (rows_of c.args.rows c.args.columns.now)) c.as_slice.ensures in
    λ k d lt. c.requires.rows k d lt ∙ sym (length-mask c.args.scan.now c.args.rows c.args.columns.now c.deref_mut.result.now mask)

pub with_kept_rows-requires-clause-few : goal.with_kept_rows-requires-clause-few
with_kept_rows-requires-clause-few c =
    let mask = c.deref_mut.ensures.value ∙ c.in_ok-mask.ensures ∙ ap (λ tests. map (passes tests) (rows_of c.args.rows c.args.columns.now)) c.as_slice.ensures in
    omega (arith, c.requires.few, length-mask c.args.scan.now c.args.rows c.args.columns.now c.deref_mut.result.now mask)

pub returns-clause-state : goal.returns-clause-state
returns-clause-state c =
    let mask = c.deref_mut.ensures.value ∙ c.in_ok-mask.ensures ∙ ap (λ tests. map (passes tests) (rows_of c.args.rows c.args.columns.now)) c.as_slice.ensures in
    IfOk-weaker c.with_kept_rows.result _ _ (λ new e. e ∙ ap (λ (l : List (List Value)). with_rows c.args.scan.now.fold c.args.state l) (kept-mask c.args.scan.now c.args.rows c.args.columns.now c.deref_mut.result.now mask)) c.with_kept_rows.ensures.state

pub returns-clause-bound : goal.returns-clause-bound
returns-clause-bound c =
    let mask = c.deref_mut.ensures.value ∙ c.in_ok-mask.ensures ∙ ap (λ tests. map (passes tests) (rows_of c.args.rows c.args.columns.now)) c.as_slice.ensures in
    IfOk-weaker c.with_kept_rows.result _ _ (λ new e. subst (λ (n : ℕ). SumOfFew (c.args.given + n) (sum_in new)) (length-mask c.args.scan.now c.args.rows c.args.columns.now c.deref_mut.result.now mask) e) c.with_kept_rows.ensures.bound

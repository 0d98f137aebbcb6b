use Rattle.std.proofs.Common.{◌∙◌, ap, ◌++◌, ◌∷◌, take, List, ℕ}
use Rattle.orc_values.specs.declared.value.Value.{Value}
use Rattle.fragment_outcome.specs.Text.{value_text, tabbed}
use Rattle.fragment_outcome.proofs.OnTheWay.{Wrote-then, Wrote-as, Wrote-none}
use Rattle.fragment_outcome.proofs.Texts.{flat_map_next}
use Rattle.fragment_outcome.proofs.value_text.put_others.Goals as goal

pub loop-value-init : goal.loop-value-init
loop-value-init g c = Wrote-none _ _ _

pub loop-value-preserved : goal.loop-value-preserved
loop-value-preserved g c =
    let i = c.loop-value.value-index in
    let values = c.args.values.now in
    Wrote-as (Wrote-then c.loop-value.invariant (Wrote-then c.put.ensures c.put_value.ensures))
    (ap (λ (v : Value). tabbed (take i values) ++ 9 ∷ value_text v) c.value-item.is ∙ flat_map_next (λ v. 9 ∷ value_text v) values i c.value-item.result c.loop-value-test.true)

use Rattle.std.proofs.Common.{◌≡◌, refl, sym, subst, List, ℕ}
use Rattle.std.proofs.lemmas.Result.{IfOk-weaker}
use Rattle.data_path.specs.Steps.{ChosenPlan}
use Rattle.data_path.specs.Steps.ChosenPlan.{stored, generated}
use Rattle.data_path.proofs.TookPlan.{took_plan}
use Rattle.data_path.proofs.run.plan_for.Goals as goal

pub returns-in-None-clause-ok : goal.returns-in-None-clause-ok
returns-in-None-clause-ok g c =
    IfOk-weaker c.read_all.result _ _
    (λ bytes read. stored c.in-None.is (took_plan (g.P.Source.left c.args.plan.now) (g.P.Source.left c.read_all.new.plan) bytes read)) c.read_all.ensures.read

pub returns-in-Ok-clause-ok : goal.returns-in-Ok-clause-ok
returns-in-Ok-clause-ok g c =
    let source = c.args.plan.now in
    subst (λ (bytes : List ℕ). ChosenPlan c.args.options.now (g.P.Source.left source) (g.P.Source.left source) (source ≡ source) bytes)
    (sym c.in-Ok.ensures) (generated c.in-Some.is refl)

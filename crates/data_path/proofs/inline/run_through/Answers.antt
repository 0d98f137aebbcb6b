use Rattle.std.proofs.Common.{rules}
use Rattle.std.specs.Prelude.{List, IfOk}
use Rattle.std.proofs.lemmas.Result.{IfOk-weaker}
use Rattle.fragment_outcome.specs.declared.outcome.Outcome.{Outcome}
use Rattle.plan_run.specs.Scanned.{AreSteps}
use Rattle.scan_inline.specs.Through.{Standing, standing}
use Rattle.scan_inline.specs.ThroughLaws.{standing_is}
use Rattle.data_path.specs.Geometries.{RunsThrough}
use Rattle.data_path.specs.Scanners.{HasScanned}
use Rattle.data_path.proofs.Running.{runs_through}
use Rattle.data_path.proofs.inline.run_through.Goals as goal

pub returns-clause-ran : goal.returns-clause-ran
returns-clause-ran g c =
    let made = c.new-scanner.ensures in
    let first = c.new-scanner.result in
    let last = c.run_plan.new.scanner in
    let plan = c.args.plan.now in
    let old = standing c.args.seat.now c.args.evictor.now (g.S.Store.reads c.args.last.now) c.args.totals.now in
    let new = standing last.seat.now last.evictor.now (g.S.Store.reads last.store.now) last.totals.now in
    let ran = IfOk-weaker c.run_plan.result (λ (os : List Outcome). AreSteps (HasScanned g.W.World.files g.S.Store.reads) plan 0 os first last)
    (λ (os : List Outcome). RunsThrough g.W.World.files c.args.cache.now plan 0 os old new)
    (λ os steps. rw (made.seat, made.evictor, made.store, made.totals) at
    (runs_through g.W.World.files g.S.Store.reads plan c.args.cache.now os 0 first last made.cache steps)) c.run_plan.ensures.steps in
    standing_is (λ (s : Standing _). IfOk c.run_plan.result (λ os. RunsThrough g.W.World.files c.args.cache.now plan 0 os old s))
    g.S.Store.reads last.seat.now _ last.evictor.now _ last.store.now _ last.totals.now _ (search rules) (search rules) (search rules)
    (search rules) ran

use Rattle.std.proofs.Common.{◌≡◌, ◌<◌, length, get_or, ℕ, List, None, arith, subst, sym, ◌∙◌, ap}
use Rattle.std.proofs.lemmas.List.Elements.{All-weaker}
use Rattle.std.proofs.lemmas.Result.{IfOk-weaker}
use Rattle.fragment_plan.specs.declared.fragment.Fragment.{Fragment}
use Rattle.fragment_plan.specs.declared.fragment.Work.{Work}
use Rattle.fragment_plan.specs.declared.fragment.Work.TheVariants as work
use Rattle.fragment_plan.specs.Bounds.{WorkInBounds}
use Rattle.fragment_outcome.specs.declared.outcome.Outcome.{Outcome}
use Rattle.fragment_meaning.specs.PlanOutcomes.{answers_of, merge_outcome}
use Rattle.fragment_folds.specs.Scans.{scan_at}
use Rattle.plan_run.specs.Scanned.{IsStep}
use Rattle.plan_run.specs.Words.{HasWords}
use Rattle.plan_run.proofs.Merges.{merge_worded}
use Rattle.plan_run.proofs.Stepping.{a_merge, a_scan, scan_by_work}
use Rattle.plan_run.proofs.run.run_fragment.Goals as goal

pub returns-in-Merge-clause-worded : goal.returns-in-Merge-clause-worded
returns-in-Merge-clause-worded g c =
    let plan = c.args.plan.now in
    let fragments = c.fragments.result.now in
    let lent : c.args.number < length plan = omega (arith, c.requires.in_plan) in
    let within = (c.fragments.ensures.bounds c.args.number c.index-fragments-number.result lent).work_is in
    let all : WorkInBounds c.args.number (work.Merge c.in-Merge.sources) =
    subst (λ (w : Work). WorkInBounds c.args.number w)
    (ap (λ (fs : List Fragment). (get_or fs c.args.number c.index-fragments-number.result).work) (sym c.fragments.ensures.list) ∙ c.in-Merge.is) within in
    let below = All-weaker (λ source. source < c.args.number) (λ source. source < length plan) (λ source lt. omega (arith, lt, lent)) c.in-Merge.sources all in
    let words : HasWords (length plan) (merge_outcome (answers_of c.args.before.now c.as_slice.result.now)) =
    subst (λ (sources : List ℕ). HasWords (length plan) (merge_outcome (answers_of c.args.before.now sources))) (sym c.as_slice.ensures)
    (merge_worded c.args.before.now (length plan) c.in-Merge.sources below) in
    IfOk-weaker c.merge_of.result (λ o. o ≡ merge_outcome (answers_of c.args.before.now c.as_slice.result.now)) (HasWords (length plan))
    (λ o is. subst (λ (p : Outcome). HasWords (length plan) p) (sym is) words) c.merge_of.ensures

pub returns-in-Merge-clause-step : goal.returns-in-Merge-clause-step
returns-in-Merge-clause-step g c =
    let plan = c.args.plan.now in
    let lent : c.args.number < length plan = omega (arith, c.requires.in_plan) in
    let none : scan_at plan c.args.number ≡ None =
    scan_by_work plan c.fragments.result.now c.args.number c.index-fragments-number.result (work.Merge c.in-Merge.sources) lent c.fragments.ensures.list c.in-Merge.is in
    IfOk-weaker c.merge_of.result (λ o. o ≡ merge_outcome (answers_of c.args.before.now c.as_slice.result.now))
    (λ o. IsStep g.R.Scanner.scanned plan c.args.number o c.args.scanner.now c.args.scanner.now)
    (λ o is. a_merge g.R.Scanner.scanned plan c.args.number o c.args.scanner.now none) c.merge_of.ensures

pub returns-in-Scan-clause-step : goal.returns-in-Scan-clause-step
returns-in-Scan-clause-step g c =
    let plan = c.args.plan.now in
    let lent : c.args.number < length plan = omega (arith, c.requires.in_plan) in
    let some = scan_by_work plan c.fragments.result.now c.args.number c.index-fragments-number.result _ lent c.fragments.ensures.list c.in-Scan.is in
    IfOk-weaker c.scan.result (λ o. g.R.Scanner.scanned c.args.scanner.now plan c.args.number o c.scan.new.self)
    (λ o. IsStep g.R.Scanner.scanned plan c.args.number o c.args.scanner.now c.scan.new.self)
    (λ o done. a_scan g.R.Scanner.scanned plan c.args.number _ o c.args.scanner.now c.scan.new.self some done) c.scan.ensures.scanned

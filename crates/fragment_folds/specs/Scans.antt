-- The scan that a fragment of a plan is (this project's own).
use Rattle.std.specs.Prelude.{ℕ, List, [], Option, Some, None, slice_get}
use Rattle.fragment_plan.specs.declared.fragment.Fragment.{Fragment}
use Rattle.fragment_plan.specs.declared.fragment.Scan.{Scan}
use Rattle.fragment_plan.specs.declared.fragment.Work.{Work}
use Rattle.fragment_plan.specs.declared.fragment.Work.TheVariants as work
use Rattle.fragment_plan.specs.declared.fragment.FoldKind.TheVariants as fold

abbrev pub scan_of : Work → Option Scan
scan_of (work.Scan scan) = Some scan
scan_of (work.Merge sources) = None

abbrev pub scan_in : Option Fragment → Option Scan
scan_in None = None
scan_in (Some fragment) = scan_of fragment.work

-- the scan that fragment number `number` is, or none where there is no such fragment or it is a merge
abbrev pub scan_at : List Fragment → ℕ → Option Scan
scan_at plan number = scan_in (slice_get plan number)

-- a scan of nothing, where a plan has none
abbrev pub empty_scan : Scan
empty_scan = record { file = []; columns = []; fold = fold.Count; tests = [] }

use Rattle.std.proofs.Common.{◌≡◌, ◌+◌, ◌≤◌, [], length}
use Rattle.plan_words.specs.Lines.{lines_of}
use Rattle.fragment_plan.specs.Plan.{plan_from}
use Rattle.fragment_plan.proofs.reader.read_plan.Given as goal

abbrev pub invariant-loop-line : goal.invariant-loop-line
invariant-loop-line l =
    (plan_from (l.number + 1) l.fragments l.lines ≡ plan_from 1 [] (lines_of l.bytes)) × (l.number + length l.lines ≤ 1048577)

abbrev pub decreases-loop-line : goal.decreases-loop-line
decreases-loop-line l = length l.lines

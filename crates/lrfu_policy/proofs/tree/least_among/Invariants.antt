use Rattle.lrfu_policy.specs.Victim.{IsLeast, Among}
use Rattle.lrfu_policy.proofs.tree.least_among.Given as goal

abbrev pub invariant-loop-passed : goal.invariant-loop-passed
invariant-loop-passed l = IsLeast (Among l.first l.passed) l.entries l.after l.least

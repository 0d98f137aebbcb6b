use Rattle.std.proofs.Common.{◌≡◌, length}
use Rattle.policy_tests.proofs.victims.sync_all.Given as goal

abbrev pub invariant-loop-header : goal.invariant-loop-header
invariant-loop-header l =
    (goal.iterator-loop-header).can_next l.header-iterator × (goal.iterator-loop-header).is_finite l.header-iterator × (length l.policy.entries ≡ 8)

use Rattle.std.proofs.Common.{◌≡◌, length}
use Rattle.policy_tests.proofs.syncs.leaves_rows.Given as goal

abbrev pub invariant-loop-key : goal.invariant-loop-key
invariant-loop-key l =
    (goal.iterator-loop-key).can_next l.key-iterator × (goal.iterator-loop-key).is_finite l.key-iterator × (length l.policy.entries ≡ 1)

use Rattle.std.proofs.Common.{◌≡◌, ◌<◌, ◌≤◌, length}
use Rattle.lrfu_policy.specs.Tournament.{AreWinnersBut}
use Rattle.lrfu_policy.proofs.tree.mend.Given as goal

-- all is right but the winner at `node`
abbrev pub invariant-loop-node : goal.invariant-loop-node
invariant-loop-node l = record {
  len : length l.winners ≡ length l.entries;
  within : l.node ≤ length l.entries;
  inside : 0 < l.node → l.node < length l.entries;
  tree : AreWinnersBut l.entries l.winners l.node;
}

abbrev pub decreases-loop-node : goal.decreases-loop-node
decreases-loop-node l = l.node

use Rattle.std.proofs.Common.{◌≡◌, take}
use Rattle.group_counts.proofs.seen.is_same_text.Given as goal

abbrev pub invariant-loop-place : goal.invariant-loop-place
invariant-loop-place l = take l.place l.one ≡ take l.place l.two

use Rattle.std.proofs.Common.{◌*◌, ◌^◌}
use Rattle.buddy_arena.specs.Candidates.{IsFoundBelow}
use Rattle.buddy_arena.proofs.windows.window.Given as goal

abbrev pub invariant-loop-index : goal.invariant-loop-index
invariant-loop-index l = IsFoundBelow 64 l.word l.movable l.order (l.index * 2 ^ l.order) l.best

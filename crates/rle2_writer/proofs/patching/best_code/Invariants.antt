use Rattle.std.proofs.Common.{◌<◌, ◌≤◌}
use Rattle.std.specs.Prelude.{IfSome}
use Rattle.rle2_writer.proofs.patching.best_code.Given as goal

abbrev pub invariant-loop-code : goal.invariant-loop-code
invariant-loop-code l = record {
  least : l.code ≤ 31;
  found : IfSome l.found (λ code. code < 31);
}

abbrev pub decreases-loop-code : goal.decreases-loop-code
decreases-loop-code l = l.code

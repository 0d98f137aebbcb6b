use Rattle.std.proofs.Common.{◌≡◌, take}
use Rattle.stripe_writer.specs.Parts.{body_of}
use Rattle.stripe_writer.proofs.joining.join_streams.Given as goal

abbrev pub invariant-loop-i : goal.invariant-loop-i
invariant-loop-i l = l.body.items ≡ body_of (take l.i l.parts)

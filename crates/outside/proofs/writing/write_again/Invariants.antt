use Rattle.std.specs.Io.KnownBytes.{Keeps}
use Rattle.outside.proofs.writing.write_again.Given as goal

abbrev pub invariant-loop : goal.invariant-loop
invariant-loop g l = Keeps (g.P.Write.contents l.initial.output) (g.P.Write.contents l.output)

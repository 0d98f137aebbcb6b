use Rattle.rle2_writer.proofs.patching.least_of.Given as goal

abbrev pub invariant-loop-value : goal.invariant-loop-value
invariant-loop-value l = Unit {0}

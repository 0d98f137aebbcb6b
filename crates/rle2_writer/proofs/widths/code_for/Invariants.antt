use Rattle.rle2_writer.proofs.widths.code_for.Given as goal

abbrev pub invariant-loop-code : goal.invariant-loop-code
invariant-loop-code l = Unit {0}

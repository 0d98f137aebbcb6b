use Rattle.rle2_writer.proofs.widths.byte_len.Given as goal

abbrev pub invariant-loop-len : goal.invariant-loop-len
invariant-loop-len l = Unit {0}

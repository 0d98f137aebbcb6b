-- Which faults of a tail or of a stripe's footer are printed. Source: this project's own.
use Rattle.orc_tail.specs.declared.fault.TailFault.{TailFault}
use Rattle.orc_tail.specs.declared.fault.TailFault.TheVariants as fault

-- the fault has words: a compression is a failure of its own, and a failed read or want of memory is no fault of the file
abbrev pub TailHasWords : TailFault → Type 0
TailHasWords (fault.Compressed kind) = ⊥
TailHasWords (fault.Read failed) = ⊥
TailHasWords fault.NoMemory = ⊥
TailHasWords why = Unit {0}

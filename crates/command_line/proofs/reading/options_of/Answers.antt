use Rattle.std.proofs.Common.{inl, inr, arith}
use Rattle.command_line.proofs.reading.options_of.Goals as goal

pub number_given-requires : goal.number_given-requires
number_given-requires c = elim c.requires.generated [
  | inl absent ↦ inl absent
  | inr given ↦ inr (record { least = 0; most = 1000000; fits = omega arith; given = given })
]

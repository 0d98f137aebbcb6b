use Rattle.std.proofs.Common.{◌≡◌, length}
use Rattle.orc_tail.specs.Reading.{numbers_from, behind}
use Rattle.orc_proto.specs.Reading.{numbers_of}
use Rattle.orc_tail.proofs.types.take_numbers.Given as goal

abbrev pub invariant-loop-number : goal.invariant-loop-number
invariant-loop-number l = behind l.into.items (numbers_from l.numbers) ≡ behind l.fn.into.items (numbers_from (numbers_of l.bytes))

abbrev pub decreases-loop-number : goal.decreases-loop-number
decreases-loop-number l = length l.numbers

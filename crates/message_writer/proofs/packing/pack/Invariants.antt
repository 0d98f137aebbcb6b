use Rattle.std.proofs.Common.{◌≡◌, ◌++◌, drop}
use Rattle.message_writer.specs.Written.{packed}
use Rattle.message_writer.proofs.packing.pack.Given as goal

abbrev pub invariant-loop-number : goal.invariant-loop-number
invariant-loop-number l = l.bytes.items ++ packed (drop l.number-index l.numbers) ≡ packed l.numbers

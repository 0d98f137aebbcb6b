use Rattle.std.proofs.Common.{◌≡◌, Ok, length}
use Rattle.orc_tail.specs.Reading.{fields_from}
use Rattle.orc_proto.specs.Reading.{fields_of}
use Rattle.orc_tail.proofs.message.read_message.Given as goal

abbrev pub invariant-loop-field : goal.invariant-loop-field
invariant-loop-field g l =
    fields_from (λ s field. Ok (g.M.Message.with_field s field)) l.message l.fields ≡ fields_from (λ s field. Ok (g.M.Message.with_field s field)) l.fn.start (fields_of l.bytes)

abbrev pub decreases-loop-field : goal.decreases-loop-field
decreases-loop-field g l = length l.fields

use Rattle.orc_tail.proofs.TypeLaws.{types_are_read, types_are_messages}
use Rattle.orc_tail.proofs.laws.types_are_read.Goals as goal

pub returns-clause-read : goal.returns-clause-read
returns-clause-read c = types_are_read c.messages_are_read.ensures.read c.packed_numbers_are_read.ensures.read

pub returns-clause-only : goal.returns-clause-only
returns-clause-only c = types_are_messages c.messages_are_read.ensures.read c.messages_are_read.ensures.only
    c.packed_numbers_are_read.ensures.read c.packed_numbers_are_read.ensures.only

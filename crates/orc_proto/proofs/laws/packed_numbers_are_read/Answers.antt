use Rattle.orc_proto.specs.Varint.{SpellsVarint}
use Rattle.orc_proto.specs.Reading.{varint_at}
use Rattle.orc_proto.proofs.Items.{all_again, all_found, all_end}
use Rattle.orc_proto.proofs.Varints.{varints_read}
use Rattle.orc_proto.proofs.laws.packed_numbers_are_read.Goals as goal

pub returns-clause-read : goal.returns-clause-read
returns-clause-read c = λ bytes numbers joins. all_again SpellsVarint varint_at varints_read bytes numbers joins

pub returns-clause-only : goal.returns-clause-only
returns-clause-only c = λ bytes numbers e. all_found SpellsVarint varint_at varints_read bytes numbers e

pub returns-clause-first_fault : goal.returns-clause-first_fault
returns-clause-first_fault c = λ bytes. all_end SpellsVarint varint_at varints_read bytes

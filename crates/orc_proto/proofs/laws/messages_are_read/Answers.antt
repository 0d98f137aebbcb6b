use Rattle.orc_proto.specs.Message.{SpellsField}
use Rattle.orc_proto.specs.Reading.{field_at}
use Rattle.orc_proto.proofs.Items.{all_again, all_found, all_end}
use Rattle.orc_proto.proofs.Messages.{fields_read}
use Rattle.orc_proto.proofs.laws.messages_are_read.Goals as goal

pub returns-clause-read : goal.returns-clause-read
returns-clause-read c = λ bytes fields joins. all_again SpellsField field_at fields_read bytes fields joins

pub returns-clause-only : goal.returns-clause-only
returns-clause-only c = λ bytes fields e. all_found SpellsField field_at fields_read bytes fields e

pub returns-clause-first_fault : goal.returns-clause-first_fault
returns-clause-first_fault c = λ bytes. all_end SpellsField field_at fields_read bytes

use Rattle.std.proofs.Common.{map, take}
use Rattle.footer_writer.specs.Made.{IsTypeSoFar}
use Rattle.footer_writer.proofs.footer.type_message.Given as goal

abbrev pub invariant-loop-name : goal.invariant-loop-name
invariant-loop-name l = IsTypeSoFar l.message.items l.file_type.kind l.file_type.subtypes.items (map (λ name. name.now) (take l.name-index l.file_type.names.items))

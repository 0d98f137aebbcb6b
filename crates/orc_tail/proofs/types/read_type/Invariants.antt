use Rattle.std.proofs.Common.{◌≡◌, length}
use Rattle.orc_tail.specs.Reading.{fields_from}
use Rattle.orc_tail.specs.Messages.{type_field, type_of}
use Rattle.orc_tail.specs.Views.{type_view}
use Rattle.orc_tail.proofs.types.read_type.Given as goal

abbrev pub invariant-loop-field : goal.invariant-loop-field
invariant-loop-field l = fields_from type_field (type_view l.found) l.fields ≡ type_of l.bytes

abbrev pub decreases-loop-field : goal.decreases-loop-field
decreases-loop-field l = length l.fields

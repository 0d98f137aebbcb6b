use Rattle.orc_proto.proofs.Varints.{varint_again, varint_cut, varint_long}
use Rattle.orc_proto.proofs.Shortest.{shortest_spells, shortest_is_least}
use Rattle.orc_proto.proofs.laws.varints_are_read.Goals as goal

pub returns-clause-read : goal.returns-clause-read
returns-clause-read c = λ offset bytes rest value spelled. varint_again offset bytes rest value spelled

pub returns-clause-spelled : goal.returns-clause-spelled
returns-clause-spelled c = λ value fits. shortest_spells value fits

pub returns-clause-least : goal.returns-clause-least
returns-clause-least c = λ bytes value spelled. shortest_is_least bytes value spelled

pub returns-clause-truncated : goal.returns-clause-truncated
returns-clause-truncated c = λ offset bytes tops few. varint_cut offset bytes tops few

pub returns-clause-long : goal.returns-clause-long
returns-clause-long c = λ offset bytes rest tops all. varint_long offset bytes rest tops all

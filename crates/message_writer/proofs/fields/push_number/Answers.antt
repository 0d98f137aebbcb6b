use Rattle.std.proofs.Common.{◌*◌}
use Rattle.orc_proto.specs.Varint.{shortest}
use Rattle.message_writer.proofs.Spellings.{number_added, ok_then, joined_twice}
use Rattle.message_writer.proofs.fields.push_number.Goals as goal

pub returns-clause-written : goal.returns-clause-written
returns-clause-written c =
    ok_then c.push_varint-2.result (λ after same. joined_twice (shortest (8 * c.args.field)) (shortest c.args.number) c.in_ok-keyed.keyed.items c.args.message.items after.items c.in_ok-keyed.ensures same) c.push_varint-2.ensures

pub returns-clause-field : goal.returns-clause-field
returns-clause-field c =
    ok_then c.push_varint-2.result (λ after same. number_added c.varints_are_read.ensures.spelled c.args.message.items after.items c.args.field c.args.number c.requires.at_least_one c.requires.at_most c.ranges.number.fits
    (joined_twice (shortest (8 * c.args.field)) (shortest c.args.number) c.in_ok-keyed.keyed.items c.args.message.items after.items c.in_ok-keyed.ensures same)) c.push_varint-2.ensures

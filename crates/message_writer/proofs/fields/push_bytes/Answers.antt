use Rattle.std.proofs.Common.{◌*◌, ◌+◌, ◌^◌, ◌<◌, length, rules}
use Rattle.orc_proto.specs.Varint.{shortest}
use Rattle.message_writer.proofs.Spellings.{bytes_added, joined_thrice}
use Rattle.message_writer.proofs.fields.push_bytes.Goals as goal

pub returns-clause-field : goal.returns-clause-field
returns-clause-field c =
    let bytes = c.args.bytes.now in
    let after = c.extend_from_slice.new.self.items in
    let fits : length bytes < 2 ^ 64 = search rules in
    bytes_added c.varints_are_read.ensures.spelled c.args.message.items after c.args.field bytes c.requires.at_least_one c.requires.at_most fits
    (joined_thrice (shortest (8 * c.args.field + 2)) (shortest (length bytes)) bytes c.in_ok-keyed.keyed.items c.in_ok-counted.counted.items c.args.message.items after c.in_ok-keyed.ensures c.in_ok-counted.ensures c.in_ok-extend_from_slice.ensures.items)

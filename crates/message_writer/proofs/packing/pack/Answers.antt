use Rattle.message_writer.proofs.Spellings.{packed_spells, all_packed}
use Rattle.message_writer.proofs.packing.pack.Goals as goal

pub returns-clause-spelled : goal.returns-clause-spelled
returns-clause-spelled c =
    let spelled = packed_spells c.varints_are_read.ensures.spelled c.args.numbers.now c.type_inv.numbers in
    all_packed c.loop-number.bytes.items c.args.numbers.now c.loop-number.number-index c.loop-number-test.false c.loop-number.invariant spelled

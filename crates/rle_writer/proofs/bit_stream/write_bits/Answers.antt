use Rattle.std.proofs.Common.{[]}
use Rattle.rle_writer.proofs.bit_stream.write_bits.Goals as goal
use Rattle.rle_writer.proofs.Steps.{IfOk-then}

pub returns : goal.returns
returns c =
    let law = c.bits_are_bits_of_bytes.ensures.spelled in
    let told = c.in_ok-octets.ensures in
    IfOk-then c.write_bytes.result c.write_bytes.ensures (λ stream spelled. (law stream.items [] c.args.flags.now).1 (c.in_ok-octets.octets.items, (rw c.deref.ensures.value at spelled), told.0, told.1))

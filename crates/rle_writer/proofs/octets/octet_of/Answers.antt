use Rattle.std.proofs.Common.{arith}
use Rattle.rle_writer.proofs.octets.octet_of.Goals as goal
use Rattle.rle_writer.proofs.Bits.{octet_is}

pub returns : goal.returns
returns c = octet_is c.args.eight.now c.from-number.result c.from.result c.from-2.result c.from-3.result c.from-4.result c.from-5.result c.from-6.result c.from-7.result (omega (arith, c.type_inv.eight, c.told-eight)) c.from-number.ensures c.from.ensures c.from-2.ensures c.from-3.ensures c.from-4.ensures c.from-5.ensures c.from-6.ensures c.from-7.ensures

use Rattle.std.proofs.Common.{arith}
use Rattle.rle_writer.proofs.adding.put_varint.Goals as goal
use Rattle.rle_writer.proofs.Steps.{OnOk-then}
use Rattle.rle_writer.proofs.Varints.{put_written}

pub returns-clause-ok : goal.returns-clause-ok
returns-clause-ok c =
    OnOk-then c.put.result c.put.ensures.ok (λ written. put_written c.write_varint.new.into c.varint_len-len.result c.write_varint.result c.args.number c.args.out.now.items c.put.new.out.items (omega (arith, c.varint_len-len.ensures.len, c.write_varint.ensures.len)) c.write_varint.ensures.spelled written)

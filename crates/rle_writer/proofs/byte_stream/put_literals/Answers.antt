use Rattle.std.proofs.Common.{arith}
use Rattle.rle_writer.proofs.byte_stream.put_literals.Goals as goal
use Rattle.rle_writer.proofs.Steps.{OnOk-then}
use Rattle.rle_writer.proofs.Runs.{literal_bytes}

pub returns : goal.returns
returns c = OnOk-then c.put-2.result c.put-2.ensures.ok (λ written. literal_bytes c.args.out.now.items c.put.new.out.items c.put-2.new.out.items c.args.values.now _ c.requires.some c.requires.most (omega arith) c.in_ok-put.ensures.ok written)

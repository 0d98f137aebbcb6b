use Rattle.std.proofs.Common.{arith}
use Rattle.rle_writer.proofs.byte_stream.put_repeated.Goals as goal
use Rattle.rle_writer.proofs.Steps.{OnOk-then}
use Rattle.rle_writer.proofs.Runs.{repeated_bytes}

pub returns : goal.returns
returns c = OnOk-then c.put.result c.put.ensures.ok (λ written. repeated_bytes c.args.out.now.items c.put.new.out.items _ c.args.value c.args.count c.requires.some c.requires.most (omega arith) written)

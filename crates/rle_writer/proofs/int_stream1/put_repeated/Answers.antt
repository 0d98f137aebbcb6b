use Rattle.std.proofs.Common.{arith}
use Rattle.rle_writer.proofs.int_stream1.put_repeated.Goals as goal
use Rattle.rle_writer.proofs.Steps.{OnOk-then}
use Rattle.rle_writer.proofs.Runs.{ramp_run}

pub returns : goal.returns
returns c = OnOk-then c.put_varint.result c.put_varint.ensures.ok (λ adds. ramp_run c.args.signed c.args.out.now.items c.put.new.out.items c.put_varint.new.out.items _ c.args.delta c.number_of-base.result c.args.count c.args.first.now c.requires.some c.requires.most (omega arith) c.in_ok-put.ensures.ok adds c.number_of-base.ensures)

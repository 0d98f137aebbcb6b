use Rattle.std.proofs.Common.{arith}
use Rattle.rle_writer.proofs.int_stream1.put_literals.Goals as goal
use Rattle.rle_writer.proofs.Steps.{OnOk-then}
use Rattle.rle_writer.proofs.Runs.{literal_run}

pub returns : goal.returns
returns c = OnOk-then c.put_integers.result c.put_integers.ensures (λ adds. literal_run c.args.signed c.args.out.now.items c.put.new.out.items c.put_integers.new.out.items _ c.args.values.now c.requires.some c.requires.most (omega arith) c.in_ok-put.ensures.ok adds)

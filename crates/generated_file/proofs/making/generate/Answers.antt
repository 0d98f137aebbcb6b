use Rattle.generated_file.proofs.Written.{wrote_is}
use Rattle.generated_file.proofs.making.generate.Goals as goal

pub returns-in-Ok-clause-wrote : goal.returns-in-Ok-clause-wrote
returns-in-Ok-clause-wrote g c = wrote_is c.args.number c.args.rows c.in-Ok.writer (g.K.Sink.content c.args.out.now) (g.K.Sink.content c.finish.new.out) c.finish.result
    c.ranges.rows.fits c.in-Ok.ensures c.finish.ensures.wrote

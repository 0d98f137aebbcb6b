use Rattle.std.proofs.Common.{arith}
use Rattle.std.proofs.lemmas.Result.{err_from_is_err_and}
use Rattle.outside.specs.Told.{Extended-none}
use Rattle.outside.proofs.memory_sink.MemorySinkSink.write.Goals as goal

pub returns-in_err-call-clause-front : goal.returns-in_err-call-clause-front
returns-in_err-call-clause-front c =
    let p = err_from_is_err_and c.from_residual.result c.from_residual.ensures.1 in
    rw (p.1, ← c.self.view_is) (0, omega arith, Extended-none c.self.inside.sink.items)

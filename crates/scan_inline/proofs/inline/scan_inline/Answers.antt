use Rattle.std.proofs.Common.{ap}
use Rattle.buffer_pool.specs.declared.seat.PoolSeat.{PoolSeat}
use Rattle.scan_inline.specs.Through.{standing}
use Rattle.scan_inline.specs.Through.ScansThrough.{refused}
use Rattle.scan_inline.proofs.inline.scan_inline.Goals as goal

pub returns-in-Err-clause-did : goal.returns-in-Err-clause-did
returns-in-Err-clause-did g c = λ scan is.
    refused _ (ap (λ (seat : PoolSeat _). standing seat c.args.evictor.now (g.S.Store.reads c.args.store.now) c.args.totals.now) c.new.ensures.seat)

use Rattle.std.proofs.Common.{rules}
use Rattle.scan_inline.specs.Through.{ScansFileThrough, Standing, standing}
use Rattle.scan_inline.specs.ThroughLaws.{standing_is}
use Rattle.scan_inline.proofs.through.scan_through.Goals as goal

pub returns-clause-did : goal.returns-clause-did
returns-clause-did g c = λ scan is.
    let made = c.new-elevator.ensures in
    let last = c.scan_and_end.new.elevator in
    let old = standing c.args.seat.now c.args.evictor.now (g.S.Store.reads c.args.store.now) c.args.totals.now in
    let did : ScansFileThrough g.W.World.files c.args.cache.now c.args.file scan old
    (standing last.seat.now last.evictor.now (g.S.Store.reads last.store.now) last.totals.now) c.scan_and_end.result =
    rw (made.cache, made.seat, made.evictor, made.store, made.totals) at (c.scan_and_end.ensures.did scan is) in
    standing_is (λ (s : Standing _). ScansFileThrough g.W.World.files c.args.cache.now c.args.file scan old s c.scan_and_end.result)
    g.S.Store.reads last.seat.now _ last.evictor.now _ last.store.now _ last.totals.now _ (search rules) (search rules) (search rules)
    (search rules) did

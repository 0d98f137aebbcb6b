use Rattle.std.proofs.Common.{◌≡◌, length}
use Rattle.pool_rule.specs.Layout.{headers_of}
use Rattle.buffer_pool.specs.Pools.{IsSeatOf, seat_id, sizes_of, view}
use Rattle.cache_consult.specs.Consults.{Consults}
use Rattle.cache_consult.proofs.consulting.consult.Given as goal

abbrev pub invariant-loop-header : goal.invariant-loop-header
invariant-loop-header g l = record {
  of_pool : IsSeatOf l.pool l.seat;
  same : seat_id l.seat ≡ seat_id l.initial.seat;
  entries : length l.policy.entries ≡ headers_of (sizes_of l.pool);
  consults : Consults g.W.World.files (sizes_of l.pool) (seat_id l.initial.seat) l.header l.initial.policy l.policy (view l.initial.seat) (view l.seat);
}

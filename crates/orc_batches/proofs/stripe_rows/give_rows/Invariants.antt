use Rattle.std.proofs.Common.{◌≡◌, ◌≤◌, ◌-◌, length}
use Rattle.orc_batches.specs.Batches.{plans_of, kinds_of, AllFresh}
use Rattle.orc_batches.specs.Walk.{SoFar}
use Rattle.orc_batches.proofs.stripe_rows.give_rows.Given as goal

abbrev pub invariant-loop-given : goal.invariant-loop-given
invariant-loop-given g l = record {
  within : l.given ≤ l.rows;
  plans : plans_of l.readers ≡ plans_of l.fn.readers;
  beside : length l.readers ≡ length l.batches;
  as_many : length l.batches ≡ length l.fn.batches;
  fresh : AllFresh l.readers;
  kinds : g.C.Consumer.kinds l.consumer ≡ kinds_of (plans_of l.fn.readers);
  so_far : SoFar g.F.Feed.rest g.F.Feed.fed g.F.Feed.fault_count g.C.Consumer.ate l.rows l.given l.fn.feed l.feed l.fn.consumer l.consumer l.fn.readers l.readers;
}

abbrev pub decreases-loop-given : goal.decreases-loop-given
decreases-loop-given g l = l.rows - l.given

use Rattle.std.proofs.Common.{◌≡◌, ◌++◌, ◌+◌, ◌≤◌, drop}
use Rattle.std.specs.Prelude.{sum_by}
use Rattle.orc_tail.specs.StripeFooter.{placed}
use Rattle.orc_tail.proofs.stripe_footer.place_streams.Given as goal

abbrev pub invariant-loop-stream : goal.invariant-loop-stream
invariant-loop-stream l = record {
  so_far : l.ranges.items ++ placed l.at (drop l.stream-index l.streams) ≡ placed l.stripe.at l.streams;
  summed : l.at + sum_by (λ s. s.len) (drop l.stream-index l.streams) ≡ l.stripe.at + sum_by (λ s. s.len) l.streams;
  inside : l.at ≤ l.end;
}

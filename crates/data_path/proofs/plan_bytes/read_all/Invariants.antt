use Rattle.std.proofs.Common.{◌≡◌, ◌≤◌, ◌-◌, ℕ, List, take, drop, Some, vec_len}
use Rattle.data_path.proofs.plan_bytes.read_all.Given as goal

abbrev pub invariant-loop-chunk : goal.invariant-loop-chunk
invariant-loop-chunk g l = record {
  few : vec_len l.bytes ≤ l.most;
  front : (told : List ℕ) → g.P.Source.left l.fn.plan ≡ Some told
      → (l.bytes.items ≡ take (vec_len l.bytes) told) × (g.P.Source.left l.plan ≡ Some (drop (vec_len l.bytes) told));
  later : g.P.Source.fault_count l.fn.plan ≤ g.P.Source.fault_count l.plan;
}

abbrev pub decreases-loop-chunk : goal.decreases-loop-chunk
decreases-loop-chunk g l = l.most - vec_len l.bytes

use Rattle.std.proofs.Common.{◌≡◌, arith, ℕ, vec_len, length-take}
use Rattle.data_path.specs.PlanBytes.{GaveFront}
use Rattle.data_path.proofs.PlanBytes.{read_next, read_to_end}
use Rattle.data_path.proofs.plan_bytes.read_all.Goals as goal
use Rattle.data_path.proofs.plan_bytes.read_all.Goals.{else-loop-chunk-test, then-loop-chunk-test+in_ok-read_some+then-branch-eq0}

pub loop-chunk-preserved : goal.loop-chunk-preserved
loop-chunk-preserved g c = record {
  few = omega (arith, length-take {A = ℕ}, c.in_ok-read_some.ensures.fits, c.in_ok-read_some.ensures.len);
  front = read_next (g.P.Source.left c.args.plan.now) (g.P.Source.left c.loop-chunk.plan) (g.P.Source.left c.read_some.new.plan)
      (vec_len c.loop-chunk.bytes) c.in_ok-read_some.field-0 (vec_len c.read_some.new.bytes) c.loop-chunk.bytes.items
      c.read_some.new.bytes.items c.in_ok-read_some.ensures.len c.loop-chunk.invariant.front c.in_ok-read_some.ensures.read;
  later = omega (arith, c.loop-chunk.invariant.later, c.read_some.ensures.cause.later);
}

pub returns-clause-read : goal.returns-clause-read
returns-clause-read g c =
    let whole : GaveFront (g.P.Source.left c.args.plan.now) (g.P.Source.left c.loop-chunk-test.plan) c.args.most c.loop-chunk-test.bytes.items =
    elim c.loop-chunk-test.branch [
      | else-loop-chunk-test w ↦
          let full : vec_len c.loop-chunk.bytes ≡ c.args.most = omega arith in
          rw (w.plan-is, w.bytes-is, ← full) c.loop-chunk.invariant.front
      | then-loop-chunk-test+in_ok-read_some+then-branch-eq0 w ↦
          rw (w.plan-is, w.bytes-is)
          (read_to_end (g.P.Source.left c.args.plan.now) (g.P.Source.left c.loop-chunk.plan) (g.P.Source.left w.read_some.new.plan)
          (vec_len c.loop-chunk.bytes) w.in_ok-read_some.field-0 c.args.most c.loop-chunk.bytes.items
          w.read_some.new.bytes.items w.if-branch-eq0.true c.loop-chunk.invariant.few c.loop-chunk.invariant.front
          w.in_ok-read_some.ensures.read)
    ] in
    rw c.new.ensures whole

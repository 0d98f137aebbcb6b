use Rattle.std.proofs.Common.{◌≡◌, ℕ, ap, ◌∙◌, subst, arith}
use Rattle.pool_rule.specs.declared.geometry.Geometry.{Geometry}
use Rattle.pool_rule.specs.Layout.{headers_of}
use Rattle.buffer_pool.specs.Pools.{seat_id, sizes_of, view}
use Rattle.cache_consult.specs.Consults.{Consults}
use Rattle.cache_consult.specs.LeavingLaws.{consult_granted, consult_nothing}
use Rattle.cache_consult.proofs.Learning.{one_more}
use Rattle.cache_consult.proofs.consulting.consult.Goals as goal

pub loop-header-preserved : goal.loop-header-preserved
loop-header-preserved g c =
    let kept = c.loop-header.invariant in
    let more = c.learn.ensures in
    record {
      of_pool = more.seat.of_pool;
      same = more.seat.same ∙ kept.same;
      entries = more.entries ∙ kept.entries;
      consults = one_more g.W.World.files (sizes_of c.args.pool.now) (seat_id c.args.seat.now) (seat_id c.loop-header.seat) c.loop-header.header c.args.policy.now c.loop-header.policy c.learn.new.policy
          (view c.args.seat.now) (view c.loop-header.seat) (view c.learn.new.seat) kept.same kept.consults more.learns;
    }

pub returns-clause-consults : goal.returns-clause-consults
returns-clause-consults g c =
    let sizes = sizes_of c.args.pool.now in
    let sets = ap (λ (x : Geometry). x.sets) c.geometry-header-end.ensures.sizes in
    let all : c.loop-header.header ≡ headers_of sizes = omega (arith, c.loop-header-test.false, c.loop-header.auto.header-end, sets) in
    let P : ℕ → Type 0 = λ n. Consults g.W.World.files sizes (seat_id c.args.seat.now) n c.args.policy.now c.loop-header.policy (view c.args.seat.now) (view c.loop-header.seat) in
    subst P all c.loop-header.invariant.consults

pub returns-clause-grants : goal.returns-clause-grants
returns-clause-grants g c =
    consult_granted g.W.World.files (sizes_of c.args.pool.now) (seat_id c.args.seat.now) c.loop-header.header c.args.policy.now c.loop-header.policy (view c.args.seat.now) (view c.loop-header.seat) c.loop-header.invariant.consults

pub returns-clause-nothing : goal.returns-clause-nothing
returns-clause-nothing g c =
    consult_nothing g.W.World.files (sizes_of c.args.pool.now) (seat_id c.args.seat.now) c.loop-header.header c.args.policy.now c.loop-header.policy (view c.args.seat.now) (view c.loop-header.seat) c.loop-header.invariant.consults

use Rattle.std.proofs.Common.{◌+◌, ◌≤◌, [], length, refl, sym, ap, ◌∙◌, subst}
use Rattle.std.specs.Prelude.{Some, None}
use Rattle.lrfu_policy.specs.Policy.{Ranking, with_entry}
use Rattle.lrfu_policy.specs.Victim.{Among, IsLeast}
use Rattle.buffer_pool.specs.Pools.{seat_id, sizes_of, view}
use Rattle.cache_eviction.specs.Victims.{begun}
use Rattle.cache_eviction.proofs.Walking.{held_more, went}
use Rattle.cache_eviction.proofs.victims.evict_victim.Goals as goal

pub loop-rank-init : goal.loop-rank-init
loop-rank-init g c =
    record { of_pool = c.requires.seat; same = refl; policy = refl; tried = ([], refl, begun); marks = λ other. refl; grants = λ place. refl }

pub returns-in-Ok-clause-evicts : goal.returns-in-Ok-clause-evicts
returns-in-Ok-clause-evicts g c =
    let kept = c.loop-rank.invariant in
    let P : Ranking → Type 0 = λ p. IsLeast (Among c.args.first c.args.count) p.entries c.loop-rank.after (Some c.in-Some.rank) in
    let is = c.forget.ensures ∙ ap (with_entry c.in-Some.rank.header None) kept.policy in
    went g.W.World.files (sizes_of c.args.pool.now) (seat_id c.args.seat.now) (seat_id c.loop-rank.seat) kept.same c.args.first c.args.count c.args.policy.now c.loop-rank.after c.in-Some.rank
    (view c.args.seat.now) (view c.loop-rank.seat) (view c.evict.new.seat) kept.tried (subst P kept.policy c.in-Some.ensures) c.in-Ok.block c.forget.new.self c.in-Ok.ensures.tries is

pub loop-rank-smaller : goal.loop-rank-smaller
loop-rank-smaller g c =
    let entries = c.loop-rank.policy.entries in
    let P : Ranking → Type 0 = λ p. c.args.first + c.args.count ≤ length p.entries in
    c.walk_ends.ensures.falls c.args.first c.args.count (length entries) entries c.loop-rank.after c.in-Some.rank (subst P (sym c.loop-rank.invariant.policy) c.requires.range) c.in-Some.ensures

pub loop-rank-preserved : goal.loop-rank-preserved
loop-rank-preserved g c =
    let kept = c.loop-rank.invariant in
    let P : Ranking → Type 0 = λ p. IsLeast (Among c.args.first c.args.count) p.entries c.loop-rank.after (Some c.in-Some.rank) in
    let more = c.evict.ensures in
    record {
      of_pool = more.seat.of_pool;
      same = more.seat.same ∙ kept.same;
      policy = kept.policy;
      tried = held_more g.W.World.files (sizes_of c.args.pool.now) (seat_id c.args.seat.now) (seat_id c.loop-rank.seat) kept.same c.args.first c.args.count c.args.policy.now c.loop-rank.after c.in-Some.rank
          (view c.args.seat.now) (view c.loop-rank.seat) (view c.evict.new.seat) kept.tried (subst P kept.policy c.in-Some.ensures) c.in_default-evict.field-0 c.in_default-evict.ensures.tries;
      marks = λ other. more.marks other ∙ kept.marks other;
      grants = λ place. more.grants place ∙ kept.grants place;
    }

use Rattle.std.proofs.Common.{ℕ, false, sym, ◌∙◌, subst}
use Rattle.std.specs.Prelude.{Some, replicate}
use Rattle.std.specs.Option.{is_none}
use Rattle.std.proofs.lemmas.Bool.{false≢true}
use Rattle.cache_eviction.specs.Order.{IsWalkEnd, IsWalkOn}
use Rattle.cache_eviction.specs.OrderLaws.{walk_begins}
use Rattle.cache_room.specs.Searches.{EndsAll}
use Rattle.cache_room.specs.SearchLaws.{searched}
use Rattle.buffer_pool.specs.Pools.{seat_id, sizes_of, view}
use Rattle.cache_room.specs.Rooms.{FreesWay, WaysTried}
use Rattle.cache_room.proofs.Trials.{none_marked, ways_begin}
use Rattle.cache_room.proofs.ways.free_way.Goals as goal

pub returns-in-Some-clause-frees : goal.returns-in-Some-clause-frees
returns-in-Some-clause-frees g c key =
    let files = g.W.World.files in
    let sizes = sizes_of c.args.pool.now in
    let first = c.args.first in
    let start = view c.args.seat.now in
    let e = c.consult.ensures.seat.same in
    let B : ℕ → Type 0 = λ n. WaysTried files sizes n key first start c.args.seen.now (replicate 8 false) (view c.consult.new.seat) in
    let begun = ways_begin files sizes (seat_id c.args.seat.now) key first start c.args.seen.now (replicate 8 false) (view c.consult.new.seat) c.args.policy.now c.consult.new.policy c.requires.known (none_marked 8) c.consult.ensures.consults in
    let R : ℕ → Type 0 = λ n. FreesWay files sizes n key first start c.victim_way.new.seen (view c.victim_way.new.seat) (Some c.in-Some.way) in
    subst R e (c.in-Some.ensures.left key start (subst B (sym e) begun))

pub returns-in-None-clause-frees : goal.returns-in-None-clause-frees
returns-in-None-clause-frees g c key =
    let files = g.W.World.files in
    let sizes = sizes_of c.args.pool.now in
    let first = c.args.first in
    let start = view c.args.seat.now in
    let e = c.consult.ensures.seat.same in
    let f = c.victim_way.ensures.seat.same in
    let B : ℕ → Type 0 = λ n. WaysTried files sizes n key first start c.args.seen.now (replicate 8 false) (view c.consult.new.seat) in
    let begun = ways_begin files sizes (seat_id c.args.seat.now) key first start c.args.seen.now (replicate 8 false) (view c.consult.new.seat) c.args.policy.now c.consult.new.policy c.requires.known (none_marked 8) c.consult.ensures.consults in
    let M : ℕ → Type 0 = λ n. WaysTried files sizes n key first start c.victim_way.new.seen c.victim_way.new.tried (view c.victim_way.new.seat) in
    let mid = c.in-None.ensures.left key start (subst B (sym e) begun) in
    let R : ℕ → Type 0 = λ n. FreesWay files sizes n key first start c.other_way.new.seen (view c.other_way.new.seat) c.other_way.result in
    subst R (f ∙ e) (c.other_way.ensures.frees key start (subst M (sym f) mid))

pub returns-in-Some-clause-searched : goal.returns-in-Some-clause-searched
returns-in-Some-clause-searched g c =
    let files = g.W.World.files in
    let sizes = sizes_of c.args.pool.now in
    let first = c.args.first in
    let told = c.consult.new.policy in
    let mid = view c.consult.new.seat in
    let begun = walk_begins files sizes (seat_id c.consult.new.seat) first 8 told (replicate 8 false) mid (none_marked 8) in
    let E : ℕ → Type 0 = λ n. IsWalkEnd files sizes n first 8 told mid c.victim_way.new.policy (view c.victim_way.new.seat) in
    searched files sizes (seat_id c.args.seat.now) first 8 false c.args.policy.now told c.victim_way.new.policy (view c.args.seat.now) mid (view c.victim_way.new.seat) c.consult.ensures.consults
    (subst E c.consult.ensures.seat.same (c.in-Some.ensures.walk told mid begun)) (λ is. absurd (false≢true is))

pub returns-in-None-clause-searched : goal.returns-in-None-clause-searched
returns-in-None-clause-searched g c =
    let files = g.W.World.files in
    let sizes = sizes_of c.args.pool.now in
    let first = c.args.first in
    let told = c.consult.new.policy in
    let mid = view c.consult.new.seat in
    let e = c.consult.ensures.seat.same in
    let f = c.victim_way.ensures.seat.same in
    let begun = walk_begins files sizes (seat_id c.consult.new.seat) first 8 told (replicate 8 false) mid (none_marked 8) in
    let O : ℕ → Type 0 = λ n. IsWalkOn files sizes n first 8 told mid c.victim_way.new.tried c.victim_way.new.policy (view c.victim_way.new.seat) in
    let on = subst O (sym f) (c.in-None.ensures.walk told mid begun) in
    let A : ℕ → Type 0 = λ n. EndsAll files sizes n first 8 (is_none c.other_way.result) told mid c.other_way.new.policy (view c.other_way.new.seat) in
    let end = subst A (f ∙ e) (c.other_way.ensures.walk told mid on) in
    searched files sizes (seat_id c.args.seat.now) first 8 (is_none c.other_way.result) c.args.policy.now told c.other_way.new.policy (view c.args.seat.now) mid (view c.other_way.new.seat) c.consult.ensures.consults end.walk end.all

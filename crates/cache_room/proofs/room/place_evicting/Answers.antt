use Rattle.std.proofs.Common.{◌≡◌, ℕ, List, Bool, false, length, sym, ap, ◌∙◌, subst}
use Rattle.std.specs.Prelude.{slice_index_or}
use Rattle.std.proofs.lemmas.Bool.{false≢true}
use Rattle.pool_rule.specs.Layout.{headers_of}
use Rattle.cache_eviction.specs.Order.{IsWalkEnd, IsWalkOn}
use Rattle.cache_eviction.specs.OrderLaws.{walk_begins}
use Rattle.cache_room.proofs.Walks.{all_placed}
use Rattle.cache_room.specs.Searches.{is_no_room}
use Rattle.cache_room.specs.SearchLaws.{searched}
use Rattle.pool_rule.specs.declared.geometry.Geometry.{Geometry}
use Rattle.buffer_pool.specs.Pools.{seat_id, sizes_of, view}
use Rattle.cache_room.specs.Rooms.{HeadersTried, MakesByTries}
use Rattle.cache_room.proofs.Trials.{asked_all, headers_begin, none_marked}
use Rattle.cache_room.proofs.room.place_evicting.Goals as goal

pub returns-in-Some-clause-makes : goal.returns-in-Some-clause-makes
returns-in-Some-clause-makes g c =
    let files = g.W.World.files in
    let sizes = sizes_of c.args.pool.now in
    let wanted = c.args.wanted.now in
    let start = view c.args.seat.now in
    let e = c.consult.ensures.seat.same in
    let marks = c.unmark_all.new.marks in
    let none : (i : ℕ) → slice_index_or marks i false ≡ false = λ i. ap (λ (l : List Bool). slice_index_or l i false) c.unmark_all.ensures ∙ none_marked (length c.args.tried.now) i in
    let B : ℕ → Type 0 = λ n. HeadersTried files sizes n wanted.key start marks 0 (view c.consult.new.seat) in
    let begun = headers_begin files sizes (seat_id c.args.seat.now) wanted.key start marks (view c.consult.new.seat) c.args.policy.now c.consult.new.policy c.requires.known none c.consult.ensures.consults in
    let R : ℕ → Type 0 = λ n. MakesByTries files sizes n wanted start (view c.place_for_victims.new.seat) c.place_for_victims.new.evicted c.in-Some.placed in
    subst R e (c.in-Some.ensures.left start (subst B (sym e) begun))

pub returns-in-Some-place_for_others-clause-makes : goal.returns-in-Some-place_for_others-clause-makes
returns-in-Some-place_for_others-clause-makes g c =
    let files = g.W.World.files in
    let sizes = sizes_of c.args.pool.now in
    let wanted = c.args.wanted.now in
    let start = view c.args.seat.now in
    let e = c.consult.ensures.seat.same in
    let f = c.place_for_victims.ensures.seat.same in
    let marks = c.unmark_all.new.marks in
    let none : (i : ℕ) → slice_index_or marks i false ≡ false = λ i. ap (λ (l : List Bool). slice_index_or l i false) c.unmark_all.ensures ∙ none_marked (length c.args.tried.now) i in
    let B : ℕ → Type 0 = λ n. HeadersTried files sizes n wanted.key start marks 0 (view c.consult.new.seat) in
    let begun = headers_begin files sizes (seat_id c.args.seat.now) wanted.key start marks (view c.consult.new.seat) c.args.policy.now c.consult.new.policy c.requires.known none c.consult.ensures.consults in
    let mid = c.in-None.ensures.left start (subst B (sym e) begun) in
    let M : ℕ → Type 0 = λ n. HeadersTried files sizes n wanted.key start c.place_for_victims.new.tried c.place_for_victims.new.evicted (view c.place_for_victims.new.seat) in
    let R : ℕ → Type 0 = λ n. MakesByTries files sizes n wanted start (view c.place_for_others.new.seat) c.place_for_others.new.evicted c.in-Some-place_for_others.placed in
    subst R (f ∙ e) (c.in-Some-place_for_others.ensures.left start (subst M (sym f) mid))

pub returns-clause-makes : goal.returns-clause-makes
returns-clause-makes g c =
    let files = g.W.World.files in
    let sizes = sizes_of c.args.pool.now in
    let wanted = c.args.wanted.now in
    let start = view c.args.seat.now in
    let e = c.consult.ensures.seat.same in
    let f = c.place_for_victims.ensures.seat.same in
    let h = c.place_for_others.ensures.seat.same in
    let marks = c.unmark_all.new.marks in
    let none : (i : ℕ) → slice_index_or marks i false ≡ false = λ i. ap (λ (l : List Bool). slice_index_or l i false) c.unmark_all.ensures ∙ none_marked (length c.args.tried.now) i in
    let B : ℕ → Type 0 = λ n. HeadersTried files sizes n wanted.key start marks 0 (view c.consult.new.seat) in
    let begun = headers_begin files sizes (seat_id c.args.seat.now) wanted.key start marks (view c.consult.new.seat) c.args.policy.now c.consult.new.policy c.requires.known none c.consult.ensures.consults in
    let one = c.in-None.ensures.left start (subst B (sym e) begun) in
    let M : ℕ → Type 0 = λ n. HeadersTried files sizes n wanted.key start c.place_for_victims.new.tried c.place_for_victims.new.evicted (view c.place_for_victims.new.seat) in
    let two = c.in-None-place_for_others.ensures.left start (subst M (sym f) one) in
    let L : ℕ → Type 0 = λ n. HeadersTried files sizes n wanted.key start c.place_for_others.new.tried c.place_for_others.new.evicted (view c.place_for_others.new.seat) in
    asked_all files sizes (seat_id c.args.seat.now) (seat_id c.place_for_others.new.seat) wanted start c.place_for_others.new.tried c.place_for_others.new.evicted c.geometry-arenas.result.arenas
    (view c.place_for_others.new.seat) (view c.place-placed.new.seat) c.place-placed.result (h ∙ (f ∙ e)) (ap (λ (x : Geometry). x.arenas) c.geometry-arenas.ensures.sizes) c.in-None-place_for_others.ensures.all
    (subst L (f ∙ e) two) c.place-placed.ensures.placed

pub returns-in-Some-clause-searched : goal.returns-in-Some-clause-searched
returns-in-Some-clause-searched g c =
    let files = g.W.World.files in
    let sizes = sizes_of c.args.pool.now in
    let n = headers_of sizes in
    let told = c.consult.new.policy in
    let mid = view c.consult.new.seat in
    let marks = c.unmark_all.new.marks in
    let none : (i : ℕ) → slice_index_or marks i false ≡ false = λ i. ap (λ (l : List Bool). slice_index_or l i false) c.unmark_all.ensures ∙ none_marked (length c.args.tried.now) i in
    let begun = walk_begins files sizes (seat_id c.consult.new.seat) 0 n told marks mid none in
    let E : ℕ → Type 0 = λ i. IsWalkEnd files sizes i 0 n told mid c.place_for_victims.new.policy (view c.place_for_victims.new.seat) in
    searched files sizes (seat_id c.args.seat.now) 0 n (is_no_room c.in-Some.placed) c.args.policy.now told c.place_for_victims.new.policy (view c.args.seat.now) mid (view c.place_for_victims.new.seat) c.consult.ensures.consults
    (subst E c.consult.ensures.seat.same (c.in-Some.ensures.walk told mid begun)) (λ is. absurd (false≢true (sym c.in-Some.ensures.roomy ∙ is)))

pub returns-in-Some-place_for_others-clause-searched : goal.returns-in-Some-place_for_others-clause-searched
returns-in-Some-place_for_others-clause-searched g c =
    let files = g.W.World.files in
    let sizes = sizes_of c.args.pool.now in
    let n = headers_of sizes in
    let told = c.consult.new.policy in
    let mid = view c.consult.new.seat in
    let e = c.consult.ensures.seat.same in
    let f = c.place_for_victims.ensures.seat.same in
    let marks = c.unmark_all.new.marks in
    let none : (i : ℕ) → slice_index_or marks i false ≡ false = λ i. ap (λ (l : List Bool). slice_index_or l i false) c.unmark_all.ensures ∙ none_marked (length c.args.tried.now) i in
    let begun = walk_begins files sizes (seat_id c.consult.new.seat) 0 n told marks mid none in
    let O : ℕ → Type 0 = λ i. IsWalkOn files sizes i 0 n told mid c.place_for_victims.new.tried c.place_for_victims.new.policy (view c.place_for_victims.new.seat) in
    let on = subst O (sym f) (c.in-None.ensures.walk told mid begun) in
    let E : ℕ → Type 0 = λ i. IsWalkEnd files sizes i 0 n told mid c.place_for_others.new.policy (view c.place_for_others.new.seat) in
    searched files sizes (seat_id c.args.seat.now) 0 n (is_no_room c.in-Some-place_for_others.placed) c.args.policy.now told c.place_for_others.new.policy (view c.args.seat.now) mid (view c.place_for_others.new.seat) c.consult.ensures.consults
    (subst E (f ∙ e) (c.in-Some-place_for_others.ensures.walk told mid on)) (λ is. absurd (false≢true (sym c.in-Some-place_for_others.ensures.roomy ∙ is)))

pub returns-clause-searched : goal.returns-clause-searched
returns-clause-searched g c =
    let files = g.W.World.files in
    let sizes = sizes_of c.args.pool.now in
    let n = headers_of sizes in
    let told = c.consult.new.policy in
    let mid = view c.consult.new.seat in
    let e = c.consult.ensures.seat.same in
    let f = c.place_for_victims.ensures.seat.same in
    let h = c.place_for_others.ensures.seat.same in
    let marks = c.unmark_all.new.marks in
    let none : (i : ℕ) → slice_index_or marks i false ≡ false = λ i. ap (λ (l : List Bool). slice_index_or l i false) c.unmark_all.ensures ∙ none_marked (length c.args.tried.now) i in
    let begun = walk_begins files sizes (seat_id c.consult.new.seat) 0 n told marks mid none in
    let O : ℕ → Type 0 = λ i. IsWalkOn files sizes i 0 n told mid c.place_for_victims.new.tried c.place_for_victims.new.policy (view c.place_for_victims.new.seat) in
    let on = subst O (sym f) (c.in-None.ensures.walk told mid begun) in
    let Q : ℕ → Type 0 = λ i. IsWalkOn files sizes i 0 n told mid c.place_for_others.new.tried c.place_for_others.new.policy (view c.place_for_others.new.seat) in
    let done = subst Q (f ∙ e) (c.in-None-place_for_others.ensures.walk told mid on) in
    let p = c.place-placed.ensures.placed in
    let end = all_placed files sizes (seat_id c.args.seat.now) (seat_id c.place_for_others.new.seat) 0 n told mid c.place_for_others.new.tried c.place_for_others.new.policy (view c.place_for_others.new.seat) (view c.place-placed.new.seat) c.args.wanted.now 0 c.geometry-arenas.result.arenas p.0
    c.place-placed.result (h ∙ (f ∙ e)) done c.in-None-place_for_others.ensures.all p.1 in
    searched files sizes (seat_id c.args.seat.now) 0 n (is_no_room c.place-placed.result) c.args.policy.now told c.place_for_others.new.policy (view c.args.seat.now) mid (view c.place-placed.new.seat) c.consult.ensures.consults end.walk (λ is. end.all)

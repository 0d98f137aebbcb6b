use Rattle.std.proofs.Common.{◌≡◌, ◌≢◌, ◌<◌, length, arith, sym, subst, ◌∙◌}
use Rattle.pool_rule.specs.declared.view.Hold.TheVariants.{Free, Pinned}
use Rattle.pool_rule.specs.Layout.{headers_of}
use Rattle.pool_rule.specs.Seats.{mark_at}
use Rattle.buffer_pool.specs.declared.pool.Pool.{Pool}
use Rattle.buffer_pool.specs.declared.seat.PoolSeat.{PoolSeat}
use Rattle.buffer_pool.specs.declared.token.Pin.{Pin}
use Rattle.buffer_pool.specs.Pools.{IsPinOf, pin_header, seat_id, sizes_of, view}
use Rattle.range_cache.specs.declared.ranged.Grip.{Grip}
use Rattle.range_cache.specs.Caches.{pool_of}
use Rattle.range_cache.specs.Ranges.{IsGripOf, LeavesGrip}
use Rattle.range_cache.proofs.ranged.Ranged.done.Goals as goal

not_free : {W : Type 0} (pool : Pool W) (seat : PoolSeat W) (pin : Pin) → IsPinOf pool seat pin → (mark_at (view seat) (pin_header pin)).hold ≢ Free
not_free pool seat pin is e = let f : Pinned _ _ ≡ Free = sym is.pinned ∙ e in let clash : ⊥ = cc in clash

inside : {W : Type 0} (pool : Pool W) (seat : PoolSeat W) (pin : Pin) → IsPinOf pool seat pin → length (view seat).marks ≡ headers_of (sizes_of pool) → pin_header pin < length (view seat).marks
inside pool seat pin is marks = let h = is.header in omega (arith, h, marks)

pub returns-in-Pin-clause-back : goal.returns-in-Pin-clause-back
returns-in-Pin-clause-back g c start leaves =
    let pool = pool_of c.args.cache.now in
    let P : Grip → Type 0 = λ x. IsGripOf pool c.args.seat.now x in
    let L : Grip → Type 0 = λ x. LeavesGrip start (view c.args.seat.now) x in
    let pin = c.in-Pin.pin in
    let token = subst P c.in-Pin.is c.requires.ranged in
    let made = c.unpin.ensures.made in
    c.holds_are_let_go.ensures g.W.World.files (sizes_of pool) (seat_id c.args.seat.now) (pin_header pin) made.0 start (view c.args.seat.now) (view c.unpin.new.seat)
    (inside pool c.args.seat.now pin token c.requires.seat.live.marks) (not_free pool c.args.seat.now pin token) made.1 (subst L c.in-Pin.is leaves)

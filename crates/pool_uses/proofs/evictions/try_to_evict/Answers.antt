use Rattle.std.proofs.Common.{ℕ, [], ◌∷◌, ap, ◌∙◌, subst}
use Rattle.std.specs.Prelude.{Some}
use Rattle.pool_rule.specs.declared.geometry.WordName.TheVariants.{State}
use Rattle.pool_rule.specs.declared.view.Mark.{Mark}
use Rattle.pool_rule.specs.declared.word_step.WordStep.TheVariants.{EvictBegun, Looked}
use Rattle.buffer_pool.specs.Callers.{refused_mark}
use Rattle.buffer_pool.specs.Made.{AreMade}
use Rattle.buffer_pool.specs.Pools.{buffer_key, pin_block, pin_header, pin_key, seat_id, sizes_of, view}
use Rattle.pool_uses.proofs.Evicting.{pin_refuses}
use Rattle.pool_uses.proofs.evictions.try_to_evict.Goals as goal

pub returns-in-Ok-clause-token : goal.returns-in-Ok-clause-token
returns-in-Ok-clause-token g c =
    let pin = c.args.pin.now in
    let v = view c.args.seat.now in
    let w = view c.begin_evict.new.seat in
    let made = c.in-Ok.ensures.made in
    let S : ℕ → Type 0 = λ h. AreMade g.W.World.files (sizes_of c.args.pool.now) (seat_id c.args.seat.now) (Looked (State h) made.0 ∷ EvictBegun h made.0 ∷ []) v w in
    absurd (pin_refuses g.W.World.files (sizes_of c.args.pool.now) (seat_id c.args.seat.now) (pin_header pin) (pin_block pin) (Some (buffer_key (pin_key pin))) v w c.requires.token.pinned (made.0, made.1, subst S c.header.ensures made.3))

pub returns-in-Ok-clause-refused : goal.returns-in-Ok-clause-refused
returns-in-Ok-clause-refused g c =
    let pin = c.args.pin.now in
    let v = view c.args.seat.now in
    let w = view c.begin_evict.new.seat in
    let made = c.in-Ok.ensures.made in
    let S : ℕ → Type 0 = λ h. AreMade g.W.World.files (sizes_of c.args.pool.now) (seat_id c.args.seat.now) (Looked (State h) made.0 ∷ EvictBegun h made.0 ∷ []) v w in
    absurd (pin_refuses g.W.World.files (sizes_of c.args.pool.now) (seat_id c.args.seat.now) (pin_header pin) (pin_block pin) (Some (buffer_key (pin_key pin))) v w c.requires.token.pinned (made.0, made.1, subst S c.header.ensures made.3))

pub returns-in-Err-clause-token : goal.returns-in-Err-clause-token
returns-in-Err-clause-token g c =
    let pin = c.args.pin.now in
    let token = c.requires.token in
    let same = refused_mark g.W.World.files (sizes_of c.args.pool.now) (seat_id c.args.seat.now) c.header.result (view c.args.seat.now) (view c.begin_evict.new.seat) c.in-Err.held c.in-Err.ensures.made (pin_header pin) in
    record { header = token.header; block = token.block; key = token.key; fits = token.fits; pinned = ap (λ (m : Mark). m.hold) same ∙ token.pinned }

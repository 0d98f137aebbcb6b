use Rattle.std.proofs.Common.{◌≡◌, ◌+◌, ◌*◌, ◌/◌, sym, ap, ◌∙◌, subst}
use Rattle.pool_model.specs.declared.block.Block.{Block}
use Rattle.pool_rule.specs.declared.geometry.WordName.TheVariants.{Arena}
use Rattle.pool_rule.specs.declared.word_step.WordStep.TheVariants.{Looked}
use Rattle.pool_rule.specs.Layout.{IsBlockIn}
use Rattle.pool_rule.specs.WordSteps.{IsMade}
use Rattle.buffer_pool.specs.Pools.{block_at, block_of, evicting_block, evicting_header, seat_id, sizes_of, view}
use Rattle.pool_uses.specs.Evictions.{GrantsAgain}
use Rattle.pool_uses.proofs.Evicting.{grants_again, in_arena, same_arena}
use Rattle.pool_uses.proofs.evictions.evict_and_grant.Goals as goal

pub grant-requires-clause-block : goal.grant-requires-clause-block
grant-requires-clause-block g c =
    let sizes = sizes_of c.args.pool.now in
    let b = c.block-place.result in
    let P : Block → Type 0 = λ x. IsBlockIn sizes x in
    let is : IsBlockIn sizes b = subst P (sym c.block-place.ensures) c.in-Ok.ensures.token.block in
    (c.found_blocks_can_be_granted.ensures sizes (b.place / 64) b.order c.in-Some.offset c.look-word.result (in_arena sizes b is) is.order_fits c.in-Some.ensures.answer).0

pub grant-requires-clause-clear : goal.grant-requires-clause-clear
grant-requires-clause-clear g c =
    let sizes = sizes_of c.args.pool.now in
    let b = c.block-place.result in
    let P : Block → Type 0 = λ x. IsBlockIn sizes x in
    let is : IsBlockIn sizes b = subst P (sym c.block-place.ensures) c.in-Ok.ensures.token.block in
    (c.found_blocks_can_be_granted.ensures sizes (b.place / 64) b.order c.in-Some.offset c.look-word.result (in_arena sizes b is) is.order_fits c.in-Some.ensures.answer).1

pub returns-in-Ok-grant-clause-made : goal.returns-in-Ok-grant-clause-made
returns-in-Ok-grant-clause-made g c =
    let sizes = sizes_of c.args.pool.now in
    let e = evicting_block c.in-Ok.evicting in
    let b = c.block-place.result in
    let found = block_at (64 * (b.place / 64) + c.in-Some.offset) b.order in
    let same : b ≡ e = c.block-place.ensures in
    let clear = c.buddy_is_clear_block.ensures 64 c.look-word.result b.order c.in-Some.offset c.in-Some.ensures.answer in
    let arena : found.place / 64 ≡ e.place / 64 = same_arena (b.place / 64) b.order c.in-Some.offset c.look-word.result b.order clear ∙ ap (λ (x : Block). x.place / 64) same in
    let granted = c.in-Ok-grant.ensures.block in
    let e1 = c.begin_evict.ensures.seat.same in
    let e2 = c.release-granted.ensures.seat.same ∙ e1 in
    let e3 = c.ungrant.ensures.seat.same ∙ e2 in
    let e4 = c.look-word.ensures.seat.same ∙ e3 in
    let L : Block → Type 0 = λ x. IsMade g.W.World.files sizes (seat_id c.ungrant.new.seat) (Looked (Arena (x.place / 64)) c.look-word.result) (view c.ungrant.new.seat) (view c.look-word.new.seat) in
    let made = grants_again g.W.World.files sizes (seat_id c.args.seat.now) (seat_id c.begin_evict.new.seat) (seat_id c.release-granted.new.seat) (seat_id c.ungrant.new.seat) (seat_id c.look-word.new.seat)
    c.args.header (evicting_header c.in-Ok.evicting) e (block_of c.release-granted.result) found c.look-word.result
    (view c.args.seat.now) (view c.begin_evict.new.seat) (view c.release-granted.new.seat) (view c.ungrant.new.seat) (view c.look-word.new.seat) (view c.grant.new.seat)
    e1 e2 e3 e4 c.in-Ok.ensures.header c.release-granted.ensures.block (ap (λ (x : Block). x.order) same) arena
    c.in-Ok.ensures.made c.release-granted.ensures.made c.ungrant.ensures.made (subst L same c.look-word.ensures.made) c.in-Ok-grant.ensures.ok in
    let M : Block → Type 0 = λ x. GrantsAgain g.W.World.files sizes (seat_id c.args.seat.now) c.args.header x (view c.args.seat.now) (view c.grant.new.seat) in
    subst M (sym granted) made

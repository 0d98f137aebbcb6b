use Rattle.std.proofs.Common.{ℕ, ◌∙◌, subst}
use Rattle.pool_rule.specs.declared.word_step.WordStep.TheVariants.{Published}
use Rattle.pool_rule.specs.WordSteps.{IsMade}
use Rattle.buffer_pool.specs.declared.token.NewBuffer.{NewBuffer}
use Rattle.buffer_pool.specs.Pools.{block_at, block_of, buffer_key, new_block, new_header, new_key, seat_id, sizes_of, view}
use Rattle.pool_uses.proofs.Composing.{publishes}
use Rattle.pool_uses.proofs.sharing.publish_range.Goals as goal

pub returns-in-Ok-open_header-clause-made : goal.returns-in-Ok-open_header-clause-made
returns-in-Ok-open_header-clause-made g c =
    let geometry = sizes_of c.args.pool.now in
    let new = c.in-Ok-open_header.new in
    let is = c.in-Ok-open_header.ensures.is in
    let e1 = c.grant.ensures.seat.same in
    let e2 = c.open_header.ensures.seat.same ∙ e1 in
    let e3 = c.fill.ensures.seat.same ∙ e2 in
    let P : NewBuffer → Type 0 = λ n. (published : ℕ) × IsMade g.W.World.files geometry (seat_id c.fill.new.seat) (Published (new_header n) (new_block n) (buffer_key (new_key n)) published) (view c.fill.new.seat) (view c.publish.new.seat) in
    publishes g.W.World.files geometry (seat_id c.args.seat.now) (seat_id c.grant.new.seat) (seat_id c.open_header.new.seat) (seat_id c.fill.new.seat) c.args.header (new_header new) c.args.key (new_key new) (block_at c.args.place c.args.order) (block_of c.in-Ok.granted) (new_block new) c.args.seen c.args.bytes.now
    (view c.args.seat.now) (view c.grant.new.seat) (view c.open_header.new.seat) (view c.fill.new.seat) (view c.publish.new.seat) e1 e2 e3 c.in-Ok.ensures.block is.0 is.1 (is.2 ∙ c.in-Ok.ensures.block)
    c.in-Ok.ensures.ok c.in-Ok-open_header.ensures.ok c.fill.ensures.made (subst P c.fill.ensures.same c.publish.ensures.made)

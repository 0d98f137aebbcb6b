use Rattle.std.proofs.Common.{◌≡◌, ℕ, ◌<◌, length, refl, sym, ap, ◌∙◌, subst, inl, inr, arith}
use Rattle.std.proofs.lemmas.Bool.{cases_eq}
use Rattle.pool_model.specs.declared.block.Block.{Block}
use Rattle.pool_rule.specs.declared.geometry.WordName.TheVariants.{State}
use Rattle.pool_rule.specs.declared.view.Claim.TheVariants.{Gone}
use Rattle.pool_rule.specs.declared.word_step.WordStep.TheVariants.{EvictBegun, Looked, Missed}
use Rattle.pool_rule.specs.Layout.{IsBlockIn}
use Rattle.pool_rule.specs.WordSteps.{IsMade, block_in}
use Rattle.buffer_pool.specs.Bids.{HasNoBid}
use Rattle.buffer_pool.specs.Pools.{seat_id, sizes_of, view}
use Rattle.buffer_pool.proofs.Bids.{made_bids}
use Rattle.buffer_pool.proofs.Holds.{begun_claim, word_small}
use Rattle.buffer_pool.proofs.evictions.begin_evict.Goals as goal

pub block_in_word-block-requires : goal.block_in_word-block-requires
block_in_word-block-requires g c = word_small (sizes_of c.args.pool.now) c.look-seen.result c.look-seen.ensures.made.tells

pub invariant_of-seat : goal.invariant_of-seat
invariant_of-seat g c =
    record { no_bid = made_bids g.W.World.files (sizes_of c.args.pool.now) (seat_id c.args.seat.now) (Looked (State c.args.header) c.look-seen.result) (view c.args.seat.now) c.look-seen.new.seat.me.0 c.look-seen.ensures.made tt c.args.seat.now.no_bid }

pub invariant_of-seat-2 : goal.invariant_of-seat-2
invariant_of-seat-2 g c =
    let sizes = sizes_of c.args.pool.now in
    let u = c.look-seen.new.seat.me.0 in
    let word = c.begin_evict-word.result in
    let first : HasNoBid u = made_bids g.W.World.files sizes (seat_id c.args.seat.now) (Looked (State c.args.header) c.look-seen.result) (view c.args.seat.now) u c.look-seen.ensures.made tt c.args.seat.now.no_bid in
    let second : HasNoBid c.begin_evict-word.new.seat.me.0 =
    elim (cases_eq word c.look-seen.result) [
      | inl hit ↦ made_bids g.W.World.files sizes c.look-seen.new.seat.id (EvictBegun c.args.header word) u c.begin_evict-word.new.seat.me.0 (c.begin_evict-word.ensures.ok hit) tt first
      | inr miss ↦ made_bids g.W.World.files sizes c.look-seen.new.seat.id (Missed (State c.args.header) word) u c.begin_evict-word.new.seat.me.0 (c.begin_evict-word.ensures.missed miss) tt first
    ] in
    record { no_bid = second }

pub returns-clause-token : goal.returns-clause-token
returns-clause-token g c =
    let sizes = sizes_of c.args.pool.now in
    let u = c.look-seen.new.seat.me.0 in
    let marks = c.look-seen.ensures.seat.seat.live.marks in
    let inside = c.requires.header in
    let within : c.args.header < length u.marks = omega (arith, marks, inside) in
    let word = c.begin_evict-word.result in
    let hit = c.if-word-seen.false in
    let made = c.begin_evict-word.ensures.ok hit in
    let is : c.block_in_word-block.result ≡ block_in word = c.block_in_word-block.ensures ∙ ap block_in (sym hit) in
    let P : Block → Type 0 = λ b. IsBlockIn sizes b in
    record {
      header = c.requires.header;
      block = subst P (sym is) made.tells.0;
      claim = begun_claim g.W.World.files sizes c.look-seen.new.seat.id c.args.header u c.begin_evict-word.new.seat.me.0 within word made ∙ ap Gone (sym is);
    }

pub begin_evict-word-requires-clause-idle : goal.begin_evict-word-requires-clause-idle
begin_evict-word-requires-clause-idle g c = c.if-seen-ne0.false

pub returns-then-seen-ne0-clause-made : goal.returns-then-seen-ne0-clause-made
returns-then-seen-ne0-clause-made g c = inl (c.if-seen-ne0.true, (c.look-seen.new.seat.me.0, c.look-seen.ensures.made, refl))

pub returns-then-word-seen-clause-made : goal.returns-then-word-seen-clause-made
returns-then-word-seen-clause-made g c =
    let u = c.look-seen.new.seat.me.0 in
    let w = c.begin_evict-word.new.seat.me.0 in
    let P : ℕ → Type 0 = λ id. IsMade g.W.World.files (sizes_of c.args.pool.now) id (Missed (State c.args.header) c.begin_evict-word.result) u w in
    let missed = subst P c.look-seen.ensures.seat.id_is (c.begin_evict-word.ensures.missed c.if-word-seen.true) in
    inr (c.look-seen.result, c.if-seen-ne0.false, c.if-word-seen.true, (u, c.look-seen.ensures.made, (w, missed, refl)))

pub returns-clause-made : goal.returns-clause-made
returns-clause-made g c =
    let u = c.look-seen.new.seat.me.0 in
    let w = c.begin_evict-word.new.seat.me.0 in
    let hit = c.if-word-seen.false in
    let P : ℕ × ℕ → Type 0 = λ z. IsMade g.W.World.files (sizes_of c.args.pool.now) z.0 (EvictBegun c.args.header z.1) u w in
    let begun = subst P (λ k. (c.look-seen.ensures.seat.id_is k, hit k)) (c.begin_evict-word.ensures.ok hit) in
    (c.look-seen.result, c.if-seen-ne0.false, c.block_in_word-block.ensures, (u, c.look-seen.ensures.made, (w, begun, refl)))

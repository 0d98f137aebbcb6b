use Rattle.std.proofs.Common.{◌≡◌, ℕ, ◌%◌, ◌<◌, ◌≤◌, length, sym, ap, ◌∙◌, subst, arith}
use Rattle.std.specs.Prelude.{Some, None}
use Rattle.buffer_word.specs.declared.key_word.Key.{Key}
use Rattle.buffer_word.specs.Changes.{WordTellsKey}
use Rattle.buffer_word.specs.KeyWord.{IsKey, key_word}
use Rattle.pool_model.specs.declared.block.Block.{Block}
use Rattle.pool_model.specs.declared.buffer.BufferKey.{BufferKey}
use Rattle.pool_model.specs.Block.{bytes_in}
use Rattle.pool_rule.specs.declared.geometry.WordName.TheVariants.{KeyOf}
use Rattle.pool_rule.specs.declared.view.Hold.{Hold}
use Rattle.pool_rule.specs.declared.view.Hold.TheVariants.{Pinned}
use Rattle.pool_rule.specs.declared.word_step.WordStep.TheVariants.{Looked, Uncounted}
use Rattle.pool_rule.specs.Headers.{packed}
use Rattle.pool_rule.specs.Layout.{IsBlockIn}
use Rattle.pool_rule.specs.Seats.{hold_with_key, key_of, mark_at}
use Rattle.pool_rule.specs.WordSteps.{IsKeyFor, TellsHold, block_in}
use Rattle.buffer_pool.specs.Bids.{HasNoBid}
use Rattle.buffer_pool.specs.Pools.{buffer_key, seat_id, sizes_of, view}
use Rattle.buffer_pool.proofs.Bids.{counted_bids, live_bids, made_bids, uncounted_bids}
use Rattle.buffer_pool.proofs.Holds.{counted_pin, counted_some, live_block, looked_hold, looked_some, word_small}
use Rattle.buffer_pool.proofs.pins.pin.Goals as goal

pub block_in_word-block-requires : goal.block_in_word-block-requires
block_in_word-block-requires g c = word_small (sizes_of c.args.pool.now) c.count_up-word.result c.count_up-word.ensures.made.tells

pub count_down-requires-clause-counted : goal.count_down-requires-clause-counted
count_down-requires-clause-counted g c =
    let v = view c.args.seat.now in
    let marks = c.requires.seat.live.marks in
    let inside = c.requires.header in
    let within : c.args.header < length v.marks = omega (arith, marks, inside) in
    counted_some g.W.World.files (sizes_of c.args.pool.now) (seat_id c.args.seat.now) c.args.header v c.count_up-word.new.seat.me.0 within c.count_up-word.result c.count_up-word.ensures.made

pub invariant_of-seat : goal.invariant_of-seat
invariant_of-seat g c =
    let v = view c.args.seat.now in
    let u = c.count_up-word.new.seat.me.0 in
    let marks = c.count_up-word.ensures.seat.seat.live.marks in
    let inside = c.requires.header in
    let within : c.args.header < length u.marks = omega (arith, marks, inside) in
    let but = counted_bids g.W.World.files (sizes_of c.args.pool.now) (seat_id c.args.seat.now) c.args.header c.count_up-word.result v u c.count_up-word.ensures.made c.args.seat.now.no_bid in
    record { no_bid = uncounted_bids g.W.World.files (sizes_of c.args.pool.now) c.count_up-word.new.seat.id c.args.header c.count_down.result u c.count_down.new.seat.me.0 c.count_down.ensures.made within but }

pub count_down-requires-then-found-pack_key-clause-counted : goal.count_down-requires-then-found-pack_key-clause-counted
count_down-requires-then-found-pack_key-clause-counted g c =
    let v = view c.args.seat.now in
    let u = c.count_up-word.new.seat.me.0 in
    let marks = c.requires.seat.live.marks in
    let marks' = c.count_up-word.ensures.seat.seat.live.marks in
    let inside = c.requires.header in
    let within : c.args.header < length v.marks = omega (arith, marks, inside) in
    let within' : c.args.header < length u.marks = omega (arith, marks', inside) in
    looked_some g.W.World.files (sizes_of c.args.pool.now) c.count_up-word.new.seat.id c.args.header u c.look-found.new.seat.me.0 within' c.look-found.result c.look-found.ensures.made
    (counted_some g.W.World.files (sizes_of c.args.pool.now) (seat_id c.args.seat.now) c.args.header v u within c.count_up-word.result c.count_up-word.ensures.made)

pub invariant_of-seat-then-found-pack_key : goal.invariant_of-seat-then-found-pack_key
invariant_of-seat-then-found-pack_key g c =
    let v = view c.args.seat.now in
    let u = c.count_up-word.new.seat.me.0 in
    let live : c.count_up-word.result % 16 ≡ 0 = c.if-word-ne0.false in
    let counted : HasNoBid u = live_bids g.W.World.files (sizes_of c.args.pool.now) (seat_id c.args.seat.now) c.args.header c.count_up-word.result v u c.count_up-word.ensures.made live c.args.seat.now.no_bid in
    let looked = made_bids g.W.World.files (sizes_of c.args.pool.now) c.count_up-word.new.seat.id (Looked (KeyOf c.args.header) c.look-found.result) u c.look-found.new.seat.me.0 c.look-found.ensures.made tt counted in
    record { no_bid = made_bids g.W.World.files (sizes_of c.args.pool.now) c.look-found.new.seat.id (Uncounted c.args.header c.count_down-then-found-pack_key.result) c.look-found.new.seat.me.0 c.count_down-then-found-pack_key.new.seat.me.0 c.count_down-then-found-pack_key.ensures.made tt looked }

pub invariant_of-seat-else-found-pack_key : goal.invariant_of-seat-else-found-pack_key
invariant_of-seat-else-found-pack_key g c =
    let v = view c.args.seat.now in
    let u = c.count_up-word.new.seat.me.0 in
    let live : c.count_up-word.result % 16 ≡ 0 = c.if-word-ne0.false in
    let counted : HasNoBid u = live_bids g.W.World.files (sizes_of c.args.pool.now) (seat_id c.args.seat.now) c.args.header c.count_up-word.result v u c.count_up-word.ensures.made live c.args.seat.now.no_bid in
    record { no_bid = made_bids g.W.World.files (sizes_of c.args.pool.now) c.count_up-word.new.seat.id (Looked (KeyOf c.args.header) c.look-found.result) u c.look-found.new.seat.me.0 c.look-found.ensures.made tt counted }

-- the key that was found is the one that is wanted
same_key : WordTellsKey → (key : Key) (found : ℕ) → IsKey key → IsKey (packed (key_of found)) → found ≡ key_word (packed (key_of found)) → found ≡ key_word key → key_of found ≡ buffer_key key
same_key law key found good found_good is wanted = ap buffer_key (law (packed (key_of found)) key found_good good (sym is ∙ wanted))

pub returns-clause-token : goal.returns-clause-token
returns-clause-token g c =
    let geometry = sizes_of c.args.pool.now in
    let v = view c.args.seat.now in
    let u = c.count_up-word.new.seat.me.0 in
    let word = c.count_up-word.result in
    let found = c.look-found.result in
    let marks = c.requires.seat.live.marks in
    let marks' = c.count_up-word.ensures.seat.seat.live.marks in
    let inside = c.requires.header in
    let within : c.args.header < length v.marks = omega (arith, marks, inside) in
    let within' : c.args.header < length u.marks = omega (arith, marks', inside) in
    let live : word % 16 ≡ 0 = c.if-word-ne0.false in
    let held : (mark_at u c.args.header).hold ≡ Pinned (block_in word) None = counted_pin g.W.World.files geometry (seat_id c.args.seat.now) c.args.header v u within word c.count_up-word.ensures.made live in
    let T : Hold → Type 0 = λ x. TellsHold geometry x found in
    let told : IsKeyFor geometry (block_in word) None found = subst T held c.look-found.ensures.made.tells.0 in
    let wanted : found ≡ key_word c.args.key = c.if-found-pack_key.false ∙ c.pack_key.ensures in
    let key_is : key_of found ≡ buffer_key c.args.key = same_key c.word_tells_key.ensures c.args.key found c.requires.key told.packs told.is wanted in
    let block_is : block_in word ≡ c.block_in_word-block.result = sym c.block_in_word-block.ensures in
    let now : (mark_at c.look-found.new.seat.me.0 c.args.header).hold ≡ Pinned (block_in word) (Some (key_of found)) =
    looked_hold g.W.World.files geometry c.count_up-word.new.seat.id c.args.header u c.look-found.new.seat.me.0 within' found c.look-found.ensures.made ∙ ap (hold_with_key (key_of found)) held in
    let B : Block → Type 0 = λ b. IsBlockIn geometry b in
    let K : BufferKey × Block → Type 0 = λ z. z.0.len ≤ bytes_in geometry.min_block z.1 in
    record {
      header = c.requires.header;
      block = subst B block_is (live_block geometry word c.count_up-word.ensures.made.tells live);
      key = c.requires.key;
      fits = subst K (λ i. (key_is i, block_is i)) told.fits;
      pinned = now ∙ ap (λ (z : Block × BufferKey). Pinned z.0 (Some z.1)) (λ i. (block_is i, key_is i));
    }

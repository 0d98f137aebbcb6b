use Rattle.std.proofs.Common.{◌≡◌, ◌≢◌, ℕ, List, [], ◌∷◌, ◌++◌, refl, subst, ap, ◌∙◌}
use Rattle.std.specs.Prelude.{Option}
use Rattle.buffer_word.specs.declared.key_word.Key.{Key}
use Rattle.pool_model.specs.declared.block.Block.{Block}
use Rattle.pool_model.specs.Content.{Files}
use Rattle.pool_rule.specs.declared.geometry.Geometry.{Geometry}
use Rattle.pool_rule.specs.declared.geometry.WordName.TheVariants.{State}
use Rattle.pool_rule.specs.declared.view.View.{View}
use Rattle.pool_rule.specs.declared.word_step.WordStep.TheVariants.{Missed, Named, Opened, Published, Returned}
use Rattle.pool_rule.specs.WordSteps.{IsMade}
use Rattle.buffer_pool.specs.declared.token.NewBuffer.{NewBuffer}
use Rattle.buffer_pool.specs.declared.token.Pin.{Pin}
use Rattle.buffer_pool.specs.Callers.{all_then, one_made}
use Rattle.buffer_pool.specs.Made.{AreMade, cell_in, fill_steps}
use Rattle.buffer_pool.specs.Pools.{block_of, buffer_key, new_block, new_header, new_key, pin_block, pin_header, seat_id, sizes_of, view}
use Rattle.cache_placement.specs.declared.why.Placed.TheVariants.{Bypass, Filled}
use Rattle.cache_placement.specs.declared.why.Why.TheVariants.{Raced}
use Rattle.cache_placement.specs.Steps.{Opens, filled, lost}
use Rattle.cache_placement.proofs.opening.open_with.Goals as goal

module _ (files : Option Files) (g : Geometry) (id : ℕ) (key : Key) (header : ℕ) (b : Block) where
  gave_back : (id' saw found : ℕ) (b' : Block) (v u w : View) → id' ≡ id → b' ≡ b → saw ≢ 8 → IsMade files g id (Missed (State header) saw) v u → IsMade files g id' (Returned b' found) u w → Opens files g id key header b v w (Bypass (Raced saw))
  gave_back id' saw found b' v u w same is far m r =
      let P : ℕ × Block → Type 0 = λ z. IsMade files g z.0 (Returned z.1 found) u w in
      (_, (u, m, (w, subst P (λ i. (same i, is i)) r, refl)), lost saw found far)

  -- opened and named, filled, and published, each by the seat as it is then
  filled_up : (id1 id2 h : ℕ) (k : Key) (b' : Block) (cells bytes found : List ℕ) (named published : ℕ) (pin : Pin) (v v1 v2 w : View) → id1 ≡ id → id2 ≡ id → h ≡ header → k ≡ key → b' ≡ b → pin_header pin ≡ h → pin_block pin ≡ b' → AreMade files g id (Opened header b cells ∷ Named header b (buffer_key key) named ∷ []) v v1 → AreMade files g id1 (fill_steps h b' (buffer_key k) (cell_in bytes) 0 found) v1 v2 → IsMade files g id2 (Published h b' (buffer_key k) published) v2 w → Opens files g id key header b v w (Filled pin)
  filled_up id1 id2 h k b' cells bytes found named published pin v v1 v2 w e1 e2 eh ek eb is its opened fills pub_made =
      let F : ℕ × ℕ × Key × Block → Type 0 = λ z. AreMade files g z.0 (fill_steps z.1 z.3 (buffer_key z.2) (cell_in bytes) 0 found) v1 v2 in
      let fills' = subst F (λ i. (e1 i, eh i, ek i, eb i)) fills in
      let Q : ℕ × ℕ × Key × Block → Type 0 = λ z. IsMade files g z.0 (Published z.1 z.3 (buffer_key z.2) published) v2 w in
      let published' = subst Q (λ i. (e2 i, eh i, ek i, eb i)) pub_made in
      let steps = fill_steps header b (buffer_key key) (cell_in bytes) 0 found in
      let end = Published header b (buffer_key key) published in
      let last = all_then files g id steps (end ∷ []) v1 v2 w fills' (one_made files g id end v2 w published') in
      (_, all_then files g id (Opened header b cells ∷ Named header b (buffer_key key) named ∷ []) (steps ++ end ∷ []) v v1 w opened last, filled cells bytes found named published pin (is ∙ eh) (its ∙ eb))

pub returns-in-Ok-clause-made : goal.returns-in-Ok-clause-made
returns-in-Ok-clause-made g c =
    let is = c.in-Ok.ensures.is in
    let e1 = c.open_header.ensures.seat.same in
    let e2 = c.fill.ensures.seat.same ∙ e1 in
    let opened = c.in-Ok.ensures.ok in
    let fills = c.fill.ensures.made in
    let P : NewBuffer → Type 0 = λ n. (published : ℕ) × IsMade g.W.World.files (sizes_of c.args.pool.now) (seat_id c.fill.new.seat) (Published (new_header n) (new_block n) (buffer_key (new_key n)) published) (view c.fill.new.seat) (view c.publish.new.seat) in
    let published = subst P c.fill.ensures.same c.publish.ensures.made in
    filled_up g.W.World.files (sizes_of c.args.pool.now) (seat_id c.args.seat.now) c.args.key c.args.header (block_of c.args.grant) (seat_id c.open_header.new.seat) (seat_id c.fill.new.seat) (new_header c.in-Ok.new) (new_key c.in-Ok.new) (new_block c.in-Ok.new) opened.0 c.args.bytes.now fills.0 opened.1 published.0 c.publish.result
    (view c.args.seat.now) (view c.open_header.new.seat) (view c.fill.new.seat) (view c.publish.new.seat) e1 e2 is.0 is.1 is.2 (c.publish.ensures.is.0 ∙ ap new_header c.fill.ensures.same) (c.publish.ensures.is.2 ∙ ap new_block c.fill.ensures.same) opened.2 fills.2 published.1

pub returns-in-Err-clause-made : goal.returns-in-Err-clause-made
returns-in-Err-clause-made g c =
    let r = c.ungrant.ensures.made in
    gave_back g.W.World.files (sizes_of c.args.pool.now) (seat_id c.args.seat.now) c.args.key c.args.header (block_of c.args.grant) (seat_id c.open_header.new.seat) c.in-Err.lost.saw r.0 (block_of c.in-Err.lost.grant) (view c.args.seat.now) (view c.open_header.new.seat) (view c.ungrant.new.seat)
    c.open_header.ensures.seat.same c.in-Err.ensures.kept.0 c.in-Err.ensures.saw c.in-Err.ensures.err r.1

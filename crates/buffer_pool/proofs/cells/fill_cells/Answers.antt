use Rattle.std.proofs.Common.{◌≡◌, ℕ, ◌+◌, ◌*◌, ◌/◌, ◌<◌, List, [], ◌∷◌, ◌++◌, length, refl, sym, ap, ◌∙◌, subst, arith, drop}
use Rattle.std.specs.Prelude.{Option, Some}
use Rattle.std.specs.Int.{from_le_bytes, w64}
use Rattle.std.proofs.lemmas.List.{length-append}
use Rattle.pool_model.specs.declared.block.Block.{Block}
use Rattle.pool_model.specs.declared.buffer.BufferKey.{BufferKey}
use Rattle.pool_model.specs.Block.{cells_for}
use Rattle.pool_model.specs.Content.{Files, IsCell, content_cell}
use Rattle.pool_rule.specs.declared.geometry.Geometry.{Geometry}
use Rattle.pool_rule.specs.declared.view.Claim.TheVariants.{Fresh}
use Rattle.pool_rule.specs.declared.view.View.{View}
use Rattle.pool_rule.specs.declared.word_step.WordStep.TheVariants.{Filled}
use Rattle.pool_rule.specs.Tables.{geometry_of}
use Rattle.pool_rule.specs.Words.{view}
use Rattle.pool_rule.specs.WordSteps.{IsMade}
use Rattle.buffer_pool.specs.Made.{AreMade, cell_in, fill_steps}
use Rattle.buffer_pool.specs.Pools.{IsContentOf}
use Rattle.buffer_pool.proofs.Holds.{filled_claim}
use Rattle.buffer_pool.proofs.cells.fill_cells.Goals as goal

cells_are : (len : ℕ) → (len + 7) / 8 ≡ cells_for len
unfolding cells_for
cells_are len = refl

-- the cells of the bytes are those of the key
cell_is : (files : Option Files) (key : BufferKey) (bytes : List ℕ) (j : ℕ) → IsContentOf files key bytes → IsCell files key j (cell_in bytes j)
unfolding cell_in content_cell
cell_is files key bytes j content file told = ap (λ (l : List ℕ). from_le_bytes w64 (drop (8 * j) l)) (content file told)

-- one cell more
module _ (files : Option Files) (g : Geometry) (id header : ℕ) (b : Block) (key : BufferKey) (cell : ℕ → ℕ) where
  fill_more : (done : ℕ) (found : List ℕ) (n : ℕ) (v w u : View) → AreMade files g id (fill_steps header b key cell done found) v w → IsMade files g id (Filled header b key (done + length found) (cell (done + length found)) n) w u → AreMade files g id (fill_steps header b key cell done (found ++ n ∷ [])) v u
  fill_more done [] n v w u e m =
      let M : ℕ × View → Type 0 = λ z. IsMade files g id (Filled header b key z.0 (cell z.0) n) z.1 u in
      let at : done + 0 ≡ done = omega arith in
      (u, subst M (λ i. (at i, e i)) m, refl)
  fill_more done (x ∷ xs) n v w u all m =
      let M : ℕ → Type 0 = λ k. IsMade files g id (Filled header b key k (cell k) n) w u in
      let at : done + length (x ∷ xs) ≡ done + 1 + length xs = omega arith in
      (all.0, all.1, fill_more (done + 1) xs n all.0 w u all.2 (subst M at m))

  fill_next : (done : ℕ) (found : List ℕ) (n : ℕ) (v w u : View) → length found ≡ done → AreMade files g id (fill_steps header b key cell 0 found) v w → IsMade files g id (Filled header b key done (cell done) n) w u → AreMade files g id (fill_steps header b key cell 0 (found ++ n ∷ [])) v u
  fill_next done found n v w u count all m =
      let M : ℕ → Type 0 = λ k. IsMade files g id (Filled header b key k (cell k) n) w u in
      let at : done ≡ 0 + length found = omega (arith, count) in
      fill_more 0 found n v w u all (subst M at m)

pub store_cell-requires-clause-more : goal.store_cell-requires-clause-more
store_cell-requires-clause-more g c =
    let e = cells_are c.args.key.len in
    let less : c.loop-done.done < (c.args.key.len + 7) / 8 = c.loop-done-test.true in
    let P : ℕ → Type 0 = λ n. c.loop-done.done < n in
    subst P e less

pub store_cell-requires-clause-cell : goal.store_cell-requires-clause-cell
store_cell-requires-clause-cell g c =
    let P : ℕ → Type 0 = λ n. IsCell g.W.World.files c.args.key c.loop-done.done n in
    subst P (sym c.cell_of_bytes-value.ensures) (cell_is g.W.World.files c.args.key c.args.bytes.now c.loop-done.done c.requires.content)

pub loop-done-preserved : goal.loop-done-preserved
loop-done-preserved g c =
    let geometry = geometry_of c.args.words.now in
    let old = c.loop-done.invariant in
    let step = c.store_cell.ensures.made in
    let u = c.store_cell.new.seat.me.0 in
    let now = c.loop-done.seat.me.0 in
    let marks = old.seat.seat.live.marks in
    let inside = c.requires.header in
    let within : c.args.header < length now.marks = omega (arith, marks, inside) in
    let I : ℕ × ℕ → Type 0 = λ z. IsMade g.W.World.files geometry z.0 (Filled c.args.header c.args.block c.args.key c.loop-done.done z.1 step.0) now u in
    let made = subst I (λ i. (old.seat.id_is i, c.cell_of_bytes-value.ensures i)) step.1 in
    record {
      seat = record { seat = c.store_cell.ensures.seat.seat; id_is = c.store_cell.ensures.seat.id_is ∙ old.seat.id_is };
      claim = filled_claim g.W.World.files geometry c.loop-done.seat.id c.args.header now u within c.args.block c.args.key c.loop-done.done _ step.0 step.1;
      made = (
        old.made.0 ++ step.0 ∷ [],
        let l = length-append old.made.0 (step.0 ∷ []) in omega (arith, l, old.made.1),
        fill_next g.W.World.files geometry c.args.seat.now.id c.args.header c.args.block c.args.key (cell_in c.args.bytes.now) c.loop-done.done old.made.0 step.0 (view c.args.seat.now) now u old.made.1 old.made.2 made,
      );
    }

all_done : (done end len : ℕ) → end ≡ (len + 7) / 8 → done ≡ end → done ≡ cells_for len
all_done done end len e f = f ∙ (e ∙ cells_are len)

pub returns-clause-claim : goal.returns-clause-claim
returns-clause-claim g c = c.loop-done.invariant.claim ∙ ap (λ n. Fresh c.args.block (Some c.args.key) n) (all_done c.loop-done.done _ c.args.key.len refl (omega (arith, c.loop-done-test.false, c.loop-done.auto.done-end)))

pub returns-clause-made : goal.returns-clause-made
returns-clause-made g c =
    let made = c.loop-done.invariant.made in
    (made.0, made.1 ∙ all_done c.loop-done.done _ c.args.key.len refl (omega (arith, c.loop-done-test.false, c.loop-done.auto.done-end)), made.2)

use Rattle.std.proofs.Common.{◌≡◌, ◌≢◌, ℕ, ◌+◌, ◌-◌, ◌*◌, ◌/◌, ◌%◌, ◌<◌, ◌≤◌, List, [], ◌∷◌, ◌++◌, length, get_or, refl, sym, ap, ◌∙◌, subst, inl, inr, arith, ne_eqb}
use Rattle.std.specs.Prelude.{Option, if◌then◌else◌}
use Rattle.std.specs.Int.{to_le_bytes, w64}
use Rattle.std.proofs.lemmas.Bool.{cases_eq, cases_lt}
use Rattle.std.proofs.lemmas.Option.{none-some}
use Rattle.std.proofs.lemmas.List.{get_or-append_right, get_or_append_left, length-append}
use Rattle.pool_model.specs.Block.{cells_for}
use Rattle.pool_model.specs.Content.{Files, IsCell, IsRange, cells_of}
use Rattle.pool_rule.specs.declared.geometry.Geometry.{Geometry}
use Rattle.pool_rule.specs.declared.view.Mark.{Mark}
use Rattle.pool_rule.specs.declared.view.View.{View}
use Rattle.pool_rule.specs.declared.word_step.WordStep.TheVariants.{LookedAtCell}
use Rattle.pool_rule.specs.Layout.{block_cells}
use Rattle.pool_rule.specs.Tables.{geometry_of}
use Rattle.pool_rule.specs.Words.{view}
use Rattle.pool_rule.specs.WordSteps.{IsMade}
use Rattle.buffer_pool.specs.Callers.{made_mark}
use Rattle.buffer_pool.specs.Made.{AreMade, byte_of, cells_touched, load_steps}
use Rattle.buffer_pool.proofs.reading.read_cells.Goals as goal

-- ---- one load more

module _ (files : Option Files) (g : Geometry) (id : ℕ) where
  load_more : (cell : ℕ) (found : List ℕ) (n : ℕ) (v w u : View) → AreMade files g id (load_steps cell found) v w → IsMade files g id (LookedAtCell (cell + length found) n) w u → AreMade files g id (load_steps cell (found ++ n ∷ [])) v u
  load_more cell [] n v w u e m =
      let M : ℕ × View → Type 0 = λ z. IsMade files g id (LookedAtCell z.0 n) z.1 u in
      let at : cell + 0 ≡ cell = omega arith in
      (u, subst M (λ i. (at i, e i)) m, refl)
  load_more cell (x ∷ xs) n v w u all m =
      let M : ℕ → Type 0 = λ k. IsMade files g id (LookedAtCell k n) w u in
      let at : cell + length (x ∷ xs) ≡ cell + 1 + length xs = omega arith in
      (all.0, all.1, load_more (cell + 1) xs n all.0 w u all.2 (subst M at m))

-- ---- the bytes

bytes_more : (old new found : List ℕ) (n skip number i : ℕ) → length found ≡ number → (skip + i < 8 * number → get_or old i 0 ≡ byte_of found (skip + i)) → (skip + i < 8 * number → get_or new i 0 ≡ get_or old i 0) → (8 * number ≤ skip + i → skip + i < 8 * number + 8 → get_or new i 0 ≡ get_or (to_le_bytes w64 n) (skip + i - 8 * number) 0) → skip + i < 8 * (number + 1) → get_or new i 0 ≡ byte_of (found ++ n ∷ []) (skip + i)
bytes_more old new found n skip number i count had left put less =
    elim (cases_lt (skip + i) (8 * number)) [
      | inl before ↦
          let inside : (skip + i) / 8 < length found = omega (arith, count, before) in
          left before ∙ (had before ∙ ap (λ v. get_or (to_le_bytes w64 v) ((skip + i) % 8) 0) (sym (get_or_append_left found (n ∷ []) 0 ((skip + i) / 8) inside)))
      | inr from ↦
          let at : (skip + i) / 8 - number ≡ 0 = omega (arith, from, less) in
          let value : get_or (found ++ n ∷ []) ((skip + i) / 8) 0 ≡ n = get_or-append_right found (n ∷ []) number ((skip + i) / 8) 0 count (omega (arith, from)) ∙ ap (λ k. get_or (n ∷ []) k 0) at in
          let byte : skip + i - 8 * number ≡ (skip + i) % 8 = omega (arith, from, less) in
          put from (omega (arith, less)) ∙ (ap (λ k. get_or (to_le_bytes w64 n) k 0) byte ∙ ap (λ v. get_or (to_le_bytes w64 v) ((skip + i) % 8) 0) (sym value))
    ]

-- ---- what the cells hold

cells_more : (P : ℕ → ℕ → Type 0) (found : List ℕ) (n number : ℕ) → length found ≡ number → ((j : ℕ) → j < length found → P j (get_or found j 0)) → P number n → (j : ℕ) → j < length (found ++ n ∷ []) → P j (get_or (found ++ n ∷ []) j 0)
cells_more P found n number count old last j inside =
    elim (cases_lt j (length found)) [
      | inl before ↦ subst (P j) (sym (get_or_append_left found (n ∷ []) 0 j before)) (old j before)
      | inr from ↦
          let l = length-append found (n ∷ []) in
          let is : j ≡ number = omega (arith, l, inside, from, count) in
          let at : j - number ≡ 0 = omega (arith, is) in
          let value : get_or (found ++ n ∷ []) j 0 ≡ n = get_or-append_right found (n ∷ []) number j 0 count (omega (arith, is)) ∙ ap (λ k. get_or (n ∷ []) k 0) at in
          let Q : ℕ × ℕ → Type 0 = λ z. P z.0 z.1 in
          subst Q (λ k. (sym is k, sym value k)) last
    ]

-- ---- the cells are the key's

touched_some : (skip len : ℕ) → len ≢ 0 → cells_touched skip len ≡ (skip + len + 7) / 8
touched_some skip len ne = ap (λ t. if t then 0 else (skip + len + 7) / 8) (ne_eqb len 0 ne)

number_fits : (number skip len : ℕ) → number < cells_touched skip len → 8 * number < skip + len
number_fits number skip len less =
    elim (cases_eq len 0) [
      | inl none ↦ let P : ℕ → Type 0 = λ k. number < cells_touched skip k in absurd (omega (arith, subst P none less))
      | inr some_bytes ↦
          let P : ℕ → Type 0 = λ k. number < k in
          let here : number < (skip + len + 7) / 8 = subst P (touched_some skip len some_bytes) less in
          omega (arith, here)
    ]

cell_fits : (at len number bytes : ℕ) → 8 * number < at % 8 + len → at + len ≤ bytes → at / 8 + number < cells_for bytes
unfolding cells_for
cell_fits at len number bytes less range = omega (arith, less, range)

pub loop-number-init : goal.loop-number-init
loop-number-init g c =
    record {
      seat = record { seat = c.requires.seat; id_is = refl };
      len = refl;
      pinned = c.requires.pinned;
      made = ([], refl, refl, (λ i inside less. absurd (omega (arith, less))), (λ j less. absurd (omega (arith, less))));
    }

pub cell_of-cell-requires-clause-cell : goal.cell_of-cell-requires-clause-cell
cell_of-cell-requires-clause-cell g c =
    let less = c.loop-number-test.true in
    let len = c.loop-number.invariant.len in
    let fits = c.requires.fits in
    let range = c.requires.range in
    let T : ℕ → Type 0 = λ n. c.loop-number.number < n in
    let here : c.loop-number.number < cells_touched (c.args.at % 8) (length c.args.into.now) = subst T c.touched-number-end.ensures less in
    cell_fits c.args.at (length c.args.into.now) c.loop-number.number _ (number_fits c.loop-number.number (c.args.at % 8) (length c.args.into.now) here) (omega (arith, range, fits))

pub loop-number-preserved : goal.loop-number-preserved
loop-number-preserved g c =
    let geometry = geometry_of c.args.words.now in
    let old = c.loop-number.invariant in
    let made = c.look_at_cell-value.ensures.made in
    let value = c.look_at_cell-value.result in
    let u = c.look_at_cell-value.new.seat.me.0 in
    let now = c.loop-number.seat.me.0 in
    let number = c.loop-number.number in
    let first : ℕ = c.args.block.place * block_cells geometry + c.args.at / 8 in
    let found = old.made.0 in
    let count = old.made.1 in
    let range = c.requires.range in
    let T : ℕ → Type 0 = λ n. number < n in
    let here : number < cells_touched (c.args.at % 8) (length c.args.into.now) = subst T c.touched-number-end.ensures c.loop-number-test.true in
    let of_key : c.args.at / 8 + number < cells_of c.args.key = cell_fits c.args.at (length c.args.into.now) number c.args.key.len (number_fits number (c.args.at % 8) (length c.args.into.now) here) range in
    let place : c.cell_of-cell.result ≡ c.args.block.place * block_cells geometry + (c.args.at / 8 + number) = c.cell_of-cell.ensures.same in
    let I : ℕ × ℕ → Type 0 = λ z. IsMade g.W.World.files geometry z.0 (LookedAtCell z.1 value) now u in
    let at : c.cell_of-cell.result ≡ first + length found = omega (arith, place, count) in
    let step = subst I (λ i. (old.seat.id_is i, at i)) made in
    let told = made.tells c.args.header c.args.block c.args.key (c.args.at / 8 + number) c.requires.header old.pinned of_key place in
    let same : c.args.at / 8 + number ≡ c.args.at / 8 + number = refl in
    record {
      seat = record { seat = c.look_at_cell-value.ensures.seat.seat; id_is = c.look_at_cell-value.ensures.seat.id_is ∙ old.seat.id_is };
      len = c.put_cell.ensures.len ∙ old.len;
      pinned = ap (λ (m : Mark). m.hold) (made_mark g.W.World.files geometry c.loop-number.seat.id (LookedAtCell c.cell_of-cell.result value) now u made c.args.header (none-some c.args.header)) ∙ old.pinned;
      made = (
        found ++ value ∷ [],
        let l = length-append found (value ∷ []) in omega (arith, l, count),
        load_more g.W.World.files geometry c.args.seat.now.id first found value (view c.args.seat.now) now u old.made.2 step,
        (λ i inside less.
            let within : i < length c.loop-number.into = let l = old.len in omega (arith, l, inside) in
            bytes_more c.loop-number.into c.put_cell.new.into found value (c.args.at % 8) number i count (old.made.3 i inside) (c.put_cell.ensures.left i within) (c.put_cell.ensures.put i within) less),
        cells_more (λ j n. IsCell g.W.World.files c.args.key (c.args.at / 8 + j) n × IsRange g.W.World.files c.args.key) found value number count old.made.4 told,
      );
    }

all_touched : (skip len i : ℕ) → i < len → skip + i < 8 * cells_touched skip len
all_touched skip len i inside =
    let some_bytes : len ≢ 0 = λ none. omega (arith, none, inside) in
    let is = touched_some skip len some_bytes in
    let here : skip + i < 8 * ((skip + len + 7) / 8) = omega (arith, inside) in
    let P : ℕ → Type 0 = λ k. skip + i < 8 * k in
    subst P (sym is) here

pub returns-clause-made : goal.returns-clause-made
returns-clause-made g c =
    let made = c.loop-number.invariant.made in
    let ended : c.loop-number.number ≡ cells_touched (c.args.at % 8) (length c.args.into.now) = omega (arith, c.loop-number-test.false, c.loop-number.auto.number-end) ∙ c.touched-number-end.ensures in (
      made.0,
      made.1 ∙ ended,
      made.2,
      (λ i inside. let P : ℕ → Type 0 = λ n. c.args.at % 8 + i < 8 * n in made.3 i inside (subst P (sym ended) (all_touched (c.args.at % 8) (length c.args.into.now) i inside))),
      made.4,
    )

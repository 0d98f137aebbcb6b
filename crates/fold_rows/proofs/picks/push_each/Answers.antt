use Rattle.std.proofs.Common.{rules, ◌≡◌, ◌∙◌, [], ◌∷◌, ◌++◌, true, false, if◌then◌else◌, get_or, length, map, take, ap, sym, refl, arith, append-nil, List, Bool}
use Rattle.std.proofs.lemmas.List.{take_all}
use Rattle.orc_values.specs.declared.value.Value.{Value}
use Rattle.batch_masks.specs.Kept.{kept}
use Rattle.batch_masks.specs.Rows.{row_at, rows_of}
use Rattle.batch_masks.specs.RowsLaws.{length-rows_from}
use Rattle.fold_rows.specs.States.{picked}
use Rattle.fold_rows.proofs.Rows.{rows_more}
use Rattle.fold_rows.proofs.picks.push_each.Goals as goal

pub loop-row-init : goal.loop-row-init
loop-row-init c = record { order = omega arith; befores = c.requires.befores; rows = sym (append-nil c.args.rows.items) }

pub loop-row-preserved-then-not-mask-row : goal.loop-row-preserved-then-not-mask-row
loop-row-preserved-then-not-mask-row c =
    let l = c.loop-row in
    let mask = c.args.mask.now in
    let now = l.rows.items in
    let off : get_or mask l.row false ≡ false = search rules in
    record {
      order = omega (arith, l.invariant.order);
      befores = l.invariant.befores;
      rows =
          sym (append-nil now)
          ∙ ap (λ (b : Bool). now ++ (if b then picked c.args.places.now (row_at c.args.columns.now l.row) ∷ [] else [])) (sym off)
          ∙ rows_more c.args.rows.items now c.args.places.now mask c.args.columns.now (length mask) l.row refl c.loop-row-test.true l.invariant.rows;
    }

pub loop-row-preserved : goal.loop-row-preserved
loop-row-preserved c =
    let l = c.loop-row in
    let mask = c.args.mask.now in
    let now = l.rows.items in
    let on : get_or mask l.row false ≡ true = search rules in
    record {
      order = omega arith;
      befores = c.go_on.ensures;
      rows =
          c.in_ok-rows.ensures
          ∙ ap (λ (b : Bool). now ++ (if b then picked c.args.places.now (row_at c.args.columns.now l.row) ∷ [] else [])) (sym on)
          ∙ rows_more c.args.rows.items now c.args.places.now mask c.args.columns.now (length mask) l.row refl c.loop-row-test.true l.invariant.rows;
    }

pub returns : goal.returns
returns c =
    let l = c.loop-row in
    let mask = c.args.mask.now in
    let rows = rows_of (length mask) c.args.columns.now in
    l.invariant.rows
    ∙ ap (λ (m : List Bool). c.args.rows.items ++ map (picked c.args.places.now) (kept m (take l.row rows))) (take_all l.row mask c.loop-row-test.false)
    ∙ ap (λ (r : List (List Value)). c.args.rows.items ++ map (picked c.args.places.now) (kept mask r)) (take_all l.row rows (omega (arith, length-rows_from 0 (length mask) c.args.columns.now, c.loop-row-test.false)))

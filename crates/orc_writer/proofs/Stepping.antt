-- The steps of a writer.
use Rattle.std.proofs.Common.{◌≡◌, ℕ, zero, suc, ◌+◌, ◌<◌, ◌≤◌, ◌^◌, List, [], ◌∷◌, ◌++◌, length, map, All, refl, sym, ap, subst, ◌∙◌, arith, length-append}
use Rattle.std.specs.Prelude.{Ok, true}
use Rattle.std.proofs.Math.Dec.{leb}
use Rattle.std.proofs.lemmas.Bool.{le-leb}
use Rattle.tail_writer.specs.Tails.{IsTail, Tells}
use Rattle.std.proofs.lemmas.List.Elements.{All-nil, All-push, All-head, All-tail}
use Rattle.orc_tail.specs.declared.stripe.Stripe.{Stripe}
use Rattle.orc_tail.specs.Tail.{greatest_len, stripe_end, stripes_end_by, tail}
use Rattle.orc_values.specs.declared.value.Value.{Value}
use Rattle.orc_batches.specs.Batch.{Batch, behind}
use Rattle.orc_rows.specs.Given.{no_rows}
use Rattle.orc_rows.specs.Rows.{Rows, HaveRows}
use Rattle.tail_writer.specs.declared.file_column.FileColumn.{FileColumn}
use Rattle.tail_writer.specs.Columns.{top_columns_from}
use Rattle.table_columns.specs.declared.table_column.TableColumn.{TableColumn}
use Rattle.table_columns.specs.Shapes.{file_column, RowFits}
use Rattle.table_columns.specs.Tables.{shape_by, shapes_of, rows_with, rows_of, with_row, as_batch, without_rows}
use Rattle.table_columns.specs.Files.{HasFooter, AreFilled}
use Rattle.table_writer.specs.Table.{IsColumnOf}
use Rattle.orc_writer.specs.declared.column_spec.ColumnSpec.{ColumnSpec}
use Rattle.orc_writer.specs.Given.{placed_before, none_of}
use Rattle.orc_writer.specs.Making.{AreMade}
use Rattle.orc_writer.specs.Placing.{IsInserted}
use Rattle.orc_writer.specs.Stripes.{AddsStripe, AddsLast}
use Rattle.orc_writer.specs.Ending.{file_columns_of, IsEnded}
use Rattle.orc_writer.specs.Writing.{Writing, shapes, AreThere, IsNone, Holds, IsSame, IsMade, IsWriter, Pushes}
use Rattle.orc_writer.proofs.Columns.{shapes_row, rows_row, columns_row, shapes_none, columns_none, rows_none, behind_none, shapes_insert, rows_insert, columns_insert, columns_made, rows_made, none_behind, all_none, shapes_map, behind_row, waiting_none}
use Rattle.orc_writer.proofs.Holding.{there_more, none_there, filled, filled_more}

-- ---- the first

pub first_is : (bytes : List ℕ) (stripes : List Stripe) (specs : List ColumnSpec) (columns : List TableColumn) (stripe_rows : ℕ) → bytes ≡ 0x4F ∷ 0x52 ∷ 0x43 ∷ [] → stripes ≡ []
    → AreMade specs columns → 1 ≤ stripe_rows → stripe_rows < 2 ^ 32
    → IsWriter (record { bytes = bytes; stripes = stripes; columns = columns; waiting = 0; stripe_rows = stripe_rows; pushed = 0 })
first_is bytes stripes specs columns stripe_rows bytes_are no_stripes made some few = record {
  begun = ([], bytes_are);
  full = rw no_stripes (All-nil (λ (s : Stripe). s.rows ≡ stripe_rows));
  room = omega arith;
  counted = omega arith;
  some = some;
  few = few;
  columns = columns_made specs columns made;
}

pub first_holds : (bytes : List ℕ) (stripes : List Stripe) (specs : List ColumnSpec) (columns : List TableColumn) (stripe_rows : ℕ) → stripes ≡ [] → AreMade specs columns
    → Holds (record { bytes = bytes; stripes = stripes; columns = columns; waiting = 0; stripe_rows = stripe_rows; pushed = 0 }) (none_of specs)
first_holds bytes stripes specs columns stripe_rows no_stripes made =
    let none : IsNone (none_of specs) = record { count = refl; columns = all_none specs } in
    record {
      before = none_of specs;
      there = rw no_stripes (none_there bytes (shapes_of columns) (none_of specs) none);
      are = ap (λ (b : Batch). record { count = 0; columns = b }) (sym (none_behind specs) ∙ ap (λ (b : Batch). behind (no_rows specs) b) (sym (rows_made specs columns made)));
      counted = refl;
      begun = λ h. none;
    }

-- ---- a column that nobody reads

pub opaque_holds : (w : Writing) (columns : List TableColumn) (before : ℕ) (c : TableColumn) (rows : Rows) → w.stripes ≡ [] → IsInserted before c w.columns columns
    → ((batch : Batch) → rows_with c.content batch ≡ batch) → Holds w rows → Holds (record w { columns = columns }) rows
opaque_holds w columns before c rows no_stripes is skips holds =
    let same : rows_of columns ≡ rows_of w.columns = ap rows_of is.new_is ∙ rows_insert w.columns is.at c skips in
    record {
      before = holds.before;
      there = rw no_stripes (none_there w.bytes (shapes_of columns) holds.before (holds.begun no_stripes));
      are = holds.are ∙ ap (λ (b : Batch). record { count = holds.before.count + w.waiting; columns = behind holds.before.columns b }) (sym same);
      counted = holds.counted;
      begun = holds.begun;
    }

pub opaque_shapes : (before : ℕ) (c : TableColumn) (old new : List TableColumn) → IsInserted before c old new → shapes_of new ≡ placed_before before (shape_by c.column c.content) (shapes_of old)
opaque_shapes before c old new is = ap shapes_of is.new_is ∙ shapes_insert old is.at c ∙ sym (is.place (shape_by c.column c.content))

pub opaque_is : (w : Writing) (columns : List TableColumn) (before : ℕ) (c : TableColumn) → IsInserted before c w.columns columns → IsColumnOf w.waiting c → IsWriter w → IsWriter (record w { columns = columns })
opaque_is w columns before c is of writer = record {
  begun = writer.begun;
  full = writer.full;
  room = writer.room;
  counted = writer.counted;
  some = writer.some;
  few = writer.few;
  columns = rw is.new_is (columns_insert w.waiting w.columns is.at c writer.columns of);
}

-- ---- a row more

pub row_is : (w : Writing) (columns : List TableColumn) (row : List Value) → RowFits (shapes w) row → w.waiting < w.stripe_rows → columns ≡ with_row w.columns row → IsWriter w
    → IsWriter (record w { columns = columns; waiting = w.waiting + 1; pushed = w.pushed + 1 })
row_is w columns row fits room are writer = record {
  begun = writer.begun;
  full = writer.full;
  room = omega (arith, room);
  counted = omega (arith, writer.counted);
  some = writer.some;
  few = writer.few;
  columns = rw are (columns_row w.waiting w.columns row fits writer.columns);
}

pub row_pushes : (w : Writing) (columns : List TableColumn) (row : List Value) → RowFits (shapes w) row → columns ≡ with_row w.columns row
    → Pushes w row (record w { columns = columns; waiting = w.waiting + 1; pushed = w.pushed + 1 })
row_pushes w columns row fits are =
    let same : shapes_of columns ≡ shapes_of w.columns = ap shapes_of are ∙ shapes_row w.columns row in
    record {
      shapes_are = same;
      stripe_rows_are = refl;
      holds = λ rows holds.
          let more : behind rows.columns (as_batch row) ≡ behind holds.before.columns (rows_of columns) =
          ap (λ (r : Rows). behind r.columns (as_batch row)) holds.are ∙ behind_row w.columns holds.before.columns row fits ∙ ap (λ (b : Batch). behind holds.before.columns b) (sym (ap rows_of are ∙ rows_row w.columns row fits)) in
          let count : rows.count + 1 ≡ holds.before.count + (w.waiting + 1) = omega (arith, ap (λ (r : Rows). r.count) holds.are) in
          record {
            before = holds.before;
            there = rw same holds.there;
            are = rw (more, count) refl;
            counted = omega (arith, holds.counted);
            begun = holds.begun;
          };
    }

-- ---- a stripe

not_empty : (stripes : List Stripe) (stripe : Stripe) → stripes ++ stripe ∷ [] ≡ [] → ⊥
not_empty [] stripe e = let known = e in cc
not_empty (s ∷ stripes) stripe e = let known = e in cc

pub stripe_is : (w : Writing) (bytes : List ℕ) (stripes : List Stripe) (columns : List TableColumn) → w.waiting ≡ w.stripe_rows → AddsStripe w.bytes bytes w.stripes stripes w.columns w.waiting
    → columns ≡ without_rows w.columns → IsWriter w → IsWriter (record w { bytes = bytes; stripes = stripes; columns = columns; waiting = 0 })
stripe_is w bytes stripes columns full adds are writer =
    let stripe = adds.0 in
    let has = adds.2 in
    let rest = writer.begun.0 in
    record {
      begun = (rest ++ has.added, has.joined ∙ ap (λ (l : List ℕ). l ++ has.added) writer.begun.1);
      full = rw adds.1 (All-push (λ (s : Stripe). s.rows ≡ w.stripe_rows) w.stripes stripe writer.full (has.counted ∙ full));
      room = omega arith;
      counted = omega arith;
      some = writer.some;
      few = writer.few;
      columns = rw are (columns_none w.waiting w.columns writer.columns);
    }

pub stripe_same : (w : Writing) (bytes : List ℕ) (stripes : List Stripe) (columns : List TableColumn) → AddsStripe w.bytes bytes w.stripes stripes w.columns w.waiting
    → columns ≡ without_rows w.columns → w.waiting ≡ w.stripe_rows → IsWriter w → IsSame w (record w { bytes = bytes; stripes = stripes; columns = columns; waiting = 0 })
stripe_same w bytes stripes columns adds are full writer =
    let same : shapes_of columns ≡ shapes_of w.columns = ap shapes_of are ∙ shapes_none w.columns in
    record {
      shapes_are = same;
      stripe_rows_are = refl;
      pushed_is = refl;
      fresh = λ is. absurd (omega (arith, is.1, full, writer.some, writer.counted));
      holds = λ rows holds.
          let there : AreThere bytes (w.stripes ++ adds.0 ∷ []) (shapes_of w.columns) (record { count = holds.before.count + w.waiting; columns = behind holds.before.columns (rows_of w.columns) }) =
          there_more w.bytes bytes w.stripes w.columns holds.before adds.0 w.waiting holds.there adds.2 in
          let rows_there : AreThere bytes (w.stripes ++ adds.0 ∷ []) (shapes_of w.columns) rows = subst (λ (r : Rows). AreThere bytes (w.stripes ++ adds.0 ∷ []) (shapes_of w.columns) r) (sym holds.are) there in
          let none : behind rows.columns (rows_of columns) ≡ rows.columns = ap (λ (l : List TableColumn). behind rows.columns (rows_of l)) are ∙ behind_none rows.columns (rows_of (without_rows w.columns)) (rows_none w.columns) in
          let count : rows.count ≡ rows.count + 0 = omega arith in
          record {
            before = rows;
            there = rw (same, adds.1) rows_there;
            are = ap (λ (b : Batch). record { count = rows.count; columns = b }) (sym none) ∙ ap (λ (n : ℕ). record { count = n; columns = behind rows.columns (rows_of columns) }) count;
            counted = holds.counted;
            begun = λ h. absurd (not_empty w.stripes adds.0 (sym adds.1 ∙ h));
          };
    }

pub same_then : (first between last : Writing) (row : List Value) → IsSame first between → Pushes between row last → Pushes first row last
same_then first between last row one two = record {
  shapes_are = two.shapes_are ∙ one.shapes_are;
  stripe_rows_are = two.stripe_rows_are ∙ one.stripe_rows_are;
  holds = λ rows holds. two.holds rows (one.holds rows holds);
}

-- ---- the whole

pub record AtEnd (w : Writing) (bytes : List ℕ) (stripes : List Stripe) : Type 0 where
  pub there : (rows : Rows) → Holds w rows → AreThere bytes stripes (shapes w) rows
  pub are_filled : AreFilled w.stripe_rows stripes
  pub rest : List ℕ
  pub begins : bytes ≡ 0x4F ∷ 0x52 ∷ 0x43 ∷ rest

at_end_by : (w : Writing) (bytes : List ℕ) (stripes : List Stripe) (waiting : ℕ) → waiting ≡ w.waiting → IsWriter w → AddsLast w.bytes bytes w.stripes stripes w.columns waiting → AtEnd w bytes stripes
at_end_by w bytes stripes zero same writer adds = record {
  there = λ rows holds.
      let none : behind holds.before.columns (rows_of w.columns) ≡ holds.before.columns = waiting_none w.waiting w.columns holds.before.columns (sym same) writer.columns in
      let count : holds.before.count + w.waiting ≡ holds.before.count = omega (arith, same) in
      let rows_are : rows ≡ holds.before = holds.are ∙ rw (none, count) refl in
      rw (adds.0, adds.1, rows_are) holds.there;
  are_filled = rw adds.1 (filled w.stripe_rows w.stripes writer.some writer.full);
  rest = writer.begun.0;
  begins = adds.0 ∙ writer.begun.1;
}
at_end_by w bytes stripes (suc waiting) same writer adds = record {
  there = λ rows holds.
      let there : AreThere bytes (w.stripes ++ adds.0 ∷ []) (shapes_of w.columns) (record { count = holds.before.count + (suc waiting); columns = behind holds.before.columns (rows_of w.columns) }) =
      there_more w.bytes bytes w.stripes w.columns holds.before adds.0 (suc waiting) holds.there adds.2 in
      let rows_are : rows ≡ record { count = holds.before.count + (suc waiting); columns = behind holds.before.columns (rows_of w.columns) } =
      holds.are ∙ ap (λ (n : ℕ). record { count = holds.before.count + n; columns = behind holds.before.columns (rows_of w.columns) }) (sym same) in
      rw (adds.1, rows_are) there;
  are_filled = rw adds.1 (filled_more w.stripe_rows w.stripes adds.0 writer.full (omega (arith, adds.2.counted)) (omega (arith, adds.2.counted, same, writer.room)));
  rest = writer.begun.0 ++ adds.2.added;
  begins = adds.2.joined ∙ ap (λ (l : List ℕ). l ++ adds.2.added) writer.begun.1;
}

pub at_end : (w : Writing) (bytes : List ℕ) (stripes : List Stripe) → IsWriter w → AddsLast w.bytes bytes w.stripes stripes w.columns w.waiting → AtEnd w bytes stripes
at_end w bytes stripes writer adds = at_end_by w bytes stripes w.waiting refl writer adds

pub is_made : (w : Writing) (bytes file : List ℕ) (stripes : List Stripe) → AtEnd w bytes stripes → IsEnded bytes file stripes (file_columns_of w.columns) w.pushed → IsMade w file
is_made w bytes file stripes end ended rows holds =
    let there = end.there rows holds in
    record {
      stripes = stripes;
      tail_is = λ small few.
          ended.tail_is there.ends small few ∙ ap (λ (l : List FileColumn). Ok (record { stripes = stripes; columns = top_columns_from 1 l })) (sym (shapes_map w.columns));
      has = λ read values are.
          subst (λ (l : List ℕ). HaveRows l read stripes (record { count = rows.count; columns = values })) (sym ended.joined) (there.has ended.end read values are);
      filled = end.are_filled;
      footers = subst (λ (l : List ℕ). All (λ (s : Stripe). HasFooter l s (shapes w)) stripes) (sym ended.joined) (there.footers ended.end);
      front = bytes;
      end = ended.end;
      ends = ended.joined;
      told = subst (λ (n : ℕ). Tells ended.end stripes (map file_column (shapes w)) n) holds.counted
          (subst (λ (l : List FileColumn). Tells ended.end stripes l w.pushed) (sym (shapes_map w.columns)) ended.told);
      rest = end.rest ++ ended.end;
      begins = ended.joined ∙ ap (λ (l : List ℕ). l ++ ended.end) end.begins;
    }

pub is_ended : (before after end lent : List ℕ) (stripes : List Stripe) (columns : List FileColumn) (rows : ℕ) → IsTail end stripes (top_columns_from 1 columns) → Tells end stripes columns rows
    → lent ≡ end → after ≡ before ++ lent → IsEnded before after stripes columns rows
is_ended before after end lent stripes columns rows is told same joined =
    let whole : after ≡ before ++ end = joined ∙ ap (λ (l : List ℕ). before ++ l) same in
    record {
      end = end;
      joined = whole;
      told = told;
      tail_is = λ below small few.
          subst (λ (file : List ℕ). tail file ≡ Ok (record { stripes = stripes; columns = top_columns_from 1 columns })) (sym whole)
          (is before (subst (λ (file : List ℕ). length file ≤ greatest_len) whole small) few (end_by (length (before ++ end)) (length before) stripes (omega (arith, length-append before end)) below));
    }
  where
    end_by : (len short : ℕ) (stripes : List Stripe) → short ≤ len → All (λ (s : Stripe). stripe_end s ≤ short) stripes → stripes_end_by len stripes ≡ true
    end_by len short [] h are = refl
    end_by len short (s ∷ stripes) h are =
        let first : stripe_end s ≤ short = All-head (λ (t : Stripe). stripe_end t ≤ short) s stripes are in
        let t : leb (stripe_end s) len ≡ true = le-leb (stripe_end s) len (omega (arith, h, first)) in
        rw t (end_by len short stripes h (All-tail (λ (u : Stripe). stripe_end u ≤ short) s stripes are))

-- What a writer holds, when a stripe is written.
use Rattle.std.proofs.Common.{◌≡◌, ℕ, ◌+◌, ◌<◌, ◌≤◌, ◌⊎◌, inl, inr, List, [], ◌∷◌, ◌++◌, length, All, refl, sym, ap, subst, ◌∙◌, arith, append_assoc, append-nil, length-append}
use Rattle.std.proofs.lemmas.List.Elements.{All-nil, All-head, All-tail, All-push, All-weaker}
use Rattle.orc_tail.specs.declared.stripe.Stripe.{Stripe}
use Rattle.orc_tail.specs.Tail.{stripe_end}
use Rattle.orc_tail.specs.declared.stripe_footer.StripeFooter.{StripeFooter}
use Rattle.orc_values.specs.Column.{RowValues}
use Rattle.orc_streams.specs.declared.layout.ReadColumn.{ReadColumn}
use Rattle.orc_batches.specs.Batch.{Batch, behind}
use Rattle.orc_rows.specs.Given.{no_rows}
use Rattle.orc_rows.specs.Rows.{Rows, StripeHas, HaveValues, HaveRows}
use Rattle.tail_writer.specs.declared.file_column.FileColumn.{FileColumn}
use Rattle.tail_writer.specs.Columns.{next_number}
use Rattle.table_columns.specs.declared.table_column.Content.{Content}
use Rattle.table_columns.specs.declared.table_column.Content.TheVariants.{Written, Opaque}
use Rattle.table_columns.specs.declared.table_column.TableColumn.{TableColumn}
use Rattle.table_columns.specs.Shapes.{Shape, written, opaque, IsNumbered, IsRead, AreRead}
use Rattle.table_columns.specs.Tables.{shape_by, shapes_of, rows_with, rows_of}
use Rattle.table_columns.specs.Files.{HasFooter, AreFilled}
use Rattle.table_writer.specs.Table.{HasTable}
use Rattle.orc_writer.specs.Writing.{AreThere, IsNone}

-- ---- as many lists

pub data AsMany {X Y : Type 0} : List X → List Y → Type 0 where
  as_none : AsMany [] []
  as_more : {x : X} {y : Y} {xs : List X} {ys : List Y} → AsMany xs ys → AsMany (x ∷ xs) (y ∷ ys)

have_many : (file : List ℕ) (footer : StripeFooter) (rows : ℕ) (read : List ReadColumn) (values : Batch) → HaveValues file footer rows read values → AsMany read values
have_many file footer rows [] [] have = as_none
have_many file footer rows [] (v ∷ values) have = absurd have
have_many file footer rows (r ∷ read) [] have = absurd have
have_many file footer rows (r ∷ read) (v ∷ values) have = as_more (have_many file footer rows read values have.1)

stripe_many : (file : List ℕ) (stripe : Stripe) (read : List ReadColumn) (values : Batch) → StripeHas file stripe read values → AsMany read values
stripe_many file stripe [] [] StripeHas.unread = as_none
stripe_many file stripe [] (v ∷ values) has = elim has [ ]
stripe_many file stripe (r ∷ read) values (StripeHas.by_footer footer is have) = have_many file footer stripe.rows (r ∷ read) values have

behind_many : (read : List ReadColumn) (values others : Batch) → AsMany read values → AsMany read others → AsMany read (behind values others)
behind_many [] [] [] as_none as_none = as_none
behind_many [] [] (o ∷ others) one two = elim two [ ]
behind_many [] (v ∷ values) others one two = elim one [ ]
behind_many (r ∷ read) [] others one two = elim one [ ]
behind_many (r ∷ read) (v ∷ values) [] one two = elim two [ ]
behind_many (r ∷ read) (v ∷ values) (o ∷ others) (as_more one) (as_more two) = as_more (behind_many read values others one two)

no_many : (read : List ReadColumn) → AsMany read (no_rows read)
no_many [] = as_none
no_many (r ∷ read) = as_more (no_many read)

rows_many : (file : List ℕ) (read : List ReadColumn) (stripes : List Stripe) (rows : Rows) → HaveRows file read stripes rows → AsMany read rows.columns
rows_many file read [] rows HaveRows.none = no_many read
rows_many file read (s ∷ stripes) rows (HaveRows.next values others has have) = behind_many read values others.columns (stripe_many file s read values has) (rows_many file read stripes others have)

behind_assoc : (read : List ReadColumn) (a b c : Batch) → AsMany read a → AsMany read b → AsMany read c → behind (behind a b) c ≡ behind a (behind b c)
behind_assoc [] [] [] [] as_none as_none as_none = refl
behind_assoc [] [] [] (z ∷ c) one two three = elim three [ ]
behind_assoc [] [] (y ∷ b) c one two three = elim two [ ]
behind_assoc [] (x ∷ a) b c one two three = elim one [ ]
behind_assoc (r ∷ read) [] b c one two three = elim one [ ]
behind_assoc (r ∷ read) (x ∷ a) [] c one two three = elim two [ ]
behind_assoc (r ∷ read) (x ∷ a) (y ∷ b) [] one two three = elim three [ ]
behind_assoc (r ∷ read) (x ∷ a) (y ∷ b) (z ∷ c) (as_more one) (as_more two) (as_more three) =
    ap (λ (l : RowValues). l ∷ behind (behind a b) c) (append_assoc x y z) ∙ ap (λ (l : Batch). (x ++ (y ++ z)) ∷ l) (behind_assoc read a b c one two three)

behind_first : (read : List ReadColumn) (values : Batch) → AsMany read values → behind (no_rows read) values ≡ behind values (no_rows read)
behind_first [] [] as_none = refl
behind_first [] (v ∷ values) are = elim are [ ]
behind_first (r ∷ read) [] are = elim are [ ]
behind_first (r ∷ read) (v ∷ values) (as_more are) = ap (λ (l : RowValues). l ∷ behind (no_rows read) values) (sym (append-nil v)) ∙ ap (λ (l : Batch). (v ++ []) ∷ l) (behind_first read values are)

-- ---- a stripe more

pub one_more : (file : List ℕ) (read : List ReadColumn) (stripes : List Stripe) (rows : Rows) (stripe : Stripe) (values : Batch) → HaveRows file read stripes rows → StripeHas file stripe read values
    → HaveRows file read (stripes ++ stripe ∷ []) (record { count = rows.count + stripe.rows; columns = behind rows.columns values })
one_more file read [] rows stripe values HaveRows.none has =
    let same : behind (no_rows read) values ≡ behind values (no_rows read) = behind_first read values (stripe_many file stripe read values has) in
    let plus : 0 + stripe.rows ≡ stripe.rows + 0 = omega arith in
    rw (same, plus) (HaveRows.next values (record { count = 0; columns = no_rows read }) has HaveRows.none)
one_more file read (s ∷ stripes) rows stripe values (HaveRows.next front others first have) has =
    let a = stripe_many file s read front first in
    let b = rows_many file read stripes others have in
    let c = stripe_many file stripe read values has in
    let same : behind (behind front others.columns) values ≡ behind front (behind others.columns values) = behind_assoc read front others.columns values a b c in
    let plus : (s.rows + others.count) + stripe.rows ≡ s.rows + (others.count + stripe.rows) = omega arith in
    rw (same, plus) (HaveRows.next front (record { count = others.count + stripe.rows; columns = behind others.columns values }) first (one_more file read stripes others stripe values have has))

-- ---- which values are of which stripe

pub record Split (number : ℕ) (shapes : List Shape) (a b : Batch) (read : ReadColumn) (values : RowValues) : Type 0 where
  pub front : RowValues
  pub back : RowValues
  pub front_is : IsRead number shapes a read front
  pub back_is : IsRead number shapes b read back
  pub joined : values ≡ front ++ back

split_or : (number : ℕ) (column : FileColumn) (s : _) (shapes : List Shape) (x y : RowValues) (a b : Batch) (read : ReadColumn) (values : RowValues)
    → (IsNumbered number column read × (values ≡ x ++ y)) ⊎ IsRead (next_number number column) shapes (behind a b) read values
    → (IsRead (next_number number column) shapes (behind a b) read values → Split (next_number number column) shapes a b read values)
    → Split number (written column s ∷ shapes) (x ∷ a) (y ∷ b) read values
split_or number column s shapes x y a b read values (inl here) others = record {
  front = x;
  back = y;
  front_is = inl (here.0, refl);
  back_is = inl (here.0, refl);
  joined = here.1;
}
split_or number column s shapes x y a b read values (inr there) others =
    let of = others there in
    record { front = of.front; back = of.back; front_is = inr of.front_is; back_is = inr of.back_is; joined = of.joined }

split_by : (number : ℕ) (column : FileColumn) (content : Content) (shapes : List Shape) (a b : Batch) (read : ReadColumn) (values : RowValues)
    → IsRead number (shape_by column content ∷ shapes) (behind a (rows_with content b)) read values
    → ((rest : Batch) → IsRead (next_number number column) shapes (behind rest b) read values → Split (next_number number column) shapes rest b read values)
    → Split number (shape_by column content ∷ shapes) a (rows_with content b) read values
split_by number column (Written buffer) shapes [] b read values is others = absurd is
split_by number column (Written buffer) shapes (x ∷ a) b read values is others = split_or number column buffer.spelling shapes x buffer.rows a b read values is (λ there. others a there)
split_by number column (Opaque streams) shapes a b read values is others =
    let of = others a is in
    record { front = of.front; back = of.back; front_is = of.front_is; back_is = of.back_is; joined = of.joined }

split_one : (number : ℕ) (columns : List TableColumn) (a : Batch) (read : ReadColumn) (values : RowValues) → IsRead number (shapes_of columns) (behind a (rows_of columns)) read values
    → Split number (shapes_of columns) a (rows_of columns) read values
split_one number [] a read values is = absurd is
split_one number (c ∷ columns) a read values is =
    split_by number c.column c.content (shapes_of columns) a (rows_of columns) read values is (λ rest there. split_one (next_number number c.column) columns rest read values there)

pub record SplitAll (shapes : List Shape) (a b : Batch) (read : List ReadColumn) (values : List RowValues) : Type 0 where
  pub front : List RowValues
  pub back : List RowValues
  pub front_are : AreRead shapes a read front
  pub back_are : AreRead shapes b read back
  pub joined : values ≡ behind front back

pub split : (columns : List TableColumn) (a : Batch) (read : List ReadColumn) (values : List RowValues) → AreRead (shapes_of columns) (behind a (rows_of columns)) read values
    → SplitAll (shapes_of columns) a (rows_of columns) read values
split columns a [] [] are = record { front = []; back = []; front_are = tt; back_are = tt; joined = refl }
split columns a [] (v ∷ values) are = absurd are
split columns a (r ∷ read) [] are = absurd are
split columns a (r ∷ read) (v ∷ values) are =
    let one = split_one 1 columns a r v are.0 in
    let others = split columns a read values are.1 in
    record {
      front = one.front ∷ others.front;
      back = one.back ∷ others.back;
      front_are = (one.front_is, others.front_are);
      back_are = (one.back_is, others.back_are);
      joined = ap (λ (l : RowValues). l ∷ values) one.joined ∙ ap (λ (l : List RowValues). (one.front ++ one.back) ∷ l) others.joined;
    }

-- ---- what is there

pub there_more : (before after : List ℕ) (stripes : List Stripe) (columns : List TableColumn) (rows : Rows) (stripe : Stripe) (count : ℕ) → AreThere before stripes (shapes_of columns) rows
    → HasTable before after stripe columns count
    → AreThere after (stripes ++ stripe ∷ []) (shapes_of columns) (record { count = rows.count + count; columns = behind rows.columns (rows_of columns) })
there_more before after stripes columns rows stripe count there has =
    let longer : length before ≤ length after = omega (arith, ap length has.joined, length-append before has.added) in
    let whole : (back : List ℕ) → after ++ back ≡ before ++ (has.added ++ back) = λ back. ap (λ (l : List ℕ). l ++ back) has.joined ∙ append_assoc before has.added back in
    record {
      ends =
          All-push (λ (s : Stripe). stripe_end s ≤ length after) stripes stripe
          (All-weaker (λ (s : Stripe). stripe_end s ≤ length before) (λ (s : Stripe). stripe_end s ≤ length after) (λ s below. omega (arith, below, longer)) stripes there.ends) (omega (arith, has.ends));
      has = λ back read values are.
          let of = split columns rows.columns read values are in
          let front : HaveRows (after ++ back) read stripes (record { count = rows.count; columns = of.front }) =
          subst (λ (file : List ℕ). HaveRows file read stripes (record { count = rows.count; columns = of.front })) (sym (whole back)) (there.has (has.added ++ back) read of.front of.front_are) in
          let made : HaveRows (after ++ back) read (stripes ++ stripe ∷ []) (record { count = rows.count + stripe.rows; columns = behind of.front of.back }) =
          one_more (after ++ back) read stripes (record { count = rows.count; columns = of.front }) stripe of.back front (has.has back read of.back of.back_are) in
          subst (λ (v : List RowValues). HaveRows (after ++ back) read (stripes ++ stripe ∷ []) (record { count = rows.count + count; columns = v })) (sym of.joined)
          (subst (λ (n : ℕ). HaveRows (after ++ back) read (stripes ++ stripe ∷ []) (record { count = rows.count + n; columns = behind of.front of.back })) has.counted made);
      footers = λ back.
          All-push (λ (s : Stripe). HasFooter (after ++ back) s (shapes_of columns)) stripes stripe
          (subst (λ (file : List ℕ). All (λ (s : Stripe). HasFooter file s (shapes_of columns)) stripes) (sym (whole back)) (there.footers (has.added ++ back))) (has.footer_is back);
    }

-- ---- no rows

none_one : (number : ℕ) (shapes : List Shape) (batch : Batch) (read : ReadColumn) (values : RowValues) → All (λ column. column ≡ []) batch → IsRead number shapes batch read values → values ≡ []
none_one number [] batch read values none is = absurd is
none_one number (written column spelling ∷ shapes) [] read values none is = absurd is
none_one number (written column spelling ∷ shapes) (rows ∷ batch) read values none is =
    none_or (IsNumbered number column read) (IsRead (next_number number column) shapes batch read values) rows values (All-head (λ (l : RowValues). l ≡ []) rows batch none) is
    (λ there. none_one (next_number number column) shapes batch read values (All-tail (λ (l : RowValues). l ≡ []) rows batch none) there)
  where
    none_or : (Here Later : Type 0) (rows values : RowValues) → rows ≡ [] → (Here × (values ≡ rows)) ⊎ Later → (Later → values ≡ []) → values ≡ []
    none_or Here Later rows values none (inl here) later = here.1 ∙ none
    none_or Here Later rows values none (inr there) later = later there
none_one number (opaque column streams ∷ shapes) batch read values none is = none_one (next_number number column) shapes batch read values none is

none_all : (shapes : List Shape) (batch : Batch) (read : List ReadColumn) (values : List RowValues) → All (λ column. column ≡ []) batch → AreRead shapes batch read values → values ≡ no_rows read
none_all shapes batch [] [] none are = refl
none_all shapes batch [] (v ∷ values) none are = absurd are
none_all shapes batch (r ∷ read) [] none are = absurd are
none_all shapes batch (r ∷ read) (v ∷ values) none are =
    ap (λ (l : RowValues). l ∷ values) (none_one 1 shapes batch r v none are.0) ∙ ap (λ (l : List RowValues). [] ∷ l) (none_all shapes batch read values none are.1)

pub none_there : (bytes : List ℕ) (shapes : List Shape) (rows : Rows) → IsNone rows → AreThere bytes [] shapes rows
none_there bytes shapes rows none = record {
  ends = All-nil (λ (s : Stripe). stripe_end s ≤ length bytes);
  has = λ back read values are.
      let v : values ≡ no_rows read = none_all shapes rows.columns read values none.columns are in
      rw (v, none.count) HaveRows.none;
  footers = λ back. All-nil (λ (s : Stripe). HasFooter (bytes ++ back) s shapes);
}

-- ---- how full the stripes are

pub filled : (rows : ℕ) (stripes : List Stripe) → 0 < rows → All (λ s. s.rows ≡ rows) stripes → AreFilled rows stripes
filled rows [] some full = tt
filled rows (s ∷ []) some full = let is = All-head (λ (t : Stripe). t.rows ≡ rows) s [] full in (omega (arith, some, is), omega (arith, is))
filled rows (s ∷ t ∷ stripes) some full =
    (All-head (λ (u : Stripe). u.rows ≡ rows) s (t ∷ stripes) full, filled rows (t ∷ stripes) some (All-tail (λ (u : Stripe). u.rows ≡ rows) s (t ∷ stripes) full))

pub filled_more : (rows : ℕ) (stripes : List Stripe) (last : Stripe) → All (λ s. s.rows ≡ rows) stripes → 0 < last.rows → last.rows ≤ rows → AreFilled rows (stripes ++ last ∷ [])
filled_more rows [] last full some few = (some, few)
filled_more rows (s ∷ []) last full some few = (All-head (λ (t : Stripe). t.rows ≡ rows) s [] full, (some, few))
filled_more rows (s ∷ t ∷ stripes) last full some few =
    (All-head (λ (u : Stripe). u.rows ≡ rows) s (t ∷ stripes) full, filled_more rows (t ∷ stripes) last (All-tail (λ (u : Stripe). u.rows ≡ rows) s (t ∷ stripes) full) some few)

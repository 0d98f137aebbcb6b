-- A row more of a column.
use Rattle.std.proofs.Common.{◌≡◌, ℕ, ◌<◌, ◌≤◌, Bool, true, false, List, [], ◌∷◌, ◌++◌, length, map, drop, get_or, Option, Some, None, Result, Ok, Err, refl, sym, ap, subst, ◌∙◌, arith, append-nil, length-append}
use Rattle.std.specs.Prelude.{IfOk}
use Rattle.std.specs.Prelude.{slice_range}
use Rattle.orc_values.specs.Texts.{AreEnds, texts_from, last_end}
use Rattle.orc_values.specs.TextsLaws.{texts_from-append, length-texts_from}
use Rattle.std.proofs.lemmas.Bool.{false≢true}
use Rattle.std.proofs.lemmas.List.{map-append}
use Rattle.orc_values.specs.Column.{is_present}
use Rattle.orc_values.specs.declared.value.Value.{Value}
use Rattle.orc_values.specs.declared.value.Value.TheVariants as value
use Rattle.orc_values.specs.Woven.{present_count, woven}
use Rattle.orc_values.specs.WovenLaws.{woven-append, present_count-append, present_count-le, length-woven}
use Rattle.orc_columns.specs.declared.spelling.Spelling.{Spelling}
use Rattle.orc_columns.specs.Column.{ArePresent, AreValues, rows_of, row_value}
use Rattle.column_writer.specs.declared.encoded.Encoded.{Encoded}
use Rattle.column_writer.specs.Buffered.{Buffered, HasRows, and_row, and_rows}
use Rattle.column_writer.specs.Encoded.{streams_of}

pub rows_and_null : (flags : List Bool) (values : List Value) → length values ≡ present_count flags → rows_of (flags ++ false ∷ []) values ≡ rows_of flags values ++ value.Null ∷ []
rows_and_null flags values h =
    ap (λ (l : List Value). rows_of (flags ++ false ∷ []) l) (sym (append-nil values))
    ∙ ap (map row_value) (woven-append flags (false ∷ []) values [] h)
    ∙ map-append row_value (woven flags values) (None ∷ [])

pub rows_and_value : (flags : List Bool) (values : List Value) (row : Value) → length values ≡ present_count flags → rows_of (flags ++ true ∷ []) (values ++ row ∷ []) ≡ rows_of flags values ++ row ∷ []
rows_and_value flags values row h =
    ap (map row_value) (woven-append flags (true ∷ []) values (row ∷ []) h)
    ∙ map-append row_value (woven flags values) (Some row ∷ [])

length-mapped : (rows : List (Option Value)) → length (map row_value rows) ≡ length rows
length-mapped [] = refl
length-mapped (row ∷ rows) = omega (arith, length-mapped rows)

-- there are no more values than rows
pub values_few : (flags : List Bool) (values : List Value) → length values ≡ present_count flags → length values ≤ length (rows_of flags values)
values_few flags values h = omega (arith, h, present_count-le flags, length-woven flags values, length-mapped (woven flags values))

pub has_rows : (spelling : Spelling) (flags : List Bool) (values : List Value) (e : Encoded) → length values ≡ present_count flags → ArePresent e.present flags → AreValues spelling e.dictionary_size (streams_of e) values → HasRows (record { spelling = spelling; rows = rows_of flags values }) e
has_rows spelling flags values e h present standing plan spelled size = record {
  spelling = spelling;
  flags = flags;
  values = values;
  spelled = spelled;
  present = present;
  enough = h;
  standing = subst (λ (n : ℕ). AreValues spelling n (streams_of e) values) (sym size) standing;
  rows_are = refl;
}

-- ---- a buffer and one row more

abbrev with_rows : Spelling → List Value → Buffered
with_rows spelling rows = record { spelling = spelling; rows = rows }

abbrev pub buffered : Spelling → List Bool → List Value → Buffered
buffered spelling flags values = record { spelling = spelling; rows = rows_of flags values }

pub null_is : (row : Value) → is_present row ≡ false → row ≡ value.Null
null_is value.Null e = refl
null_is (value.Bool b) e = absurd (false≢true (sym e))
null_is (value.Int n) e = absurd (false≢true (sym e))
null_is (value.Text t) e = absurd (false≢true (sym e))

pub counted_null : (flags after : List Bool) (values : List Value) → length values ≡ present_count flags → after ≡ flags ++ false ∷ [] → length values ≡ present_count after
counted_null flags after values h e = omega (arith, h, ap present_count e, present_count-append flags (false ∷ []))

pub counted_value : (flags after : List Bool) (values more : List Value) (row : Value) → length values ≡ present_count flags → after ≡ flags ++ true ∷ [] → more ≡ values ++ row ∷ [] → length more ≡ present_count after
counted_value flags after values more row h e k = omega (arith, h, ap present_count e, ap length k, length-append values (row ∷ []), present_count-append flags (true ∷ []))

pub pushed_null : (spelling : Spelling) (flags after : List Bool) (values : List Value) (row : Value) → length values ≡ present_count flags → after ≡ flags ++ false ∷ [] → row ≡ value.Null → buffered spelling after values ≡ and_row (buffered spelling flags values) row
pushed_null spelling flags after values row h e null =
    ap (λ (l : List Bool). buffered spelling l values) e
    ∙ ap (λ (rows : List Value). with_rows spelling rows) (rows_and_null flags values h ∙ ap (λ (v : Value). rows_of flags values ++ v ∷ []) (sym null))

pub pushed_value : (spelling same : Spelling) (flags after : List Bool) (values more : List Value) (row : Value) → length values ≡ present_count flags → same ≡ spelling → after ≡ flags ++ true ∷ [] → more ≡ values ++ row ∷ [] → buffered same after more ≡ and_row (buffered spelling flags values) row
pushed_value spelling same flags after values more row h s e k =
    ap (λ (x : Spelling). buffered x after more) s
    ∙ ap (λ (l : List Bool). buffered spelling l more) e
    ∙ ap (λ (l : List Value). buffered spelling (flags ++ true ∷ []) l) k
    ∙ ap (λ (rows : List Value). with_rows spelling rows) (rows_and_value flags values row h)

pub IfOk-then : {T E : Type 0} (r : Result T E) {P Q : T → Type 0} → IfOk r P → ((x : T) → P x → Q x) → IfOk r Q
IfOk-then (Ok x) h f = f x h
IfOk-then (Err e) h f = tt

-- ---- a row less

AreEnds-front : (from : ℕ) (ends : List ℕ) (last limit : ℕ) → AreEnds from (ends ++ last ∷ []) limit → AreEnds from ends limit
AreEnds-front from [] last limit are = let h : from ≤ last = are.0 in let k : last ≤ limit = are.1 in omega arith
AreEnds-front from (end ∷ ends) last limit are = (are.0, AreEnds-front end ends last limit are.1)

pub ends_front : (ends after : List ℕ) (last limit : ℕ) → ends ≡ after ++ last ∷ [] → AreEnds 0 ends limit → AreEnds 0 after limit
ends_front ends after last limit e are = AreEnds-front 0 after last limit (subst (λ (l : List ℕ). AreEnds 0 l limit) e are)

pub some_ends : (texts : List (List ℕ)) (ends bytes : List ℕ) → texts_from 0 ends bytes ≡ texts → 0 < length texts → 0 < length ends
some_ends texts ends bytes e some = omega (arith, ap length e, length-texts_from 0 ends bytes)

pub text_popped : (texts : List (List ℕ)) (ends after bytes : List ℕ) (last : ℕ) → texts_from 0 ends bytes ≡ texts → ends ≡ after ++ last ∷ [] → (x : List ℕ) × (texts ≡ texts_from 0 after bytes ++ x ∷ [])
text_popped texts ends after bytes last e cut =
    (slice_range bytes (last_end 0 after) last, sym e ∙ ap (λ (l : List ℕ). texts_from 0 l bytes) cut ∙ texts_from-append 0 after (last ∷ []) bytes)

pub some_flags : (flags : List Bool) (values : List Value) → 0 < length (rows_of flags values) → 0 < length flags
some_flags flags values h = omega (arith, length-woven flags values, length-mapped (woven flags values))

pub some_values : (flags after : List Bool) (values : List Value) → length values ≡ present_count flags → flags ≡ after ++ true ∷ [] → 0 < length values
some_values flags after values h e = omega (arith, h, ap present_count e, present_count-append after (true ∷ []))

pub fewer_values : (flags after : List Bool) (values less : List Value) (last : Value) → length values ≡ present_count flags → flags ≡ after ++ true ∷ [] → values ≡ less ++ last ∷ [] → length less ≡ present_count after
fewer_values flags after values less last h e k = omega (arith, h, ap present_count e, ap length k, length-append less (last ∷ []), present_count-append after (true ∷ []))

pub same_values : (flags after : List Bool) (values : List Value) → length values ≡ present_count flags → flags ≡ after ++ false ∷ [] → length values ≡ present_count after
same_values flags after values h e = omega (arith, h, ap present_count e, present_count-append after (false ∷ []))

pub no_row : (columns : List Buffered) (row : List Value) → length row ≡ 0 → columns ≡ and_rows columns row
no_row [] row e = refl
no_row (column ∷ columns) [] e = refl
no_row (column ∷ columns) (value ∷ row) e = absurd (omega arith)

snoc_same : {A : Type 0} (xs ys : List A) (x y : A) → xs ++ x ∷ [] ≡ ys ++ y ∷ [] → xs ≡ ys
snoc_same [] [] x y e = refl
snoc_same [] (z ∷ ys) x y e = absurd (omega (arith, ap length e, length-append ys (y ∷ [])))
snoc_same (z ∷ xs) [] x y e = absurd (omega (arith, ap length e, length-append xs (x ∷ [])))
snoc_same {A} (z ∷ xs) (w ∷ ys) x y e =
    let tail : xs ++ x ∷ [] ≡ ys ++ y ∷ [] = ap (drop 1) e in
    let head : z ≡ w = ap (λ (l : List A). get_or l 0 z) e in
    ap (λ (a : A). a ∷ xs) head ∙ ap (λ (l : List A). w ∷ l) (snoc_same xs ys x y tail)

same_spelling : (b c : Buffered) (x y : Value) → and_row b x ≡ and_row c y → b ≡ c
same_spelling b c x y e =
    ap (λ (s : Spelling). with_rows s b.rows) (ap (λ (d : Buffered). d.spelling) e)
    ∙ ap (λ (l : List Value). with_rows c.spelling l) (snoc_same b.rows c.rows x y (ap (λ (d : Buffered). d.rows) e))

-- a row that was pushed and let go
pub popped : (before pushed after : Buffered) (value last : Value) → pushed ≡ and_row before value → pushed ≡ and_row after last → after ≡ before
popped before pushed after value last one other = same_spelling after before last value (sym other ∙ one)

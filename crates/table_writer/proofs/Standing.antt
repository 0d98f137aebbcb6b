-- A column more, and what the whole stripe has.
use Rattle.std.proofs.Common.{◌≡◌, ◌≢◌, ℕ, zero, suc, ◌+◌, ◌<◌, ◌≤◌, ◌⊎◌, inl, inr, Bool, true, false, List, [], ◌∷◌, ◌++◌, length, map, take, drop, ◌-◌, get_or, Some, None, All, refl, sym, ap, subst, ◌∙◌, arith, append_assoc, append-nil, length-append, slice_get}
use Rattle.std.specs.Prelude.{sum_by, ◌==◌, ◌&&◌, nat_lt, if◌then◌else◌, Ok, slice_range}
use Rattle.std.proofs.lemmas.Bool.{ne_eqb, lt-ltb, le-ltb}
use Rattle.std.proofs.lemmas.List.{take_more, take_at, drop_at}
use Rattle.std.proofs.lemmas.List.Elements.{All-nil, All-cons, All-head, All-tail, All-append, All-weaker}
use Rattle.std.proofs.lemmas.List.Sums.{sum_by-cons}
use Rattle.orc_tail.specs.declared.encoding.Encoding.{Encoding}
use Rattle.orc_tail.specs.declared.stream.StreamRange.{StreamRange}
use Rattle.orc_tail.specs.declared.stripe.Stripe.{Stripe}
use Rattle.orc_tail.specs.declared.stripe_footer.StripeFooter.{StripeFooter}
use Rattle.orc_tail.specs.StripeFooter.{placed, first_stream, has_bytes, stripe_footer}
use Rattle.orc_values.specs.Column.{RowValues}
use Rattle.orc_columns.specs.Spelling.{spelling_of}
use Rattle.orc_streams.specs.declared.layout.ReadColumn.{ReadColumn}
use Rattle.orc_batches.specs.Batch.{Batch}
use Rattle.orc_rows.specs.Rows.{StripeHas, HaveValues}
use Rattle.column_writer.specs.declared.encoded.Encoded.{Encoded}
use Rattle.column_writer.specs.Buffered.{Buffered}
use Rattle.column_writer.specs.Encoded.{streams_of}
use Rattle.footer_writer.specs.declared.stream_part.StreamPart.{StreamPart}
use Rattle.footer_writer.specs.Views.{part_view}
use Rattle.footer_writer.specs.Made.{LieIn}
use Rattle.file_writer.specs.Stripes.{HasStripe}
use Rattle.tail_writer.specs.declared.file_column.FileColumn.{FileColumn}
use Rattle.tail_writer.specs.Columns.{next_number}
use Rattle.stripe_writer.specs.declared.stream_bytes.StreamBytes.{StreamBytes}
use Rattle.stripe_writer.specs.Parts.{Stream, body_of, listed, first_bytes, and_stream, and_column, HasNone, HasStreams, WrittenColumn, IsWritten, AreWritten, columns_in, rows_in}
use Rattle.stripe_writer.specs.Laws.{ColumnIsAdded, ColumnsAreThere}
use Rattle.table_columns.specs.declared.table_column.Content.{Content}
use Rattle.table_columns.specs.declared.table_column.Content.TheVariants.{Written, Opaque}
use Rattle.table_columns.specs.declared.table_column.OpaqueStream.{OpaqueStream}
use Rattle.table_columns.specs.declared.table_column.TableColumn.{TableColumn}
use Rattle.table_columns.specs.Shapes.{Shape, file_column, next_of, encoding_number, IsSpelled, IsNumbered, IsRead, AreRead}
use Rattle.table_columns.specs.Tables.{shape_by, shapes_of, rows_with, rows_of, HasCount, AreChildren}
use Rattle.table_columns.specs.Files.{of_types, found_in, as_streams, HaveColumns, AreOfTypes}
use Rattle.table_writer.specs.Table.{IsColumnOf, HasTable}
use Rattle.table_writer.specs.Stands.{AddsPart, directs, SoFar, AddsWritten, AddsOpaque, AddsColumn, parts_of, Within, Stands, StandsOpaque, StandsBy, StandAll, next_in, Stand}

-- ---- lists

get_front : {X : Type 0} (xs more : List X) (y : X) (i : ℕ) → slice_get xs i ≡ Some y → slice_get (xs ++ more) i ≡ Some y
get_front [] more y i e = absurd (let known = e in cc)
get_front (z ∷ xs) more y zero e = e
get_front (z ∷ xs) more y (suc i) e = get_front xs more y i e

get_last : {X : Type 0} (xs : List X) (x : X) → slice_get (xs ++ x ∷ []) (length xs) ≡ Some x
get_last [] x = refl
get_last (z ∷ xs) x = get_last xs x

all_at : {X : Type 0} (P : X → Type 0) (xs : List X) (i : ℕ) (x : X) → All P xs → i < length xs → x ≡ get_or xs i x → P x
all_at P xs i x all within is = subst P (sym is) (all i x within)

directs_more : (count : ℕ) → directs (count + 1) ≡ directs count ++ record { kind = 0; dictionary_size = 0 } ∷ []
directs_more zero = refl
directs_more (suc count) =
    let e : suc count + 1 ≡ suc (count + 1) = omega arith in
    ap directs e ∙ ap (λ (l : List Encoding). record { kind = 0; dictionary_size = 0 } ∷ l) (directs_more count)

length-directs : (count : ℕ) → length (directs count) ≡ count
length-directs zero = refl
length-directs (suc count) = omega (arith, length-directs count)

get_direct : (encodings : List Encoding) (count n : ℕ) → length encodings ≤ n → n < length encodings + count → slice_get (encodings ++ directs count) n ≡ Some (record { kind = 0; dictionary_size = 0 })
get_direct [] zero n low high = absurd (omega (arith, high))
get_direct [] (suc count) zero low high = refl
get_direct [] (suc count) (suc n) low high = get_direct [] count n (omega arith) (omega (arith, high))
get_direct (e ∷ encodings) count zero low high = absurd (omega (arith, low))
get_direct (e ∷ encodings) count (suc n) low high = get_direct encodings count n (omega (arith, low)) (omega (arith, high))

-- ---- tests

both_false : (a b : Bool) → b ≡ false → (a && b) ≡ false
both_false true b e = e
both_false false b e = refl

other_test : (kind wanted column other : ℕ) → column ≢ other → (kind == wanted && column == other) ≡ false
other_test kind wanted column other differ = both_false (kind == wanted) (column == other) (ne_eqb column other differ)

-- ---- streams of types

-- streams of further types leave those of the types before, and none is of a type before
none_within : (from to other : ℕ) (parts : List StreamBytes) → (other < from) ⊎ (to ≤ other) → Within from to parts → HasNone other parts
none_within from to other parts beside within =
    All-weaker (λ (p : StreamBytes). (from ≤ p.column) × (p.column < to)) (λ (p : StreamBytes). p.column ≢ other) (λ p is same. outside_of from to other p.column beside is.0 is.1 same) parts within
  where
    outside_of : (from to other column : ℕ) → (other < from) ⊎ (to ≤ other) → from ≤ column → column < to → column ≡ other → ⊥
    outside_of from to other column (inl h) low high same = omega (arith, h, low, same)
    outside_of from to other column (inr h) low high same = omega (arith, h, high, same)

none_first : (wanted other : ℕ) (parts : List StreamBytes) → HasNone other parts → first_bytes wanted other parts ≡ []
none_first wanted other [] none = refl
none_first wanted other (p ∷ parts) none =
    let t : (p.kind == wanted && p.column == other) ≡ false = other_test p.kind wanted p.column other (All-head (λ (q : StreamBytes). q.column ≢ other) p parts none) in
    rw t (none_first wanted other parts (All-tail (λ (q : StreamBytes). q.column ≢ other) p parts none))

if_same : (t : Bool) (a b c : List ℕ) → b ≡ c → (if t then a else b) ≡ (if t then a else c)
if_same true a b c e = refl
if_same false a b c e = e

first_stays : (wanted other : ℕ) (parts more : List StreamBytes) → HasNone other more → first_bytes wanted other (parts ++ more) ≡ first_bytes wanted other parts
first_stays wanted other [] more none = none_first wanted other more none
first_stays wanted other (p ∷ parts) more none =
    if_same (p.kind == wanted && p.column == other) p.bytes (first_bytes wanted other (parts ++ more)) (first_bytes wanted other parts) (first_stays wanted other parts more none)

if_front : (t : Bool) (p : StreamBytes) (xs ys zs : List StreamBytes) → xs ≡ ys ++ zs → (if t then p ∷ xs else xs) ≡ (if t then p ∷ ys else ys) ++ zs
if_front true p xs ys zs e = ap (λ (l : List StreamBytes). p ∷ l) e
if_front false p xs ys zs e = e

parts_append : (from to : ℕ) (parts more : List StreamBytes) → parts_of from to (parts ++ more) ≡ parts_of from to parts ++ parts_of from to more
parts_append from to [] more = refl
parts_append from to (p ∷ parts) more =
    if_front (nat_lt p.column to && nat_lt from (p.column + 1)) p (parts_of from to (parts ++ more)) (parts_of from to parts) (parts_of from to more) (parts_append from to parts more)

beside_test : (from to low high column : ℕ) → (to ≤ low) ⊎ (high ≤ from) → low ≤ column → column < high → (nat_lt column to && nat_lt from (column + 1)) ≡ false
beside_test from to low high column (inl h) l u = ap (λ (b : Bool). b && nat_lt from (column + 1)) (le-ltb column to (omega (arith, h, l)))
beside_test from to low high column (inr h) l u = both_false (nat_lt column to) (nat_lt from (column + 1)) (le-ltb from (column + 1) (omega (arith, h, u)))

no_parts : (from to low high : ℕ) (parts : List StreamBytes) → (to ≤ low) ⊎ (high ≤ from) → Within low high parts → parts_of from to parts ≡ []
no_parts from to low high [] beside within = refl
no_parts from to low high (p ∷ parts) beside within =
    let is = All-head (λ (q : StreamBytes). (low ≤ q.column) × (q.column < high)) p parts within in
    let t : (nat_lt p.column to && nat_lt from (p.column + 1)) ≡ false = beside_test from to low high p.column beside is.0 is.1 in
    rw t (no_parts from to low high parts beside (All-tail (λ (q : StreamBytes). (low ≤ q.column) × (q.column < high)) p parts within))

all_parts : (from to : ℕ) (parts : List StreamBytes) → Within from to parts → parts_of from to parts ≡ parts
all_parts from to [] within = refl
all_parts from to (p ∷ parts) within =
    let is = All-head (λ (q : StreamBytes). (from ≤ q.column) × (q.column < to)) p parts within in
    let one : nat_lt p.column to ≡ true = lt-ltb p.column to is.1 in
    let two : nat_lt from (p.column + 1) ≡ true = lt-ltb from (p.column + 1) (omega (arith, is.0)) in
    let t : (nat_lt p.column to && nat_lt from (p.column + 1)) ≡ true = ap (λ (b : Bool). b && nat_lt from (p.column + 1)) one ∙ two in
    rw t (ap (λ (l : List StreamBytes). p ∷ l) (all_parts from to parts (All-tail (λ (q : StreamBytes). (from ≤ q.column) × (q.column < to)) p parts within)))

-- ---- a column more leaves those before

next_above : (number : ℕ) (columns : List TableColumn) → number ≤ next_in number columns
next_above number [] = omega arith
next_above number (c ∷ columns) = omega (arith, next_above (next_number number c.column) columns)

abbrev with_more : SoFar → List StreamBytes → List Encoding → SoFar
with_more s parts encodings = record { parts = s.parts ++ parts; encodings = s.encodings ++ encodings }

still_found : (parts more : List StreamBytes) (number next bound last : ℕ) → next ≤ bound → Within bound last more → parts_of number next (parts ++ more) ≡ parts_of number next parts
still_found parts more number next bound last below within =
    parts_append number next parts more ∙ ap (λ (l : List StreamBytes). parts_of number next parts ++ l) (no_parts number next bound last more (inl below) within)
    ∙ append-nil (parts_of number next parts)

still_by : (s : SoFar) (number bound last : ℕ) (column : FileColumn) (content : Content) (parts : List StreamBytes) (encodings : List Encoding) → next_number number column ≤ bound → Within bound last parts
    → StandsBy s number column content → StandsBy (with_more s parts encodings) number column content
still_by s number bound last column (Written buffer) parts encodings below within before =
    let none : HasNone number parts = none_within bound last number parts (inl (omega (arith, below))) within in
    record {
      encoding = before.encoding;
      encoded = before.encoded;
      listed = get_front s.encodings encodings before.encoding number before.listed;
      spelled = before.spelled;
      size = before.size;
      has_rows = before.has_rows;
      has_streams = record {
        present = first_stays 0 number s.parts parts none ∙ before.has_streams.present;
        body = first_stays 1 number s.parts parts none ∙ before.has_streams.body;
        lengths = first_stays 2 number s.parts parts none ∙ before.has_streams.lengths;
        dictionary = first_stays 3 number s.parts parts none ∙ before.has_streams.dictionary;
      };
      found = still_found s.parts parts number (next_number number column) bound last below within ∙ before.found;
    }
still_by s number bound last column (Opaque streams) parts encodings below within before = record {
  found = still_found s.parts parts number (next_number number column) bound last below within ∙ before.found;
  direct = λ n low high. get_front s.encodings encodings (record { kind = 0; dictionary_size = 0 }) n (before.direct n low high);
}

still_all : (s : SoFar) (number bound last : ℕ) (columns : List TableColumn) (parts : List StreamBytes) (encodings : List Encoding) → next_in number columns ≤ bound → Within bound last parts
    → StandAll s number columns → StandAll (with_more s parts encodings) number columns
still_all s number bound last [] parts encodings below within before = tt
still_all s number bound last (c ∷ columns) parts encodings below within before = (
  still_by s number bound last c.column c.content parts encodings (omega (arith, below, next_above (next_number number c.column) columns)) within before.0,
  still_all s (next_number number c.column) bound last columns parts encodings below within before.1,
)

and_last : (s : SoFar) (number : ℕ) (columns : List TableColumn) (c : TableColumn) → StandAll s number columns → StandsBy s (next_in number columns) c.column c.content → StandAll s number (columns ++ c ∷ [])
and_last s number [] c before last = (last, tt)
and_last s number (d ∷ columns) c before last = (before.0, and_last s (next_number number d.column) columns c before.1 last)

next_more : (number : ℕ) (columns : List TableColumn) (c : TableColumn) → next_in number (columns ++ c ∷ []) ≡ next_number (next_in number columns) c.column
next_more number [] c = refl
next_more number (d ∷ columns) c = next_more (next_number number d.column) columns c

-- a column whose streams and encodings are added behind those of the others, and that then stands
stand_with : (columns : List TableColumn) (s : SoFar) (c : TableColumn) (parts : List StreamBytes) (encodings : List Encoding) → Stand columns s
    → length encodings ≡ 1 + length c.column.children.items → Within (length s.encodings) (length s.encodings + length encodings) parts
    → StandsBy (with_more s parts encodings) (length s.encodings) c.column c.content → Stand (columns ++ c ∷ []) (with_more s parts encodings)
stand_with columns s c parts encodings before counted within stands =
    let more : length (s.encodings ++ encodings) ≡ length s.encodings + length encodings = length-append s.encodings encodings in
    let least : 1 ≤ length s.encodings = omega (arith, before.counted, next_above 1 columns) in
    record {
      counted = omega (arith, more, counted, before.counted, next_more 1 columns c);
      root = get_front s.encodings encodings (record { kind = 0; dictionary_size = 0 }) 0 before.root;
      within =
          All-append (λ (p : StreamBytes). (1 ≤ p.column) × (p.column < length (s.encodings ++ encodings))) s.parts parts
          (All-weaker (λ (p : StreamBytes). (1 ≤ p.column) × (p.column < length s.encodings)) (λ (p : StreamBytes). (1 ≤ p.column) × (p.column < length (s.encodings ++ encodings)))
          (λ p is. (is.0, omega (arith, is.1, more))) s.parts before.within)
          (All-weaker (λ (p : StreamBytes). (length s.encodings ≤ p.column) × (p.column < length s.encodings + length encodings)) (λ (p : StreamBytes). (1 ≤ p.column) × (p.column < length (s.encodings ++ encodings)))
          (λ p is. (omega (arith, is.0, least), omega (arith, is.1, more))) parts within);
      each =
          and_last (with_more s parts encodings) 1 columns c
          (still_all s 1 (length s.encodings) (length s.encodings + length encodings) columns parts encodings (omega (arith, before.counted)) within before.each)
          (subst (λ (n : ℕ). StandsBy (with_more s parts encodings) n c.column c.content) before.counted stands);
    }

-- ---- a column that is written

added_by : (t : Bool) (parts : List StreamBytes) (p : StreamBytes) → (if t then parts else parts ++ p ∷ []) ≡ parts ++ (if t then [] else p ∷ [])
added_by true parts p = sym (append-nil parts)
added_by false parts p = refl

own_within : (t : Bool) (number : ℕ) (p : StreamBytes) → p.column ≡ number → Within number (number + 1) (if t then [] else p ∷ [])
own_within true number p is = All-nil (λ (q : StreamBytes). (number ≤ q.column) × (q.column < number + 1))
own_within false number p is =
    All-cons (λ (q : StreamBytes). (number ≤ q.column) × (q.column < number + 1)) p [] (omega (arith, is), omega (arith, is)) (All-nil (λ (q : StreamBytes). (number ≤ q.column) × (q.column < number + 1)))

-- the streams of one column more
pub record Own (parts after : List StreamBytes) (number : ℕ) : Type 0 where
  pub more : List StreamBytes
  pub joined : after ≡ parts ++ more
  pub within : Within number (number + 1) more

abbrev own_one : (parts : List StreamBytes) (kind number : ℕ) (bytes : List ℕ) → Own parts (and_stream parts kind number bytes) number
own_one parts kind number bytes =
    let p : StreamBytes = record { kind = kind; column = number; bytes = bytes } in
    record {
      more = if length bytes == 0 then [] else p ∷ [];
      joined = added_by (length bytes == 0) parts p;
      within = own_within (length bytes == 0) number p refl;
    }

abbrev own_then : (parts between after : List StreamBytes) (number : ℕ) → Own parts between number → Own between after number → Own parts after number
own_then parts between after number one two = record {
  more = one.more ++ two.more;
  joined = two.joined ∙ ap (λ (l : List StreamBytes). l ++ two.more) one.joined ∙ append_assoc parts one.more two.more;
  within = All-append (λ (p : StreamBytes). (number ≤ p.column) × (p.column < number + 1)) one.more two.more one.within two.within;
}

abbrev own_column : (parts : List StreamBytes) (number : ℕ) (e : Encoded) → Own parts (and_column parts number e) number
own_column parts number e =
    let one = and_stream parts 0 number e.present in
    let two = and_stream one 1 number e.body in
    let three = and_stream two 2 number e.lengths in
    let four = and_stream three 3 number e.dictionary in
    own_then parts one four number (own_one parts 0 number e.present)
    (own_then one two four number (own_one one 1 number e.body) (own_then two three four number (own_one two 2 number e.lengths) (own_one three 3 number e.dictionary)))

one_more : (children : List ℕ) → children ≡ [] → 1 ≡ 1 + length children
one_more children is = omega (arith, ap length is)

with_written : (columns : List TableColumn) (s after : SoFar) (c : TableColumn) (buffered : Buffered) → ColumnIsAdded → Stand columns s → c.column.children.items ≡ [] → AddsWritten s after buffered
    → ((t : SoFar) → Stands t.parts t.encodings (length s.encodings) (next_number (length s.encodings) c.column) buffered → StandsBy t (length s.encodings) c.column c.content) → Stand (columns ++ c ∷ []) after
with_written columns s after c buffered added before no_children adds by =
    let number = length s.encodings in
    let next = next_number number c.column in
    let same : number + 1 ≡ next = omega (arith, ap length no_children) in
    let e = adds.1.0 in
    let x : Encoding = record { kind = encoding_number buffered.spelling; dictionary_size = adds.0 } in
    let own = own_column s.parts number e in
    let parts_are : after.parts ≡ s.parts ++ own.more = adds.1.3 ∙ own.joined in
    let after_is : after ≡ with_more s own.more (x ∷ []) = rw (parts_are, adds.2) refl in
    let stands : Stands (s.parts ++ own.more) (s.encodings ++ x ∷ []) number next buffered = record {
      encoding = x;
      encoded = e;
      listed = get_last s.encodings x;
      spelled = refl;
      size = sym adds.1.2;
      has_rows = adds.1.1;
      has_streams = subst (λ (l : List StreamBytes). HasStreams number l (streams_of e)) own.joined (added s.parts number e (none_within 1 number number s.parts (inr (omega arith)) before.within));
      found =
          parts_append number next s.parts own.more
          ∙ ap (λ (l : List StreamBytes). l ++ parts_of number next own.more) (no_parts number next 1 number s.parts (inr (omega arith)) before.within)
          ∙ all_parts number next own.more (subst (λ (n : ℕ). Within number n own.more) same own.within) ∙ sym (own_column [] number e).joined;
    } in
    subst (λ (t : SoFar). Stand (columns ++ c ∷ []) t) (sym after_is)
    (stand_with columns s c own.more (x ∷ []) before (one_more c.column.children.items no_children) own.within (by (with_more s own.more (x ∷ [])) stands))

-- ---- a column that isn't read

streams_within : (number children : ℕ) (streams : List OpaqueStream) → AreChildren children streams → Within number (number + (children + 1)) (as_streams number streams)
streams_within number children [] are = All-nil (λ (p : StreamBytes). (number ≤ p.column) × (p.column < number + (children + 1)))
streams_within number children (s ∷ streams) are =
    let first : s.child ≤ children = All-head (λ (t : OpaqueStream). t.child ≤ children) s streams are in
    All-cons (λ (p : StreamBytes). (number ≤ p.column) × (p.column < number + (children + 1))) (record { kind = s.kind; column = number + s.child; bytes = s.bytes }) (as_streams number streams)
    (omega arith, omega (arith, first)) (streams_within number children streams (All-tail (λ (t : OpaqueStream). t.child ≤ children) s streams are))

with_opaque : (columns : List TableColumn) (s after : SoFar) (c : TableColumn) (streams : List OpaqueStream) → Stand columns s → AreChildren (length c.column.children.items) streams
    → AddsOpaque s after (length c.column.children.items) streams
    → ((t : SoFar) → StandsOpaque t.parts t.encodings (length s.encodings) (next_number (length s.encodings) c.column) streams → StandsBy t (length s.encodings) c.column c.content) → Stand (columns ++ c ∷ []) after
with_opaque columns s after c streams before are adds by =
    let number = length s.encodings in
    let children = length c.column.children.items in
    let next = next_number number c.column in
    let parts = as_streams number streams in
    let after_is : after ≡ with_more s parts (directs (children + 1)) = rw (adds.0, adds.1) refl in
    let many : length (directs (children + 1)) ≡ children + 1 = length-directs (children + 1) in
    let within : Within number (number + (children + 1)) parts = streams_within number children streams are in
    let same : number + (children + 1) ≡ next = omega arith in
    let stands : StandsOpaque (s.parts ++ parts) (s.encodings ++ directs (children + 1)) number next streams = record {
      found =
          parts_append number next s.parts parts
          ∙ ap (λ (l : List StreamBytes). l ++ parts_of number next parts) (no_parts number next 1 number s.parts (inr (omega arith)) before.within)
          ∙ all_parts number next parts (subst (λ (n : ℕ). Within number n parts) same within);
      direct = λ n low high. get_direct s.encodings (children + 1) n low (omega (arith, high));
    } in
    subst (λ (t : SoFar). Stand (columns ++ c ∷ []) t) (sym after_is)
    (stand_with columns s c parts (directs (children + 1)) before (omega (arith, many)) (subst (λ (n : ℕ). Within number (number + n) parts) (sym many) within)
    (by (with_more s parts (directs (children + 1))) stands))

-- ---- each

one_by : (columns : List TableColumn) (s after : SoFar) (c : TableColumn) (column : FileColumn) (content : Content) (rows : ℕ) → ColumnIsAdded → Stand columns s → c ≡ record { column = column; content = content }
    → IsColumnOf rows (record { column = column; content = content }) → AddsColumn s after column content → Stand (columns ++ c ∷ []) after
one_by columns s after c column (Written buffer) rows added before is of adds =
    rw is (with_written columns s after (record { column = column; content = Written buffer }) buffer added before of.spelled.1 adds (λ t stands. stands))
one_by columns s after c column (Opaque streams) rows added before is of adds =
    rw is (with_opaque columns s after (record { column = column; content = Opaque streams }) streams.items before of.streams adds (λ t stands. stands))

pub stand_more : (columns : List TableColumn) (i rows : ℕ) (c : TableColumn) (s after : SoFar) → ColumnIsAdded → All (IsColumnOf rows) columns → i < length columns → c ≡ get_or columns i c
    → Stand (take i columns) s → AddsColumn s after c.column c.content → Stand (take (i + 1) columns) after
stand_more columns i rows c s after added are within is before adds =
    let taken : take (i + 1) columns ≡ take i columns ++ c ∷ [] = take_more columns i c within ∙ ap (λ (d : TableColumn). take i columns ++ d ∷ []) (sym is) in
    rw taken (one_by (take i columns) s after c c.column c.content rows added before refl (all_at (IsColumnOf rows) columns i c are within is) adds)

pub streams_more : (number i : ℕ) (streams : List OpaqueStream) (s : OpaqueStream) (start before after : List StreamBytes) → i < length streams → s ≡ get_or streams i s
    → before ≡ start ++ as_streams number (take i streams) → after ≡ before ++ record { kind = s.kind; column = number + s.child; bytes = s.bytes } ∷ []
    → after ≡ start ++ as_streams number (take (i + 1) streams)
streams_more number i streams s start before after within is so_far adds =
    let taken : take (i + 1) streams ≡ take i streams ++ s ∷ [] = take_more streams i s within ∙ ap (λ (t : OpaqueStream). take i streams ++ t ∷ []) (sym is) in
    let x : StreamBytes = record { kind = s.kind; column = number + s.child; bytes = s.bytes } in
    adds ∙ ap (λ (l : List StreamBytes). l ++ x ∷ []) so_far ∙ append_assoc start (as_streams number (take i streams)) (x ∷ [])
    ∙ ap (λ (l : List StreamBytes). start ++ l) (sym (as_more number (take i streams) s)) ∙ ap (λ (l : List OpaqueStream). start ++ as_streams number l) (sym taken)
  where
    as_more : (number : ℕ) (streams : List OpaqueStream) (s : OpaqueStream) → as_streams number (streams ++ s ∷ []) ≡ as_streams number streams ++ record { kind = s.kind; column = number + s.child; bytes = s.bytes } ∷ []
    as_more number [] s = refl
    as_more number (t ∷ streams) s = ap (λ (l : List StreamBytes). record { kind = t.kind; column = number + t.child; bytes = t.bytes } ∷ l) (as_more number streams s)

pub directs_next : (i : ℕ) (start before after : List Encoding) → before ≡ start ++ directs i → after ≡ before ++ record { kind = 0; dictionary_size = 0 } ∷ [] → after ≡ start ++ directs (i + 1)
directs_next i start before after so_far adds =
    let x : Encoding = record { kind = 0; dictionary_size = 0 } in
    adds ∙ ap (λ (l : List Encoding). l ++ x ∷ []) so_far ∙ append_assoc start (directs i) (x ∷ []) ∙ ap (λ (l : List Encoding). start ++ l) (sym (directs_more i))

-- ---- the whole

no_stream : (kind column at : ℕ) (parts : List StreamBytes) → HasNone column parts → first_stream kind column (placed at (listed parts)) ≡ None
no_stream kind column at [] none = refl
no_stream kind column at (p ∷ parts) none =
    let t : (p.kind == kind && p.column == column) ≡ false = other_test p.kind kind p.column column (All-head (λ (q : StreamBytes). q.column ≢ column) p parts none) in
    rw t (no_stream kind column (at + length p.bytes) parts (All-tail (λ (q : StreamBytes). q.column ≢ column) p parts none))

summed : (parts : List StreamBytes) → sum_by (λ (s : Stream). s.len) (listed parts) ≡ length (body_of parts)
summed [] = refl
summed (p ∷ parts) =
    let x : Stream = record { kind = p.kind; column = p.column; len = length p.bytes } in
    sum_by-cons (λ (s : Stream). s.len) x (listed parts) ∙ ap (λ (n : ℕ). length p.bytes + n) (summed parts) ∙ sym (length-append p.bytes (body_of parts))

-- the columns that are read, as the stripe's streams have them
pub record ReadAs (parts : List StreamBytes) (footer : StripeFooter) (rows : ℕ) (read : ReadColumn) (values : RowValues) : Type 0 where
  pub written : WrittenColumn
  pub column_is : written.column ≡ read
  pub rows_are : written.buffered.rows ≡ values
  pub is : IsWritten parts footer rows written

read_here : (parts : List StreamBytes) (footer : StripeFooter) (rows number next : ℕ) (column : FileColumn) (buffered : Buffered) (read : ReadColumn) (values : RowValues) → Stands parts footer.encodings number next buffered
    → length buffered.rows ≡ rows → spelling_of column.kind (Some (encoding_number buffered.spelling)) ≡ Some buffered.spelling → IsNumbered number column read → values ≡ buffered.rows
    → ReadAs parts footer rows read values
read_here parts footer rows number next column buffered read values stands counted spelled numbered are = record {
  written = record { column = read; encoding = stands.encoding; buffered = buffered; encoded = stands.encoded };
  column_is = refl;
  rows_are = sym are;
  is = record {
    listed = ap (slice_get footer.encodings) numbered.0 ∙ stands.listed;
    spelled = ap (λ (n : ℕ). spelling_of read.kind (Some n)) stands.spelled ∙ ap (λ (k : ℕ). spelling_of k (Some (encoding_number buffered.spelling))) numbered.1 ∙ spelled;
    size = stands.size;
    has_rows = stands.has_rows;
    has_streams = subst (λ (n : ℕ). HasStreams n parts (streams_of stands.encoded)) (sym numbered.0) stands.has_streams;
    as_many = counted;
  };
}

read_or : (parts : List StreamBytes) (footer : StripeFooter) (rows number next : ℕ) (column : FileColumn) (buffered : Buffered) (read : ReadColumn) (values : RowValues) (Later : Type 0) → Stands parts footer.encodings number next buffered
    → length buffered.rows ≡ rows → spelling_of column.kind (Some (encoding_number buffered.spelling)) ≡ Some buffered.spelling → (IsNumbered number column read × (values ≡ buffered.rows)) ⊎ Later
    → (Later → ReadAs parts footer rows read values) → ReadAs parts footer rows read values
read_or parts footer rows number next column buffered read values Later stands counted spelled (inl here) later = read_here parts footer rows number next column buffered read values stands counted spelled here.0 here.1
read_or parts footer rows number next column buffered read values Later stands counted spelled (inr there) later = later there

read_by : (parts : List StreamBytes) (footer : StripeFooter) (rows number : ℕ) (column : FileColumn) (content : Content) (shapes : List Shape) (batch : Batch) (read : ReadColumn) (values : RowValues)
    → StandsBy (record { parts = parts; encodings = footer.encodings }) number column content → HasCount rows content → IsSpelled (shape_by column content)
    → IsRead number (shape_by column content ∷ shapes) (rows_with content batch) read values
    → (IsRead (next_number number column) shapes batch read values → ReadAs parts footer rows read values) → ReadAs parts footer rows read values
read_by parts footer rows number column (Written buffer) shapes batch read values stands counted spelled is later =
    read_or parts footer rows number (next_number number column) column buffer read values (IsRead (next_number number column) shapes batch read values) stands counted spelled.0 is later
read_by parts footer rows number column (Opaque streams) shapes batch read values stands counted spelled is later = later is

read_as : (parts : List StreamBytes) (footer : StripeFooter) (rows number : ℕ) (columns : List TableColumn) (read : ReadColumn) (values : RowValues)
    → StandAll (record { parts = parts; encodings = footer.encodings }) number columns → All (IsColumnOf rows) columns → IsRead number (shapes_of columns) (rows_of columns) read values → ReadAs parts footer rows read values
read_as parts footer rows number [] read values stand are is = absurd is
read_as parts footer rows number (c ∷ columns) read values stand are is =
    let of = All-head (IsColumnOf rows) c columns are in
    read_by parts footer rows number c.column c.content (shapes_of columns) (rows_of columns) read values stand.0 of.counted of.spelled is
    (λ later. read_as parts footer rows (next_number number c.column) columns read values stand.1 (All-tail (IsColumnOf rows) c columns are) later)

all_read_as : (columns : List TableColumn) (parts : List StreamBytes) (footer : StripeFooter) (rows : ℕ) (read : List ReadColumn) (values : List RowValues)
    → StandAll (record { parts = parts; encodings = footer.encodings }) 1 columns → All (IsColumnOf rows) columns → AreRead (shapes_of columns) (rows_of columns) read values
    → (cs : List WrittenColumn) × (columns_in cs ≡ read) × (rows_in cs ≡ values) × AreWritten parts footer rows cs
all_read_as columns parts footer rows [] [] stand are is = ([], refl, refl, tt)
all_read_as columns parts footer rows [] (v ∷ values) stand are is = absurd is
all_read_as columns parts footer rows (c ∷ read) [] stand are is = absurd is
all_read_as columns parts footer rows (c ∷ read) (v ∷ values) stand are is =
    let one = read_as parts footer rows 1 columns c v stand are is.0 in
    let others = all_read_as columns parts footer rows read values stand are is.1 in (
      one.written ∷ others.0,
      ap (λ (x : ReadColumn). x ∷ columns_in others.0) one.column_is ∙ ap (λ (xs : List ReadColumn). c ∷ xs) others.1,
      ap (λ (x : RowValues). x ∷ rows_in others.0) one.rows_are ∙ ap (λ (xs : List RowValues). v ∷ xs) others.2,
      (one.is, others.3),
    )

-- the streams that nobody reads, as the file has them
found_by : (file : List ℕ) (t : Bool) (x : StreamRange) (rest : List StreamRange) (p : StreamBytes) (others : List StreamBytes) → x.kind ≡ p.kind → x.column ≡ p.column
    → slice_range file x.at (x.at + x.len) ≡ p.bytes → found_in file rest ≡ others → found_in file (if t then x ∷ rest else rest) ≡ (if t then p ∷ others else others)
found_by file true x rest p others kind column bytes e =
    ap (λ (k : ℕ). record { kind = k; column = x.column; bytes = slice_range file x.at (x.at + x.len) } ∷ found_in file rest) kind
    ∙ ap (λ (k : ℕ). record { kind = p.kind; column = k; bytes = slice_range file x.at (x.at + x.len) } ∷ found_in file rest) column
    ∙ ap (λ (b : List ℕ). record { kind = p.kind; column = p.column; bytes = b } ∷ found_in file rest) bytes ∙ ap (λ (l : List StreamBytes). p ∷ l) e
found_by file false x rest p others kind column bytes e = e

middle : (a b c xs : List ℕ) (i : ℕ) → xs ≡ a ++ (b ++ c) → i ≡ length a → slice_range xs i (i + length b) ≡ b
middle a b c xs i whole begins =
    ap (λ (ys : List ℕ). slice_range ys i (i + length b)) whole ∙ ap (λ (n : ℕ). slice_range (a ++ (b ++ c)) n (n + length b)) begins
    ∙ ap (λ (n : ℕ). take n (drop (length a) (a ++ (b ++ c)))) (the_rest (length a) (length b)) ∙ ap (λ (ys : List ℕ). take (length b) ys) (drop_at a (b ++ c) (length a) refl) ∙ take_at b c (length b) refl
  where
    the_rest : (m n : ℕ) → (m + n) - m ≡ n
    the_rest m n = omega arith

found_is : (from to : ℕ) (front back : List ℕ) (parts : List StreamBytes) (file : List ℕ) (at : ℕ) → file ≡ front ++ (body_of parts ++ back) → at ≡ length front
    → found_in file (of_types from to (placed at (listed parts))) ≡ parts_of from to parts
found_is from to front back [] file at whole begins = refl
found_is from to front back (p ∷ parts) file at whole begins =
    let split : file ≡ front ++ (p.bytes ++ (body_of parts ++ back)) = whole ∙ ap (λ (l : List ℕ). front ++ l) (append_assoc p.bytes (body_of parts) back) in
    let next : file ≡ (front ++ p.bytes) ++ (body_of parts ++ back) = split ∙ sym (append_assoc front p.bytes (body_of parts ++ back)) in
    let x : StreamRange = record { kind = p.kind; column = p.column; at = at; len = length p.bytes } in
    found_by file (nat_lt p.column to && nat_lt from (p.column + 1)) x (of_types from to (placed (at + length p.bytes) (listed parts))) p (parts_of from to parts) refl refl
    (middle front p.bytes (body_of parts ++ back) file at split begins)
    (found_is from to (front ++ p.bytes) back parts file (at + length p.bytes) next (omega (arith, begins, length-append front p.bytes)))

-- where the streams of types are found
types_found : (from to : ℕ) (front back : List ℕ) (parts : List StreamBytes) (footer : StripeFooter) → footer.streams ≡ placed (length front) (listed parts)
    → found_in (front ++ (body_of parts ++ back)) (of_types from to footer.streams) ≡ parts_of from to parts
types_found from to front back parts footer listed_at =
    ap (λ (l : List StreamRange). found_in (front ++ (body_of parts ++ back)) (of_types from to l)) listed_at ∙ found_is from to front back parts (front ++ (body_of parts ++ back)) (length front) refl refl

column_by : (front back : List ℕ) (parts : List StreamBytes) (footer : StripeFooter) (number : ℕ) (column : FileColumn) (content : Content) (shapes : List Shape) → footer.streams ≡ placed (length front) (listed parts)
    → StandsBy (record { parts = parts; encodings = footer.encodings }) number column content
    → HaveColumns (front ++ (body_of parts ++ back)) footer (next_number number column) shapes
    → HaveColumns (front ++ (body_of parts ++ back)) footer number (shape_by column content ∷ shapes)
column_by front back parts footer number column (Written buffer) shapes listed_at stands others = (
  record {
    encoding = stands.encoding;
    listed = stands.listed;
    kind_is = stands.spelled;
    encoded = stands.encoded;
    found = types_found number (next_number number column) front back parts footer listed_at ∙ stands.found;
  },
  others,
)
column_by front back parts footer number column (Opaque streams) shapes listed_at stands others = (
  record { found = types_found number (next_number number column) front back parts footer listed_at ∙ stands.found; direct = stands.direct },
  others,
)

have_columns : (front back : List ℕ) (parts : List StreamBytes) (footer : StripeFooter) (number : ℕ) (columns : List TableColumn) → footer.streams ≡ placed (length front) (listed parts)
    → StandAll (record { parts = parts; encodings = footer.encodings }) number columns → HaveColumns (front ++ (body_of parts ++ back)) footer number (shapes_of columns)
have_columns front back parts footer number [] listed_at stand = tt
have_columns front back parts footer number (c ∷ columns) listed_at stand =
    column_by front back parts footer number c.column c.content (shapes_of columns) listed_at stand.0 (have_columns front back parts footer (next_number number c.column) columns listed_at stand.1)

-- there are no streams of other types
placed_within : (from to at : ℕ) (parts : List StreamBytes) → Within from to parts → AreOfTypes from to (placed at (listed parts))
placed_within from to at [] within = All-nil (λ (s : StreamRange). (from ≤ s.column) × (s.column < to))
placed_within from to at (p ∷ parts) within =
    All-cons (λ (s : StreamRange). (from ≤ s.column) × (s.column < to)) (record { kind = p.kind; column = p.column; at = at; len = length p.bytes }) (placed (at + length p.bytes) (listed parts))
    (All-head (λ (q : StreamBytes). (from ≤ q.column) × (q.column < to)) p parts within)
    (placed_within from to (at + length p.bytes) parts (All-tail (λ (q : StreamBytes). (from ≤ q.column) × (q.column < to)) p parts within))

same_column : (column : FileColumn) (content : Content) → file_column (shape_by column content) ≡ column
same_column column (Written buffer) = refl
same_column column (Opaque streams) = refl

next_is : (number : ℕ) (columns : List TableColumn) → next_of number (shapes_of columns) ≡ next_in number columns
next_is number [] = refl
next_is number (c ∷ columns) =
    ap (λ (column : FileColumn). next_of (next_number number column) (shapes_of columns)) (same_column c.column c.content) ∙ next_is (next_number number c.column) columns

stripe_has : (file : List ℕ) (stripe : Stripe) (footer : StripeFooter) (rows : ℕ) (read : List ReadColumn) (values : List RowValues) → stripe.rows ≡ rows → stripe_footer file stripe ≡ Ok footer
    → HaveValues file footer rows read values → StripeHas file stripe read values
stripe_has file stripe footer rows [] [] counted is have = StripeHas.unread
stripe_has file stripe footer rows [] (v ∷ values) counted is have = absurd have
stripe_has file stripe footer rows (c ∷ read) values counted is have =
    StripeHas.by_footer footer is (subst (λ (n : ℕ). HaveValues file footer n (c ∷ read) values) (sym counted) have)

pub has_table : (before after body : List ℕ) (stripe : Stripe) (streams : List StreamPart) (encodings : List Encoding) (rows : ℕ) (columns : List TableColumn) (parts : List StreamBytes)
    → ColumnsAreThere → Stand columns (record { parts = parts; encodings = encodings }) → All (IsColumnOf rows) columns → body ≡ body_of parts → map part_view streams ≡ listed parts
    → HasStripe before after stripe body streams encodings rows → HasTable before after stripe columns rows
has_table before after body stripe streams encodings rows columns parts there stand are body_is listed_is made =
    let no_root : HasNone 0 parts = none_within 1 (length encodings) 0 parts (inl (omega arith)) stand.within in
    let lie : LieIn stripe (map part_view streams) = record {
      in_stripe = omega (arith, ap (λ (l : List Stream). sum_by (λ (s : Stream). s.len) l) listed_is, summed parts, made.body_len, ap length body_is);
      no_root = ap (λ (l : List Stream). has_bytes (first_stream 0 0 (placed stripe.at l))) listed_is ∙ ap has_bytes (no_stream 0 0 stripe.at parts no_root);
    } in
    let footer : StripeFooter = record { streams = placed stripe.at (map part_view streams); encodings = encodings } in
    let listed_at : footer.streams ≡ placed (length before) (listed parts) = ap (λ (l : List Stream). placed stripe.at l) listed_is ∙ ap (λ (n : ℕ). placed n (listed parts)) made.begins in
    let counted : length encodings ≡ next_of 1 (shapes_of columns) = stand.counted ∙ sym (next_is 1 columns) in
    let whole : (back : List ℕ) → after ++ back ≡ before ++ (body_of parts ++ (made.footer ++ back)) =
    λ back. ap (λ (l : List ℕ). l ++ back) made.joined ∙ append_assoc before (body ++ made.footer) back ∙ ap (λ (l : List ℕ). before ++ l) (append_assoc body made.footer back)
    ∙ ap (λ (l : List ℕ). before ++ (l ++ (made.footer ++ back))) body_is in
    record {
      added = body ++ made.footer;
      joined = made.joined;
      begins = made.begins;
      ends = made.ends;
      counted = made.counted;
      footer_is = λ back. record {
        footer = footer;
        is = made.footer_lies back lie;
        counted = counted;
        root = stand.root;
        have = subst (λ (file : List ℕ). HaveColumns file footer 1 (shapes_of columns)) (sym (whole back)) (have_columns before (made.footer ++ back) parts footer 1 columns listed_at stand.each);
        no_others = subst (λ (l : List StreamRange). AreOfTypes 1 (next_of 1 (shapes_of columns)) l) (sym listed_at)
            (placed_within 1 (next_of 1 (shapes_of columns)) (length before) parts (subst (λ (n : ℕ). Within 1 n parts) counted stand.within));
      };
      has = λ back read values is.
          let cs = all_read_as columns parts footer rows read values stand.each are is in
          let have : HaveValues (before ++ (body_of parts ++ (made.footer ++ back))) footer rows (columns_in cs.0) (rows_in cs.0) = there before (made.footer ++ back) parts footer rows cs.0 listed_at cs.3 in
          let of_read : HaveValues (before ++ (body_of parts ++ (made.footer ++ back))) footer rows read values =
          subst (λ (v : List RowValues). HaveValues (before ++ (body_of parts ++ (made.footer ++ back))) footer rows read v) cs.2 (subst (λ (r : List ReadColumn). HaveValues (before ++ (body_of parts ++ (made.footer ++ back))) footer rows r (rows_in cs.0)) cs.1 have) in
          stripe_has (after ++ back) stripe footer rows read values made.counted (made.footer_lies back lie)
          (subst (λ (file : List ℕ). HaveValues file footer rows read values) (sym (whole back)) of_read);
    }

-- ---- the list of streams

map_more : (streams : List StreamPart) (s : StreamPart) → map part_view (streams ++ s ∷ []) ≡ map part_view streams ++ part_view s ∷ []
map_more [] s = refl
map_more (x ∷ streams) s = ap (λ (l : List Stream). part_view x ∷ l) (map_more streams s)

listed_more : (parts : List StreamBytes) (p : StreamBytes) → listed (parts ++ p ∷ []) ≡ listed parts ++ record { kind = p.kind; column = p.column; len = length p.bytes } ∷ []
listed_more [] p = refl
listed_more (x ∷ parts) p = ap (λ (l : List Stream). record { kind = x.kind; column = x.column; len = length x.bytes } ∷ l) (listed_more parts p)

pub list_more : (parts : List StreamBytes) (i : ℕ) (p : StreamBytes) (before after : List StreamPart) → i < length parts → p ≡ get_or parts i p → map part_view before ≡ listed (take i parts)
    → AddsPart before after p → map part_view after ≡ listed (take (i + 1) parts)
list_more parts i p before after within is same adds =
    ap (λ (l : List StreamPart). map part_view l) adds ∙ map_more before (record { kind = p.kind; column = p.column; len = length p.bytes })
    ∙ ap (λ (l : List Stream). l ++ record { kind = p.kind; column = p.column; len = length p.bytes } ∷ []) same
    ∙ sym (listed_more (take i parts) p)
    ∙ ap (λ (q : StreamBytes). listed (take i parts ++ q ∷ [])) is
    ∙ ap listed (sym (take_more parts i p within))

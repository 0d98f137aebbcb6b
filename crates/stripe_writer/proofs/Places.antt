-- Where streams lie, and which are a column's.
use Rattle.std.proofs.Common.{◌≡◌, ◌≢◌, ℕ, zero, suc, ◌+◌, ◌-◌, ◌<◌, ◌≤◌, Bool, true, false, eqb, List, [], ◌∷◌, ◌++◌, length, map, take, drop, get_or, Option, Some, refl, sym, ap, subst, ◌∙◌, arith, append_assoc, append-nil, length-append}
use Rattle.std.specs.Prelude.{slice_range, if◌then◌else◌, ◌==◌, ◌&&◌}
use Rattle.std.proofs.Math.Seq.{take-append_seam, drop-append_seam}
use Rattle.std.proofs.lemmas.Bool.{cases_eq, eq-eqb, ne_eqb}
use Rattle.std.proofs.Common.{inl, inr}
use Rattle.std.proofs.lemmas.List.Elements.{All-head, All-tail, All-push}
use Rattle.std.specs.Option.{unwrap_or}
use Rattle.std.proofs.lemmas.List.{take_more}
use Rattle.orc_tail.specs.declared.encoding.Encoding.{Encoding}
use Rattle.orc_tail.specs.declared.stream.StreamRange.{StreamRange}
use Rattle.orc_tail.specs.declared.stripe_footer.StripeFooter.{StripeFooter}
use Rattle.orc_tail.specs.StripeFooter.{placed, first_stream}
use Rattle.orc_columns.specs.declared.spelling.Spelling.{Spelling}
use Rattle.orc_columns.specs.declared.spelling.Spelling.TheVariants.{Bits, Integers, Texts, Dictionary}
use Rattle.orc_columns.specs.declared.plan.ColumnPlan.{ColumnPlan}
use Rattle.outside.specs.Runs.{Spells}
use Rattle.orc_rle.specs.BitRun.{BitRun}
use Rattle.orc_columns.specs.declared.spelling.Version.{Version}
use Rattle.orc_values.specs.declared.value.Value.{Value}
use Rattle.orc_values.specs.declared.value.Value.TheVariants as value
use Rattle.orc_values.specs.Texts.{slices}
use Rattle.orc_columns.specs.Column.{Streams, ArePresent, AreLengths, AreNumbers, AreValues, IsColumn, entry_text, places_of}
use Rattle.orc_columns.specs.Spelling.{spelling_of}
use Rattle.orc_streams.specs.declared.layout.ReadColumn.{ReadColumn}
use Rattle.orc_streams.specs.declared.layout.ColumnLayout.{ColumnLayout}
use Rattle.orc_streams.specs.Layout.{kinds_used, span_of, stored, span_bytes, laid_out, laid_out_by, layout_in, streams_in, plan_at}
use Rattle.orc_rows.specs.Rows.{HasValues}
use Rattle.column_writer.specs.Encoded.{streams_of}
use Rattle.stripe_writer.specs.declared.stream_bytes.StreamBytes.{StreamBytes}
use Rattle.stripe_writer.specs.Parts.{body_of, listed, first_bytes, and_stream, HasNone, HasStreams}
use Rattle.stripe_writer.specs.Laws.{ColumnIsAdded, OthersStay, ColumnIsThere, ColumnsAreThere}

-- ---- where a stream lies

slice_is : (front bytes back : List ℕ) → slice_range (front ++ (bytes ++ back)) (length front) (length front + length bytes) ≡ bytes
slice_is front bytes back =
    let n : length front + length bytes - length front ≡ length bytes = omega arith in
    ap (λ (m : ℕ). take m (drop (length front) (front ++ (bytes ++ back)))) n
    ∙ ap (take (length bytes)) (drop-append_seam front (bytes ++ back))
    ∙ take-append_seam bytes back

no_bytes : (bytes : List ℕ) → length bytes ≡ 0 → bytes ≡ []
no_bytes [] e = refl
no_bytes (b ∷ bytes) e = absurd (omega arith)

own_bytes : (front bytes back : List ℕ) (kind column : ℕ) → span_bytes (front ++ (bytes ++ back)) (span_of (Some (record { kind = kind; column = column; at = length front; len = length bytes }))) ≡ bytes
own_bytes front bytes back kind column =
    elim (cases_eq (length bytes) 0) [
      | inl e ↦ let t : eqb (length bytes) 0 ≡ true = eq-eqb (length bytes) 0 e in rw t (sym (no_bytes bytes e))
      | inr other ↦ let t : eqb (length bytes) 0 ≡ false = ne_eqb (length bytes) 0 other in rw t (slice_is front bytes back)
    ]

pick : (b : Bool) (x : StreamRange) (rest : Option StreamRange) (file bytes others : List ℕ) → span_bytes file (span_of (Some x)) ≡ bytes → span_bytes file (span_of rest) ≡ others
    → span_bytes file (span_of (if b then Some x else rest)) ≡ (if b then bytes else others)
pick true x rest file bytes others first second = first
pick false x rest file bytes others first second = second

pub part_lies : (kind column : ℕ) (front back : List ℕ) (parts : List StreamBytes) (file : List ℕ) (at : ℕ) → file ≡ front ++ (body_of parts ++ back) → at ≡ length front
    → span_bytes file (span_of (first_stream kind column (placed at (listed parts)))) ≡ first_bytes kind column parts
part_lies kind column front back [] file at e k = refl
part_lies kind column front back (p ∷ parts) file at e k =
    let parted : file ≡ front ++ (p.bytes ++ (body_of parts ++ back)) = e ∙ ap (λ (l : List ℕ). front ++ l) (append_assoc p.bytes (body_of parts) back) in
    let behind : file ≡ front ++ p.bytes ++ (body_of parts ++ back) = parted ∙ sym (append_assoc front p.bytes (body_of parts ++ back)) in
    let next : at + length p.bytes ≡ length (front ++ p.bytes) = omega (arith, k, length-append front p.bytes) in
    pick (p.kind == kind && p.column == column) (record { kind = p.kind; column = p.column; at = at; len = length p.bytes }) (first_stream kind column (placed (at + length p.bytes) (listed parts))) file p.bytes (first_bytes kind column parts)
    (rw (parted, k) (own_bytes front p.bytes (body_of parts ++ back) p.kind p.column))
    (part_lies kind column (front ++ p.bytes) back parts file (at + length p.bytes) behind next)

-- ---- streams that are added

both_false : (a b : Bool) → b ≡ false → (a && b) ≡ false
both_false true b e = e
both_false false b e = refl

other_test : (kind wanted column other : ℕ) → column ≢ other → (kind == wanted && column == other) ≡ false
other_test kind wanted column other differ =
    let t : eqb column other ≡ false = ne_eqb column other differ in
    both_false (kind == wanted) (column == other) t

first-front : (wanted column : ℕ) (parts more : List StreamBytes) → HasNone column parts → first_bytes wanted column (parts ++ more) ≡ first_bytes wanted column more
first-front wanted column [] more none = refl
first-front wanted column (p ∷ parts) more none =
    let t = other_test p.kind wanted p.column column (All-head (λ (q : StreamBytes). q.column ≢ column) p parts none) in
    rw t (first-front wanted column parts more (All-tail (λ (q : StreamBytes). q.column ≢ column) p parts none))

first-other : (wanted other : ℕ) (parts : List StreamBytes) (p : StreamBytes) → p.column ≢ other → first_bytes wanted other (parts ++ p ∷ []) ≡ first_bytes wanted other parts
first-other wanted other [] p differ = let t = other_test p.kind wanted p.column other differ in rw t refl
first-other wanted other (q ∷ parts) p differ = ap (λ (l : List ℕ). if (q.kind == wanted && q.column == other) then q.bytes else l) (first-other wanted other parts p differ)

pub others_stay : OthersStay
others_stay parts kind column other bytes differ =
    elim (cases_eq (length bytes) 0) [
      | inl e ↦ let t : eqb (length bytes) 0 ≡ true = eq-eqb (length bytes) 0 e in rw t (λ wanted. refl, λ none. none)
      | inr some ↦ let t : eqb (length bytes) 0 ≡ false = ne_eqb (length bytes) 0 some in
          rw t (
            λ wanted. first-other wanted other parts (record { kind = kind; column = column; bytes = bytes }) (λ e. differ (sym e)),
            λ none. All-push (λ (p : StreamBytes). p.column ≢ other) parts (record { kind = kind; column = column; bytes = bytes }) none (λ e. differ (sym e)),
          )
    ]

-- the streams of one column, in the making: those of the kinds below are there, and none of a kind from there on
abbrev Below : ℕ → ℕ → List StreamBytes → Type 0
Below column kind parts = (wanted : ℕ) → kind ≤ wanted → (more : List StreamBytes) → first_bytes wanted column (parts ++ more) ≡ first_bytes wanted column more

below_all : (column : ℕ) (parts : List StreamBytes) → HasNone column parts → Below column 0 parts
below_all column parts none wanted h more = first-front wanted column parts more none

this_kind : (kind column : ℕ) (bytes : List ℕ) → first_bytes kind column (record { kind = kind; column = column; bytes = bytes } ∷ []) ≡ bytes
this_kind kind column bytes = let t : eqb kind kind ≡ true = eq-eqb kind kind refl in let u : eqb column column ≡ true = eq-eqb column column refl in rw (t, u) refl

kind_test : (kind wanted : ℕ) (b : Bool) → kind ≢ wanted → (kind == wanted && b) ≡ false
kind_test kind wanted b differ = let t : eqb kind wanted ≡ false = ne_eqb kind wanted differ in rw t refl

-- one kind more: it has its bytes, and those below stay
record Added (column kind : ℕ) (before after : List StreamBytes) (bytes : List ℕ) : Type 0 where
  is : first_bytes kind column after ≡ bytes
  below : Below column (kind + 1) after
  stay : (wanted : ℕ) → wanted < kind → first_bytes wanted column after ≡ first_bytes wanted column before

first-kind : (wanted column : ℕ) (parts : List StreamBytes) (p : StreamBytes) → p.kind ≢ wanted → first_bytes wanted column (parts ++ p ∷ []) ≡ first_bytes wanted column parts
first-kind wanted column [] p differ = let t = kind_test p.kind wanted (p.column == column) differ in rw t refl
first-kind wanted column (q ∷ parts) p differ = ap (λ (l : List ℕ). if (q.kind == wanted && q.column == column) then q.bytes else l) (first-kind wanted column parts p differ)

skip_one : (wanted column : ℕ) (p : StreamBytes) (more : List StreamBytes) → p.kind ≢ wanted → first_bytes wanted column (p ∷ more) ≡ first_bytes wanted column more
skip_one wanted column p more differ = let t = kind_test p.kind wanted (p.column == column) differ in rw t refl

added : (column kind : ℕ) (parts : List StreamBytes) (bytes : List ℕ) → Below column kind parts → Added column kind parts (and_stream parts kind column bytes) bytes
added column kind parts bytes below =
    elim (cases_eq (length bytes) 0) [
      | inl e ↦ let t : eqb (length bytes) 0 ≡ true = eq-eqb (length bytes) 0 e in
          rw t (record {
            is = ap (first_bytes kind column) (sym (append-nil parts)) ∙ below kind (omega arith) [] ∙ sym (no_bytes bytes e);
            below = λ wanted h more. below wanted (omega arith) more;
            stay = λ wanted h. refl;
          })
      | inr some ↦ let t : eqb (length bytes) 0 ≡ false = ne_eqb (length bytes) 0 some in
          let p : StreamBytes = record { kind = kind; column = column; bytes = bytes } in
          rw t (record {
            is = below kind (omega arith) (p ∷ []) ∙ this_kind kind column bytes;
            below = λ wanted h more. ap (first_bytes wanted column) (append_assoc parts (p ∷ []) more) ∙ below wanted (omega arith) (p ∷ more) ∙ skip_one wanted column p more (λ e. absurd (omega arith));
            stay = λ wanted h. first-kind wanted column parts p (λ e. absurd (omega arith));
          })
    ]

pub column_is_added : ColumnIsAdded
column_is_added parts column e none =
    let zero_kind = added column 0 parts e.present (below_all column parts none) in
    let one = and_stream parts 0 column e.present in
    let one_kind = added column 1 one e.body zero_kind.below in
    let two = and_stream one 1 column e.body in
    let two_kind = added column 2 two e.lengths one_kind.below in
    let three = and_stream two 2 column e.lengths in
    let three_kind = added column 3 three e.dictionary two_kind.below in
    record {
      present = three_kind.stay 0 (omega arith) ∙ two_kind.stay 0 (omega arith) ∙ one_kind.stay 0 (omega arith) ∙ zero_kind.is;
      body = three_kind.stay 1 (omega arith) ∙ two_kind.stay 1 (omega arith) ∙ one_kind.is;
      lengths = three_kind.stay 2 (omega arith) ∙ two_kind.is;
      dictionary = three_kind.is;
    }

-- ---- a column is there

-- streams that agree as far as a spelling uses them
abbrev Agree : Spelling → Streams → Streams → Type 0
Agree Bits s t = s.body ≡ t.body
Agree (Integers version) s t = s.body ≡ t.body
Agree (Texts version) s t = (s.body ≡ t.body) × (s.lengths ≡ t.lengths)
Agree (Dictionary version) s t = (s.body ≡ t.body) × (s.lengths ≡ t.lengths) × (s.dictionary ≡ t.dictionary)

-- the stream of a kind
abbrev wanted_of : ℕ → Streams → List ℕ
wanted_of zero s = s.present
wanted_of (suc zero) s = s.body
wanted_of (suc (suc zero)) s = s.lengths
wanted_of (suc (suc (suc kind))) s = s.dictionary

which : (kind column : ℕ) (parts : List StreamBytes) (s : Streams) → HasStreams column parts s → kind < 4 → first_bytes kind column parts ≡ wanted_of kind s
which zero column parts s has h = has.present
which (suc zero) column parts s has h = has.body
which (suc (suc zero)) column parts s has h = has.lengths
which (suc (suc (suc zero))) column parts s has h = has.dictionary
which (suc (suc (suc (suc kind)))) column parts s has h = absurd (omega arith)

bits_agree : (size : ℕ) (s t : Streams) (values : List Value) → s.body ≡ t.body → AreValues Bits size s values → AreValues Bits size t values
bits_agree size s t values same standing = (standing.0, standing.1, subst (λ (l : List ℕ). Spells BitRun l standing.0 standing.1) same standing.2, standing.3)

integers_agree : (version : Version) (size : ℕ) (s t : Streams) (values : List Value) → s.body ≡ t.body → AreValues (Integers version) size s values → AreValues (Integers version) size t values
integers_agree version size s t values same standing = (standing.0, subst (λ (l : List ℕ). AreNumbers version true l standing.0) same standing.1, standing.2)

texts_agree : (version : Version) (size : ℕ) (s t : Streams) (values : List Value) → s.body ≡ t.body → s.lengths ≡ t.lengths → AreValues (Texts version) size s values → AreValues (Texts version) size t values
texts_agree version size s t values body lengths standing = (
  standing.0,
  subst (λ (l : List ℕ). AreLengths version l (length t.body) standing.0) lengths (subst (λ (l : List ℕ). AreLengths version s.lengths (length l) standing.0) body standing.1),
  standing.2 ∙ ap (λ (l : List ℕ). map (λ (x : List ℕ). value.Text x) (slices 0 standing.0 l)) body,
)

dictionary_agree : (version : Version) (size : ℕ) (s t : Streams) (values : List Value) → s.body ≡ t.body → s.lengths ≡ t.lengths → s.dictionary ≡ t.dictionary → AreValues (Dictionary version) size s values → AreValues (Dictionary version) size t values
dictionary_agree version size s t values body lengths dictionary standing = (
  standing.0,
  standing.1,
  standing.2,
  subst (λ (l : List ℕ). AreLengths version l (length t.dictionary) standing.0) lengths (subst (λ (l : List ℕ). AreLengths version s.lengths (length l) standing.0) dictionary standing.3),
  subst (λ (l : List ℕ). AreNumbers version false l standing.1) body standing.4,
  standing.5,
  standing.6 ∙ ap (λ (l : List ℕ). map (entry_text (slices 0 standing.0 l)) (places_of standing.1)) dictionary,
)

values_agree : (spelling : Spelling) (size : ℕ) (s t : Streams) (values : List Value) → Agree spelling s t → AreValues spelling size s values → AreValues spelling size t values
values_agree Bits size s t values same standing = bits_agree size s t values same standing
values_agree (Integers version) size s t values same standing = integers_agree version size s t values same standing
values_agree (Texts version) size s t values same standing = texts_agree version size s t values same.0 same.1 standing
values_agree (Dictionary version) size s t values same standing = dictionary_agree version size s t values same.0 same.1 same.2 standing

column_agrees : (plan : ColumnPlan) (spelling : Spelling) (s t : Streams) (rows : List Value) → spelling_of plan.kind plan.encoding ≡ Some spelling → s.present ≡ t.present → Agree spelling s t → IsColumn plan s rows → IsColumn plan t rows
column_agrees plan spelling s t rows spelled present same is =
    let one : is.spelling ≡ spelling = ap (λ (o : Option Spelling). unwrap_or o spelling) (sym is.spelled ∙ spelled) in
    record {
      spelling = spelling;
      flags = is.flags;
      values = is.values;
      spelled = spelled;
      present = subst (λ (l : List ℕ). ArePresent l is.flags) present is.present;
      enough = is.enough;
      standing = values_agree spelling plan.dictionary_size s t is.values same (subst (λ (x : Spelling). AreValues x plan.dictionary_size s is.values) one is.standing);
      rows_are = is.rows_are;
    }

-- the streams that a spelling uses lie where the layout finds them
layout_agrees : (spelling : Spelling) (footer : StripeFooter) (column : ReadColumn) (encoding : Option Encoding) (file : List ℕ) (s : Streams) → ((kind : ℕ) → kind < 4 → span_bytes file (span_of (first_stream kind column.number footer.streams)) ≡ wanted_of kind s)
    → (s.present ≡ span_bytes file (stored footer column.number (kinds_used (Some spelling)) 0)) × Agree spelling s (streams_in file (laid_out footer column encoding (kinds_used (Some spelling))))
layout_agrees Bits footer column encoding file s lies = (sym (lies 0 (omega arith)), sym (lies 1 (omega arith)))
layout_agrees (Integers version) footer column encoding file s lies = (sym (lies 0 (omega arith)), sym (lies 1 (omega arith)))
layout_agrees (Texts version) footer column encoding file s lies = (sym (lies 0 (omega arith)), (sym (lies 1 (omega arith)), sym (lies 2 (omega arith))))
layout_agrees (Dictionary version) footer column encoding file s lies = (sym (lies 0 (omega arith)), (sym (lies 1 (omega arith)), sym (lies 2 (omega arith)), sym (lies 3 (omega arith))))

each_lies : (column : ℕ) (front back : List ℕ) (parts : List StreamBytes) (footer : StripeFooter) (s : Streams) → footer.streams ≡ placed (length front) (listed parts) → HasStreams column parts s
    → (kind : ℕ) → kind < 4 → span_bytes (front ++ (body_of parts ++ back)) (span_of (first_stream kind column footer.streams)) ≡ wanted_of kind s
each_lies column front back parts footer s listed_is has kind h =
    ap (λ (l : List StreamRange). span_bytes (front ++ (body_of parts ++ back)) (span_of (first_stream kind column l))) listed_is
    ∙ part_lies kind column front back parts (front ++ (body_of parts ++ back)) (length front) refl refl
    ∙ which kind column parts s has h

pub column_is_there : ColumnIsThere
column_is_there front back parts footer column encoding buffered e listed_is encoded spelled size has_rows has =
    let file = front ++ (body_of parts ++ back) in
    let lies = each_lies column.number front back parts footer (streams_of e) listed_is has in
    let agrees = layout_agrees buffered.spelling footer column (Some encoding) file (streams_of e) lies in
    let layout = laid_out footer column (Some encoding) (kinds_used (Some buffered.spelling)) in
    let same : layout_in footer column ≡ layout = ap (laid_out_by footer column) encoded ∙ ap (λ (o : Option Spelling). laid_out footer column (Some encoding) (kinds_used o)) spelled in
    let is : IsColumn (plan_at 0 layout) (streams_of e) buffered.rows = has_rows (plan_at 0 layout) spelled size in
    let there : HasValues file layout (length buffered.rows) buffered.rows = record { column = column_agrees (plan_at 0 layout) buffered.spelling (streams_of e) (streams_in file layout) buffered.rows spelled agrees.0 agrees.1 is; count = refl } in
    subst (λ (l : ColumnLayout). HasValues file l (length buffered.rows) buffered.rows) (sym same) there

-- ---- the columns of a stripe

pub columns_are_there : ColumnsAreThere
columns_are_there front back parts footer rows [] listed_is there = tt
columns_are_there front back parts footer rows (c ∷ columns) listed_is there = (
  subst (λ (n : ℕ). HasValues (front ++ (body_of parts ++ back)) (layout_in footer c.column) n c.buffered.rows) there.0.as_many
      (column_is_there front back parts footer c.column c.encoding c.buffered c.encoded listed_is there.0.listed there.0.spelled there.0.size there.0.has_rows there.0.has_streams),
  columns_are_there front back parts footer rows columns listed_is there.1,
)

-- ---- the bytes, stream by stream

body_of-append : (parts more : List StreamBytes) → body_of (parts ++ more) ≡ body_of parts ++ body_of more
body_of-append [] more = refl
body_of-append (p ∷ parts) more = ap (λ (l : List ℕ). p.bytes ++ l) (body_of-append parts more) ∙ sym (append_assoc p.bytes (body_of parts) (body_of more))

pub body_more : (parts : List StreamBytes) (i : ℕ) (p : StreamBytes) (before after : List ℕ) → i < length parts → p ≡ get_or parts i p → before ≡ body_of (take i parts) → after ≡ before ++ p.bytes → after ≡ body_of (take (i + 1) parts)
body_more parts i p before after h is made written =
    let last : body_of (p ∷ []) ≡ p.bytes = append-nil p.bytes in
    written ∙ ap (λ (l : List ℕ). l ++ p.bytes) made ∙ ap (λ (l : List ℕ). body_of (take i parts) ++ l) (sym last)
    ∙ sym (body_of-append (take i parts) (p ∷ []))
    ∙ ap (λ (q : StreamBytes). body_of (take i parts ++ q ∷ [])) is
    ∙ ap body_of (sym (take_more parts i p h))

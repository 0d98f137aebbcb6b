-- Some streams are opened, and then others.
use Rattle.std.proofs.Common.{◌≡◌, ℕ, ◌+◌, ◌*◌, ◌<◌, ◌≤◌, List, [], ◌∷◌, ◌++◌, length, Option, Some, None, Ok, Err, IfOk, OnOk, refl, sym, ◌∙◌, ap, subst, arith, inl, inr, append_assoc}
use Rattle.std.specs.Prelude.{Result, slice_range}
use Rattle.std.specs.List.{AllByRecursion}
use Rattle.outside.specs.declared.file_ref.FileRef.{FileRef}
use Rattle.outside.specs.Cause.{Cause, Rose}
use Rattle.outside.specs.Files.{Files, HasBytes, range_of}
use Rattle.orc_streams.specs.declared.layout.ColumnLayout.{ColumnLayout}
use Rattle.orc_streams.specs.declared.layout.Span.{Span}
use Rattle.orc_streams.specs.declared.openings.Opening.{Opening}
use Rattle.orc_streams.specs.declared.stream_reader.OpenFault.{OpenFault}
use Rattle.orc_streams.specs.declared.stream_reader.OpenFault.TheVariants.{Read, NoMemory}
use Rattle.orc_streams.specs.Acts.{Act, opens, open_acts, FailedToOpen}
use Rattle.orc_streams.specs.Openings.{StreamSpan, the_stream, spans_of, openings_at, spans_from, IsNone, AllAbove, opened, not_opened, all_opened, FitOpenings, HaveRanges, HaveSizes, OpensAll}

-- ---- lists of streams

-- none of these streams is one of those
pub AreNone : List StreamSpan → List StreamSpan → Type 0
AreNone xs ys = AllByRecursion (λ (x : StreamSpan). IsNone x.stream ys) xs

all_opened-append : (file : FileRef) (xs ys : List StreamSpan) → all_opened file (xs ++ ys) ≡ all_opened file xs ++ all_opened file ys
all_opened-append file [] ys = refl
all_opened-append file (x ∷ xs) ys = ap (λ (es : List Act). opened file x ∷ es) (all_opened-append file xs ys)

IsNone-front : (stream : ℕ) (xs ys : List StreamSpan) → IsNone stream (xs ++ ys) → IsNone stream xs
IsNone-front stream [] ys none = tt
IsNone-front stream (x ∷ xs) ys none = (none.0, IsNone-front stream xs ys none.1)

IsNone-back : (stream : ℕ) (xs ys : List StreamSpan) → IsNone stream (xs ++ ys) → IsNone stream ys
IsNone-back stream [] ys none = none
IsNone-back stream (x ∷ xs) ys none = IsNone-back stream xs ys none.1

IsNone-append : (stream : ℕ) (xs ys : List StreamSpan) → IsNone stream xs → IsNone stream ys → IsNone stream (xs ++ ys)
IsNone-append stream [] ys p q = q
IsNone-append stream (x ∷ xs) ys p q = (p.0, IsNone-append stream xs ys p.1 q)

IsNone-the_stream : (stream other : ℕ) (span : Option Span) → (stream ≡ other → ⊥) → IsNone stream (the_stream other span)
IsNone-the_stream stream other None apart = tt
IsNone-the_stream stream other (Some span) apart = (apart, tt)

IsNone-below : (stream : ℕ) (os : List Opening) → AllAbove stream os → IsNone stream (spans_of os)
IsNone-below stream [] above = tt
IsNone-below stream (o ∷ os) above =
    IsNone-append stream (the_stream o.stream o.span) (spans_of os)
    (IsNone-the_stream stream o.stream o.span (λ e. omega (arith, above.0))) (IsNone-below stream os above.1)

-- the first of some openings is none of the others
pub AreNone-first : (o : Opening) (os : List Opening) → AllAbove o.stream os → AreNone (the_stream o.stream o.span) (spans_of os)
unfolding AreNone
AreNone-first o os above = here o.span
  where
    here : (span : Option Span) → AllByRecursion (λ (x : StreamSpan). IsNone x.stream (spans_of os)) (the_stream o.stream span)
    here None = tt
    here (Some span) = (IsNone-below o.stream os above, tt)

-- a number that is none of a column's four is none of its streams
IsNone-column : (stream index : ℕ) (layout : ColumnLayout) → (stream ≡ 4 * index → ⊥) → (stream ≡ 4 * index + 1 → ⊥) → (stream ≡ 4 * index + 2 → ⊥)
    → (stream ≡ 4 * index + 3 → ⊥) → IsNone stream (spans_of (openings_at index layout))
IsNone-column stream index layout p q r s =
    IsNone-append stream (the_stream (4 * index) layout.present) _ (IsNone-the_stream stream (4 * index) layout.present p)
    (IsNone-append stream (the_stream (4 * index + 1) layout.body) _ (IsNone-the_stream stream (4 * index + 1) layout.body q)
    (IsNone-append stream (the_stream (4 * index + 2) layout.length) _ (IsNone-the_stream stream (4 * index + 2) layout.length r)
    (IsNone-append stream (the_stream (4 * index + 3) layout.dictionary) [] (IsNone-the_stream stream (4 * index + 3) layout.dictionary s) tt)))

-- so is one of another column's four
pub IsNone-elsewhere : (stream i index : ℕ) (layout : ColumnLayout) → 4 * i ≤ stream → stream < 4 * i + 4 → (i ≡ index → ⊥)
    → IsNone stream (spans_of (openings_at index layout))
IsNone-elsewhere stream i index layout low high apart =
    IsNone-column stream index layout (λ e. apart (omega arith)) (λ e. apart (omega arith)) (λ e. apart (omega arith)) (λ e. apart (omega arith))

IsNone-from : (stream index : ℕ) (layouts : List ColumnLayout) → stream < 4 * index → IsNone stream (spans_from index layouts)
IsNone-from stream index [] below = tt
IsNone-from stream index (layout ∷ layouts) below =
    IsNone-append stream (spans_of (openings_at index layout)) (spans_from (index + 1) layouts)
    (IsNone-column stream index layout (λ e. omega arith) (λ e. omega arith) (λ e. omega arith) (λ e. omega arith))
    (IsNone-from stream (index + 1) layouts (omega arith))

-- so no stream of a column is one of the columns behind it
AreNone-append : (xs ys zs : List StreamSpan) → AreNone xs zs → AreNone ys zs → AreNone (xs ++ ys) zs
unfolding AreNone
AreNone-append [] ys zs p q = q
AreNone-append (x ∷ xs) ys zs p q = (p.0, AreNone-append xs ys zs p.1 q)

AreNone-the_stream : (stream : ℕ) (span : Option Span) (zs : List StreamSpan) → IsNone stream zs → AreNone (the_stream stream span) zs
unfolding AreNone
AreNone-the_stream stream None zs none = tt
AreNone-the_stream stream (Some span) zs none = (none, tt)

AreNone-nothing : (zs : List StreamSpan) → AreNone [] zs
unfolding AreNone
AreNone-nothing zs = tt

pub AreNone-column : (index : ℕ) (layout : ColumnLayout) (layouts : List ColumnLayout) → AreNone (spans_of (openings_at index layout)) (spans_from (index + 1) layouts)
AreNone-column index layout layouts =
    let behind = spans_from (index + 1) layouts in
    AreNone-append (the_stream (4 * index) layout.present) _ behind (AreNone-the_stream (4 * index) layout.present behind (IsNone-from (4 * index) (index + 1) layouts (omega arith)))
    (AreNone-append (the_stream (4 * index + 1) layout.body) _ behind (AreNone-the_stream (4 * index + 1) layout.body behind (IsNone-from (4 * index + 1) (index + 1) layouts (omega arith)))
    (AreNone-append (the_stream (4 * index + 2) layout.length) _ behind (AreNone-the_stream (4 * index + 2) layout.length behind (IsNone-from (4 * index + 2) (index + 1) layouts (omega arith)))
    (AreNone-append (the_stream (4 * index + 3) layout.dictionary) [] behind (AreNone-the_stream (4 * index + 3) layout.dictionary behind (IsNone-from (4 * index + 3) (index + 1) layouts (omega arith)))
    (AreNone-nothing behind))))

-- ---- what is left of streams

module _ {S : Type 0} (rest : S → ℕ → Option (List ℕ)) where
  HaveRanges-append : (r : S) (bytes : List ℕ) (xs ys : List StreamSpan) → HaveRanges rest r bytes xs → HaveRanges rest r bytes ys → HaveRanges rest r bytes (xs ++ ys)
  HaveRanges-append r bytes [] ys p q = q
  HaveRanges-append r bytes (x ∷ xs) ys p q = (p.0, HaveRanges-append r bytes xs ys p.1 q)

  HaveSizes-append : (r : S) (xs ys : List StreamSpan) → HaveSizes rest r xs → HaveSizes rest r ys → HaveSizes rest r (xs ++ ys)
  HaveSizes-append r [] ys p q = q
  HaveSizes-append r (x ∷ xs) ys p q = (p.0, HaveSizes-append r xs ys p.1 q)

  module _ (between last : S) (ys : List StreamSpan) (keeps : (other : ℕ) → IsNone other ys → rest last other ≡ rest between other) where
    HaveRanges-kept : (bytes : List ℕ) (xs : List StreamSpan) → AreNone xs ys → HaveRanges rest between bytes xs → HaveRanges rest last bytes xs
    unfolding AreNone
    HaveRanges-kept bytes [] none have = tt
    HaveRanges-kept bytes (x ∷ xs) none have = (keeps x.stream none.0 ∙ have.0, HaveRanges-kept bytes xs none.1 have.1)

    HaveSizes-kept : (xs : List StreamSpan) → AreNone xs ys → HaveSizes rest between xs → HaveSizes rest last xs
    unfolding AreNone
    HaveSizes-kept [] none have = tt
    HaveSizes-kept (x ∷ xs) none have = ((λ bytes told. have.0 bytes (sym (keeps x.stream none.0) ∙ told)), HaveSizes-kept xs none.1 have.1)

-- ---- acts

fits_then : {Y : Type 0} (file : FileRef) (xs ys : List StreamSpan) (acts : List Act) (answer : Result Y OpenFault)
    → FitOpenings file ys acts answer → FitOpenings file (xs ++ ys) (all_opened file xs ++ acts) answer
fits_then file xs ys acts (Ok y) e = ap (λ (es : List Act). all_opened file xs ++ es) e ∙ sym (all_opened-append file xs ys)
fits_then file xs ys acts (Err (Read failed)) f = record {
  front = xs ++ f.front;
  last = f.last;
  rest = f.rest;
  spans_are = ap (λ (ss : List StreamSpan). xs ++ ss) f.spans_are ∙ sym (append_assoc xs f.front (f.last ∷ f.rest));
  acts_are = ap (λ (es : List Act). all_opened file xs ++ es) f.acts_are
      ∙ sym (append_assoc (all_opened file xs) (all_opened file f.front) (not_opened file f.last ∷ []))
      ∙ ap (λ (es : List Act). es ++ not_opened file f.last ∷ []) (sym (all_opened-append file xs f.front));
}
fits_then file xs ys acts (Err NoMemory) f = record {
  front = xs ++ f.front;
  rest = f.rest;
  spans_are = ap (λ (ss : List StreamSpan). xs ++ ss) f.spans_are ∙ sym (append_assoc xs f.front f.rest);
  acts_are = ap (λ (es : List Act). all_opened file xs ++ es) f.acts_are ∙ sym (all_opened-append file xs f.front);
}

fits_stopped : (X Y : Type 0) (file : FileRef) (xs ys : List StreamSpan) (acts : List Act) (fault : OpenFault)
    → FitOpenings {Y = X} file xs acts (Err fault) → FitOpenings {Y = Y} file (xs ++ ys) acts (Err fault)
fits_stopped X Y file xs ys acts (Read failed) f = record {
  front = f.front;
  last = f.last;
  rest = f.rest ++ ys;
  spans_are = ap (λ (ss : List StreamSpan). ss ++ ys) f.spans_are ∙ append_assoc f.front (f.last ∷ f.rest) ys;
  acts_are = f.acts_are;
}
fits_stopped X Y file xs ys acts NoMemory f = record {
  front = f.front;
  rest = f.rest ++ ys;
  spans_are = ap (λ (ss : List StreamSpan). ss ++ ys) f.spans_are ∙ append_assoc f.front f.rest ys;
  acts_are = f.acts_are;
}

failed_anyway : (X Y : Type 0) (fault : OpenFault) → FailedToOpen {T = Y} (Err fault) → FailedToOpen {T = X} (Err fault)
failed_anyway X Y (Read failed) f = tt
failed_anyway X Y NoMemory f = f

-- ---- openings

module _ {S : Type 0} (did : S → List Act → S → Type 0) (rest : S → ℕ → Option (List ℕ)) (count : S → ℕ) (told : Option Files) (file : FileRef) where
  -- none was to be opened
  pub opens_none : {Y : Type 0} (r : S) (y : Y) → did r [] r → OpensAll did rest count told file [] r r (Ok y)
  opens_none r y nothing = record {
    acts = [];
    by = nothing;
    fits = refl;
    others = λ other none. refl;
    have = λ bytes has. tt;
    sizes = tt;
    cause = record { later = omega arith; failed = λ f. absurd f };
  }

  -- some were opened, and then others
  pub opens_then : {X Y : Type 0} (xs ys : List StreamSpan) (first between last : S) (x : X) (answer : Result Y OpenFault)
      → ((front back : List Act) → did first front between → did between back last → did first (front ++ back) last) → AreNone xs ys
      → OpensAll did rest count told file xs first between (Ok x) → OpensAll did rest count told file ys between last answer
      → OpensAll did rest count told file (xs ++ ys) first last answer
  opens_then {X} {Y} xs ys first between last x answer joined none one more = record {
    acts = all_opened file xs ++ more.acts;
    by = joined (all_opened file xs) more.acts (subst (λ (es : List Act). did first es between) one.fits one.by) more.by;
    fits = fits_then file xs ys more.acts answer more.fits;
    others = λ other out. more.others other (IsNone-back other xs ys out) ∙ one.others other (IsNone-front other xs ys out);
    have = λ bytes has. haves answer bytes (one.have bytes has) (more.have bytes has);
    sizes = sized answer more.sizes;
    cause = record { later = omega (arith, one.cause.later, more.cause.later); failed = λ f. rose (more.cause.failed f) };
  }
    where
      rose : Rose (count between) (count last) → Rose (count first) (count last)
      rose (inl less) = inl (omega (arith, one.cause.later))
      rose (inr most) = inr most

      haves : (answer : Result Y OpenFault) (bytes : List ℕ) → HaveRanges rest between bytes xs → IfOk answer (λ _. HaveRanges rest last bytes ys)
          → IfOk answer (λ _. HaveRanges rest last bytes (xs ++ ys))
      haves (Ok y) bytes front back = HaveRanges-append rest last bytes xs ys (HaveRanges-kept rest between last ys more.others bytes xs none front) back
      haves (Err fault) bytes front back = tt

      sized : (answer : Result Y OpenFault) → IfOk answer (λ _. HaveSizes rest last ys) → IfOk answer (λ _. HaveSizes rest last (xs ++ ys))
      sized (Ok y) back = HaveSizes-append rest last xs ys (HaveSizes-kept rest between last ys more.others xs none one.sizes) back
      sized (Err fault) back = tt

  -- one of the first wasn't opened
  pub opens_stopped : {X Y : Type 0} (xs ys : List StreamSpan) (first last : S) (fault : OpenFault)
      → OpensAll {Y = X} did rest count told file xs first last (Err fault) → OpensAll {Y = Y} did rest count told file (xs ++ ys) first last (Err fault)
  opens_stopped {X} {Y} xs ys first last fault one = record {
    acts = one.acts;
    by = one.by;
    fits = fits_stopped X Y file xs ys one.acts fault one.fits;
    others = λ other out. one.others other (IsNone-front other xs ys out);
    have = λ bytes has. tt;
    sizes = tt;
    cause = record { later = one.cause.later; failed = λ f. one.cause.failed (failed_anyway X Y fault f) };
  }

  module _ {Y : Type 0} (stream : ℕ) (span : Span) (first last : S) (keeps : (other : ℕ) → (other ≡ stream → ⊥) → rest last other ≡ rest first other) where
    -- one was opened
    pub opens_one : (y : Y) → did first (opens stream (range_of file span.at span.len) ∷ []) last
        → ((bytes : List ℕ) → HasBytes told file bytes → rest last stream ≡ Some (slice_range bytes span.at (span.at + span.len)))
        → ((bytes : List ℕ) → rest last stream ≡ Some bytes → length bytes ≡ span.len) → count first ≤ count last
        → OpensAll did rest count told file (the_stream stream (Some span)) first last (Ok y)
    opens_one y by bytes size later = record {
      acts = _;
      by = by;
      fits = refl;
      others = λ other out. keeps other out.0;
      have = λ whole has. (bytes whole has, tt);
      sizes = (size, tt);
      cause = record { later = later; failed = λ f. absurd f };
    }

    -- it wasn't
    pub opens_fails : (fault : OpenFault) → did first (open_acts {T = Y} stream (range_of file span.at span.len) (Err fault)) last
        → Cause (count first) (count last) (FailedToOpen {T = Y} (Err fault))
        → OpensAll {Y = Y} did rest count told file (the_stream stream (Some span)) first last (Err fault)
    opens_fails (Read failed) by cause = record {
      acts = _;
      by = by;
      fits = record { front = []; last = record { stream = stream; span = span }; rest = []; spans_are = refl; acts_are = refl };
      others = λ other out. keeps other out.0;
      have = λ whole has. tt;
      sizes = tt;
      cause = record { later = cause.later; failed = λ f. cause.failed f };
    }
    opens_fails NoMemory by cause = record {
      acts = [];
      by = by;
      fits = record { front = []; rest = the_stream stream (Some span); spans_are = refl; acts_are = refl };
      others = λ other out. keeps other out.0;
      have = λ whole has. tt;
      sizes = tt;
      cause = record { later = cause.later; failed = λ f. absurd f };
    }

    -- whatever was answered
    pub opens_by : (answer : Result Y OpenFault) → did first (open_acts stream (range_of file span.at span.len) answer) last
        → OnOk answer ((bytes : List ℕ) → HasBytes told file bytes → rest last stream ≡ Some (slice_range bytes span.at (span.at + span.len)))
        → OnOk answer ((bytes : List ℕ) → rest last stream ≡ Some bytes → length bytes ≡ span.len)
        → Cause (count first) (count last) (FailedToOpen answer)
        → OpensAll did rest count told file (the_stream stream (Some span)) first last answer
    opens_by (Ok y) by bytes size cause = opens_one y by bytes size cause.later
    opens_by (Err fault) by bytes size cause = opens_fails fault by cause

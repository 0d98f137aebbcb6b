-- A stripe's count, or its footer and then its columns.
use Rattle.std.proofs.Common.{◌≡◌, ℕ, ◌<◌, ◌≤◌, List, [], ◌∷◌, ◌++◌, length, Option, Ok, Err, refl, sym, ap, subst, arith, inl, inr}
use Rattle.std.specs.Prelude.{Result, IfOk, IfErr}
use Rattle.outside.specs.declared.file_ref.FileRef.{FileRef}
use Rattle.outside.specs.Cause.{Rose}
use Rattle.outside.specs.Files.{Files}
use Rattle.outside.specs.Followed.{Followed, Fits, read_failed}
use Rattle.outside.specs.Reads.{ReadEntry}
use Rattle.orc_tail.specs.declared.fault.TailFault.{TailFault}
use Rattle.orc_tail.specs.declared.fault.TailFault.TheVariants as tail
use Rattle.orc_tail.specs.declared.stripe.Stripe.{Stripe}
use Rattle.orc_tail.specs.declared.stripe_footer.StripeFooter.{StripeFooter}
use Rattle.orc_tail.specs.Reads.{ending, stripe_footer_plan}
use Rattle.orc_tail.specs.StripeFooter.{footer_at, FollowEachOther}
use Rattle.orc_tail.specs.Tail.{stripe_end}
use Rattle.orc_streams.specs.declared.layout.ReadColumn.{ReadColumn}
use Rattle.orc_streams.specs.Acts.{Act, closes, read_acts}
use Rattle.orc_streams.specs.Laws.{LayoutsEndBy, EndLater}
use Rattle.orc_streams.specs.Layout.{layout_in, EndsBy}
use Rattle.orc_batches.specs.Batch.{Batch, Piece, count as of_count, pieces_of, joined, AreCut}
use Rattle.orc_rows.specs.declared.fault.RowsFault.{RowsFault}
use Rattle.orc_rows.specs.Given.{kinds_in, no_rows, batches_in, values_in}
use Rattle.orc_rows.specs.Giving.{ColumnActs}
use Rattle.orc_rows.specs.Rows.{HaveValues, StripeHas, StripeFails}
use Rattle.orc_walk.specs.declared.stop.Stop.{Stop}
use Rattle.orc_walk.specs.declared.stop.Stop.TheVariants as stop
use Rattle.orc_walk.specs.Stops.{stop_of_footer, EatenBy, StoppedByRead, IfFault, IsRowsContent}
use Rattle.orc_walk.specs.StripeWalk.{ColumnsFail, ColumnsStop, WalksColumns, IsFooterRead, IsStripeWalk, IsStripeStop, WalksStripe}

-- each column's streams lie in the file
pub in_the_file : LayoutsEndBy → EndLater → (stripe : Stripe) (footer : StripeFooter) (len : ℕ) → stripe_end stripe ≤ len → FollowEachOther stripe.at (footer_at stripe) footer.streams
    → (column : ReadColumn) → EndsBy len (layout_in footer column)
in_the_file ends later stripe footer len fits follow column =
    later (layout_in footer column) (footer_at stripe) len (omega (arith, fits)) (ends footer column stripe.at (footer_at stripe) follow)

batches_of_pieces : (batches : List Batch) → batches_in (pieces_of batches) ≡ batches
batches_of_pieces [] = refl
batches_of_pieces (b ∷ bs) = ap (λ (xs : List Batch). b ∷ xs) (batches_of_pieces bs)

-- ---- the footer

-- a fault of a footer that is read is that of the stripe
footer_fails : (Y : Type 0) (file : FileRef) (stripe : Stripe) (bytes : List ℕ) (number : ℕ) (c : ReadColumn) (cs : List ReadColumn) (fault : TailFault) (entries : List ReadEntry)
    → Fits ending (stripe_footer_plan file stripe bytes) (Err fault) entries → IfFault {Y = Y} (Err (stop_of_footer number fault)) (StripeFails bytes number stripe (c ∷ cs))
unfolding stripe_footer_plan
footer_fails Y file stripe bytes number c cs tail.TooShort entries fits = StripeFails.at_footer fits.answer_is
footer_fails Y file stripe bytes number c cs tail.NotOrc entries fits = StripeFails.at_footer fits.answer_is
footer_fails Y file stripe bytes number c cs (tail.Compressed kind) entries fits = StripeFails.at_footer fits.answer_is
footer_fails Y file stripe bytes number c cs (tail.Wire wire) entries fits = StripeFails.at_footer fits.answer_is
footer_fails Y file stripe bytes number c cs tail.OutOfFile entries fits = StripeFails.at_footer fits.answer_is
footer_fails Y file stripe bytes number c cs tail.BadTypes entries fits = StripeFails.at_footer fits.answer_is
footer_fails Y file stripe bytes number c cs tail.TooLarge entries fits = StripeFails.at_footer fits.answer_is
footer_fails Y file stripe bytes number c cs tail.RootPresent entries fits = StripeFails.at_footer fits.answer_is
footer_fails Y file stripe bytes number c cs tail.StreamOutOfStripe entries fits = StripeFails.at_footer fits.answer_is
footer_fails Y file stripe bytes number c cs (tail.Read failed) entries fits = tt
footer_fails Y file stripe bytes number c cs tail.NoMemory entries fits = tt

footer_content : (Y : Type 0) (number : ℕ) (fault : TailFault) → IfFault {Y = Y} (Err (stop_of_footer number fault)) IsRowsContent
footer_content Y number tail.TooShort = tt
footer_content Y number tail.NotOrc = tt
footer_content Y number (tail.Compressed kind) = tt
footer_content Y number (tail.Wire wire) = tt
footer_content Y number tail.OutOfFile = tt
footer_content Y number tail.BadTypes = tt
footer_content Y number tail.TooLarge = tt
footer_content Y number tail.RootPresent = tt
footer_content Y number tail.StreamOutOfStripe = tt
footer_content Y number (tail.Read failed) = tt
footer_content Y number tail.NoMemory = tt

footer_read : (Y : Type 0) (number : ℕ) (fault : TailFault) → StoppedByRead {Y = Y} (Err (stop_of_footer number fault)) → ending fault ≡ read_failed
footer_read Y number tail.TooShort stopped = absurd stopped
footer_read Y number tail.NotOrc stopped = absurd stopped
footer_read Y number (tail.Compressed kind) stopped = absurd stopped
footer_read Y number (tail.Wire wire) stopped = absurd stopped
footer_read Y number tail.OutOfFile stopped = absurd stopped
footer_read Y number tail.BadTypes stopped = absurd stopped
footer_read Y number tail.TooLarge stopped = absurd stopped
footer_read Y number tail.RootPresent stopped = absurd stopped
footer_read Y number tail.StreamOutOfStripe stopped = absurd stopped
footer_read Y number (tail.Read failed) stopped = refl
footer_read Y number tail.NoMemory stopped = absurd stopped

eaten_by : (Y : Type 0) (Ate : Type 0) (why : Stop RowsFault) → Ate → EatenBy {Y = Y} Ate (Err why)
eaten_by Y Ate (stop.Fault fault) ate = ate
eaten_by Y Ate (stop.Read failed) ate = ate
eaten_by Y Ate stop.NoMemory ate = tt

-- a footer that is read is that of the stripe, in one read
footer_found : (file : FileRef) (stripe : Stripe) (bytes : List ℕ) (footer : StripeFooter) (entries : List ReadEntry)
    → Fits ending (stripe_footer_plan file stripe bytes) (Ok footer) entries → IsFooterRead file bytes stripe footer entries
unfolding stripe_footer_plan
footer_found file stripe bytes footer entries fits = (fits.answer_is, fits.entries_are)

module _ {S C : Type 0} (did : S → List Act → S → Type 0) (count : S → ℕ) (files : Option Files) (ate : C → List Piece → C → Type 0) (file : FileRef) (columns : List ReadColumn) (number : ℕ) (stripe : Stripe) where
  -- ---- no column is read

  pub counted : {Y : Type 0} (y : Y) → ((reader : S) → did reader [] reader) → (reader : S) (eater eater' : C) → length columns ≡ 0 → ate eater (of_count stripe.rows ∷ []) eater'
      → WalksStripe did count files ate file columns number stripe reader reader eater eater' (Ok y)
  counted {Y} y nothing reader eater eater' none ate_it = record {
    pieces = of_count stripe.rows ∷ [];
    eaten = ate_it;
    acts = [];
    by = nothing reader;
    walk = walk columns none;
    stops = tt;
    cause = record { later = omega arith; failed = λ f. absurd f };
    content = tt;
    has = λ bytes has. has_none bytes columns none;
    fails = λ bytes has. tt;
  }
    where
      walk : (cs : List ReadColumn) → length cs ≡ 0 → IsStripeWalk files file stripe cs (of_count stripe.rows ∷ []) []
      walk [] e = IsStripeWalk.unread refl
      walk (c ∷ cs) e = absurd (omega (arith, e))

      has_none : (bytes : List ℕ) (cs : List ReadColumn) → length cs ≡ 0 → StripeHas bytes stripe cs (values_in cs (of_count stripe.rows ∷ []))
      has_none bytes [] e = StripeHas.unread
      has_none bytes (c ∷ cs) e = absurd (omega (arith, e))

  pub not_counted : {Y : Type 0} → ((reader : S) → did reader [] reader) → (reader : S) (eater eater' : C) → length columns ≡ 0 → WalksStripe did count files ate file columns {Y = Y} number stripe reader reader eater eater' (Err stop.NoMemory)
  not_counted nothing reader eater eater' none = record {
    pieces = [];
    eaten = tt;
    acts = [];
    by = nothing reader;
    walk = tt;
    stops = stopped columns none;
    cause = record { later = omega arith; failed = λ f. absurd f };
    content = tt;
    has = λ bytes has. tt;
    fails = λ bytes has. tt;
  }
    where
      stopped : (cs : List ReadColumn) → length cs ≡ 0 → IsStripeStop files file number stripe cs [] stop.NoMemory []
      stopped [] e = IsStripeStop.uncounted
      stopped (c ∷ cs) e = absurd (omega (arith, e))

  -- ---- columns are read

  module _ (went : S → List ReadEntry → S → Type 0) (rises : S → ℕ) (one_count : (reader : S) → rises reader ≡ count reader)
      (did_read : (first last : S) (entries : List ReadEntry) → went first entries last → did first (read_acts entries) last) (some : 0 < length columns) (before between : S) where
    -- the footer is refused
    pub footer_stops : {Y : Type 0} (eater : C) (fault : TailFault) → ate eater [] eater → Followed went rises files file ending (stripe_footer_plan file stripe) before between (Err fault)
        → WalksStripe did count files ate file columns {Y = Y} number stripe before between eater eater (Err (stop_of_footer number fault))
    footer_stops {Y} eater fault nothing f = record {
      pieces = [];
      eaten = eaten_by Y (ate eater [] eater) (stop_of_footer number fault) nothing;
      acts = read_acts f.entries;
      by = did_read before between f.entries f.by;
      walk = tt;
      stops = stopped columns some;
      cause = record {
        later = omega (arith, f.cause.later, one_count before, one_count between);
        failed = λ g. rw (sym (one_count before), sym (one_count between)) (f.cause.failed (footer_read Y number fault g));
      };
      content = footer_content Y number fault;
      has = λ bytes has. tt;
      fails = λ bytes has. fails bytes columns some (f.fits bytes has);
    }
      where
        stopped : (cs : List ReadColumn) → 0 < length cs → IsStripeStop files file number stripe cs [] (stop_of_footer number fault) (read_acts f.entries)
        stopped [] e = absurd (omega (arith, e))
        stopped (c ∷ cs) e = IsStripeStop.at_footer fault f.entries f.own f.fits

        fails : (bytes : List ℕ) (cs : List ReadColumn) → 0 < length cs → Fits ending (stripe_footer_plan file stripe bytes) (Err fault) f.entries
            → IfFault {Y = Y} (Err (stop_of_footer number fault)) (StripeFails bytes number stripe cs)
        fails bytes [] e fits = absurd (omega (arith, e))
        fails bytes (c ∷ cs) e fits = footer_fails Y file stripe bytes number c cs fault f.entries fits

    -- the columns were walked by it
    pub columns_walked : {Y : Type 0} → ((first last final : S) (front back : List Act) → did first front last → did last back final → did first (front ++ back) final)
        → (after last : S) (eater eater' : C) (footer : StripeFooter) (answer : Result Y (Stop RowsFault)) → Followed went rises files file ending (stripe_footer_plan file stripe) before between (Ok footer)
        → WalksColumns did count files ate file footer columns stripe.rows number between after eater eater' answer → did after (closes ∷ []) last → count last ≡ count after
        → WalksStripe did count files ate file columns number stripe before last eater eater' answer
    columns_walked {Y} joins after last eater eater' footer answer f w closed still = record {
      pieces = pieces_of w.batches;
      eaten = w.eaten;
      acts = read_acts f.entries ++ (w.acts ++ closes ∷ []);
      by = joins before between last (read_acts f.entries) (w.acts ++ closes ∷ []) (did_read before between f.entries f.by) (joins between after last w.acts (closes ∷ []) w.by closed);
      walk = walk answer columns some w.cut w.order;
      stops = stopped answer columns some w.stops;
      cause = record { later = omega (arith, later, w.cause.later, still); failed = λ g. rose (w.cause.failed g) };
      content = w.content;
      has = λ bytes has. has_them answer bytes columns some (footer_found file stripe bytes footer f.entries (f.fits bytes has)) (w.has bytes has);
      fails = λ bytes has. fails answer bytes columns some (footer_found file stripe bytes footer f.entries (f.fits bytes has)) (w.fails bytes has);
    }
      where
        later : count before ≤ count between
        later = omega (arith, f.cause.later, one_count before, one_count between)

        rose : Rose (count between) (count after) → Rose (count before) (count last)
        rose (inl less) = inl (omega (arith, later, still))
        rose (inr most) = inr (omega (arith, still))

        walk : (answer : Result Y (Stop RowsFault)) (cs : List ReadColumn) → 0 < length cs → IfOk answer (λ y. AreCut (kinds_in cs) stripe.rows w.batches) → IfOk answer (λ y. ColumnActs file footer cs w.batches w.acts)
            → IfOk answer (λ y. IsStripeWalk files file stripe cs (pieces_of w.batches) (read_acts f.entries ++ (w.acts ++ closes ∷ [])))
        walk (Ok y) [] e cut order = absurd (omega (arith, e))
        walk (Ok y) (c ∷ cs) e cut order = IsStripeWalk.by_footer footer f.entries w.acts f.own (λ bytes has. footer_found file stripe bytes footer f.entries (f.fits bytes has)) (w.batches, refl, cut)
            (subst (λ (bs : List Batch). ColumnActs file footer (c ∷ cs) bs w.acts) (sym (batches_of_pieces w.batches)) order)
        walk (Err why) cs e cut order = tt

        stopped : (answer : Result Y (Stop RowsFault)) (cs : List ReadColumn) → 0 < length cs → IfErr answer (λ why. ColumnsStop file footer cs w.batches why w.acts)
            → IfErr answer (λ why. IsStripeStop files file number stripe cs (pieces_of w.batches) why (read_acts f.entries ++ (w.acts ++ closes ∷ [])))
        stopped (Ok y) cs e stop = tt
        stopped (Err why) [] e stop = absurd (omega (arith, e))
        stopped (Err why) (c ∷ cs) e stop = IsStripeStop.in_columns footer f.entries w.batches w.acts f.own (λ bytes has. footer_found file stripe bytes footer f.entries (f.fits bytes has)) stop

        has_them : (answer : Result Y (Stop RowsFault)) (bytes : List ℕ) (cs : List ReadColumn) → 0 < length cs → IsFooterRead file bytes stripe footer f.entries
            → IfOk answer (λ y. HaveValues bytes footer stripe.rows cs (joined (no_rows cs) w.batches)) → IfOk answer (λ y. StripeHas bytes stripe cs (values_in cs (pieces_of w.batches)))
        has_them (Ok y) bytes [] e is have = absurd (omega (arith, e))
        has_them (Ok y) bytes (c ∷ cs) e is have =
            StripeHas.by_footer footer is.0 (subst (λ (bs : List Batch). HaveValues bytes footer stripe.rows (c ∷ cs) (joined (no_rows (c ∷ cs)) bs)) (sym (batches_of_pieces w.batches)) have)
        has_them (Err why) bytes cs e is have = tt

        by_column : (bytes : List ℕ) (cs : List ReadColumn) (broken : RowsFault) → 0 < length cs → IsFooterRead file bytes stripe footer f.entries → ColumnsFail bytes footer cs stripe.rows number broken
            → StripeFails bytes number stripe cs broken
        by_column bytes [] broken e is (which, fault, same, first) = absurd (omega (arith, e))
        by_column bytes (c ∷ cs) broken e is (which, fault, same, first) = subst (λ (b : RowsFault). StripeFails bytes number stripe (c ∷ cs) b) (sym same) (StripeFails.at_column footer is.0 first)

        fails : (answer : Result Y (Stop RowsFault)) (bytes : List ℕ) (cs : List ReadColumn) → 0 < length cs → IsFooterRead file bytes stripe footer f.entries
            → IfFault answer (ColumnsFail bytes footer cs stripe.rows number) → IfFault answer (StripeFails bytes number stripe cs)
        fails (Ok y) bytes cs e is no_fault = tt
        fails (Err (stop.Fault broken)) bytes cs e is first = by_column bytes cs broken e is first
        fails (Err (stop.Read failed)) bytes cs e is no_fault = tt
        fails (Err stop.NoMemory) bytes cs e is no_fault = tt

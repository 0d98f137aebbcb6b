-- A scan's stages, one after the other.
use Rattle.std.proofs.Common.{◌≡◌, ℕ, ◌≤◌, List, [], ◌++◌, Option, Some, Result, Ok, Err, refl, sym, subst, arith, inl, inr}
use Rattle.std.specs.Prelude.{IfOk}
use Rattle.std.proofs.lemmas.List.{append-nil}
use Rattle.outside.specs.declared.failed.NoMemory.{NoMemory}
use Rattle.outside.specs.declared.file_ref.FileRef.{FileRef}
use Rattle.outside.specs.Cause.{Cause, Rose}
use Rattle.outside.specs.Files.{Files}
use Rattle.outside.specs.Followed.{Followed, Fits, read_failed}
use Rattle.outside.specs.Reads.{ReadEntry}
use Rattle.orc_tail.specs.declared.fault.TailFault.{TailFault}
use Rattle.orc_tail.specs.declared.fault.TailFault.TheVariants as fault
use Rattle.orc_tail.specs.declared.tail.Tail.{Tail}
use Rattle.orc_tail.specs.Tail.{tail}
use Rattle.orc_tail.specs.Reads.{ending, tail_plan}
use Rattle.orc_streams.specs.declared.layout.ReadColumn.{ReadColumn}
use Rattle.orc_streams.specs.Acts.{Act, read_acts}
use Rattle.orc_walk.specs.declared.stop.Stop.TheVariants as stop
use Rattle.orc_walk.specs.StripeWalk.StripesStop.{unbegun}
use Rattle.fragment_plan.specs.declared.fragment.Scan.{Scan}
use Rattle.fragment_outcome.specs.declared.failure.Failure.{Failure}
use Rattle.fragment_outcome.specs.declared.outcome.Outcome.{Outcome}
use Rattle.fragment_meaning.specs.ScanColumns.{scan_columns}
use Rattle.fragment_meaning.specs.ScanOutcome.{failed, tail_failure, IsOutcomeOfColumns, IsOutcomeOfTail, IsOutcomeOn}
use Rattle.scan_failures.specs.Faults.{tail_outcome}
use Rattle.fragment_scan.specs.Outcomes.{IsOutcomeFor}
use Rattle.fragment_scan.specs.Scanned.{IfDecided, IsReadFault, RestByColumns, ScansFile, ScansParts, FoldsStripes}
use Rattle.fragment_scan.specs.Scanned.Walked.{stopped}
use Rattle.fragment_scan.proofs.Forms.{columns_so}

decided_map : (answer : Result Outcome NoMemory) (P Q : Outcome → Type 0) → ((o : Outcome) → P o → Q o) → IfDecided answer P → IfDecided answer Q
decided_map (Ok o) P Q more p = λ no_fault. more o (p no_fault)
decided_map (Err refused) P Q more p = tt

rose_before : (first before after : ℕ) → first ≤ before → Rose before after → Rose first after
rose_before first before after le (inl less) = inl (omega arith)
rose_before first before after le (inr full) = inr full

cause_then : (first before after : ℕ) (F : Type 0) → first ≤ before → Cause before after F → Cause first after F
cause_then first before after F le cause = record { later = omega (arith, le, cause.later); failed = λ f. rose_before first before after le (cause.failed f) }

-- ---- behind the tail

module _ {S : Type 0} (did : S → List Act → S → Type 0) (count : S → ℕ) (files : Option Files) (file : FileRef) (scan : Scan) (parts : Tail) where
  rest_by : (judged : Result (List ReadColumn) Failure) → RestByColumns files file parts.stripes judged [] (Err (record {}))
  rest_by (Ok named) = stopped stop.NoMemory unbegun
  rest_by (Err why) = (refl, tt)

  -- the scan can't read its columns
  pub parts_fail : ((reader : S) → did reader [] reader) → (reader : S) (why : Failure) → scan_columns scan parts.columns ≡ Err why
      → ScansParts did count files file scan parts reader reader (Ok (failed why))
  parts_fail nothing reader why judged =
      let misses = columns_so scan parts.columns why judged in
      record {
        acts = [];
        by = nothing reader;
        rest = subst (λ (r : Result (List ReadColumn) Failure). RestByColumns files file parts.stripes r [] (Ok (failed why))) (sym judged) (refl, refl);
        cause = record { later = omega arith; failed = λ e. absurd (misses.1 e) };
        is_for = misses.0;
        means = λ bytes has tail_is. λ no_fault.
            subst (λ (r : Result (List ReadColumn) Failure). IsOutcomeOfColumns scan bytes parts.stripes r (failed why)) (sym judged) refl;
      }

  -- memory was refused
  pub parts_refused : ((reader : S) → did reader [] reader) → (reader : S) → ScansParts did count files file scan parts reader reader (Err (record {}))
  parts_refused nothing reader = record {
    acts = [];
    by = nothing reader;
    rest = rest_by (scan_columns scan parts.columns);
    cause = record { later = omega arith; failed = λ e. absurd cc };
    is_for = tt;
    means = λ bytes has tail_is. tt;
  }

  -- its columns are read
  pub parts_folded : (named : List ReadColumn) (before after : S) (answer : Result Outcome NoMemory) → scan_columns scan parts.columns ≡ Ok named
      → FoldsStripes did count files file scan parts named before after answer → ScansParts did count files file scan parts before after answer
  parts_folded named before after answer judged f = record {
    acts = f.acts;
    by = f.by;
    rest = subst (λ (r : Result (List ReadColumn) Failure). RestByColumns files file parts.stripes r f.acts answer) (sym judged) f.rest;
    cause = f.cause;
    is_for = f.is_for;
    means = λ bytes has tail_is.
        subst (λ (r : Result (List ReadColumn) Failure). IfDecided answer (IsOutcomeOfColumns scan bytes parts.stripes r)) (sym judged) (f.means bytes has tail_is);
  }

-- ---- from the tail on

tail_is : (file : FileRef) (bytes : List ℕ) (parts : Tail) (entries : List ReadEntry) → Fits ending (tail_plan file bytes) (Ok parts) entries → tail bytes ≡ Ok parts
unfolding tail_plan
tail_is file bytes parts entries fits = fits.answer_is

tail_read : (why : TailFault) → IsReadFault (tail_outcome why) → ending why ≡ read_failed
tail_read fault.TooShort e = absurd cc
tail_read fault.NotOrc e = absurd cc
tail_read (fault.Compressed kind) e = absurd cc
tail_read (fault.Wire wire) e = absurd cc
tail_read fault.OutOfFile e = absurd cc
tail_read fault.BadTypes e = absurd cc
tail_read fault.TooLarge e = absurd cc
tail_read fault.RootPresent e = absurd cc
tail_read fault.StreamOutOfStripe e = absurd cc
tail_read (fault.Read failed) e = refl
tail_read fault.NoMemory e = absurd cc

tail_is_for : (scan : Scan) (why : TailFault) → IfOk (tail_outcome why) (IsOutcomeFor scan)
tail_is_for scan fault.TooShort = tt
tail_is_for scan fault.NotOrc = tt
tail_is_for scan (fault.Compressed kind) = tt
tail_is_for scan (fault.Wire wire) = tt
tail_is_for scan fault.OutOfFile = tt
tail_is_for scan fault.BadTypes = tt
tail_is_for scan fault.TooLarge = tt
tail_is_for scan fault.RootPresent = tt
tail_is_for scan fault.StreamOutOfStripe = tt
tail_is_for scan (fault.Read failed) = tt
tail_is_for scan fault.NoMemory = tt

tail_decided : (scan : Scan) (bytes : List ℕ) (why : TailFault) → tail bytes ≡ Err why → IsOutcomeOn scan (Some bytes) (failed (tail_failure why))
tail_decided scan bytes why is = subst (λ (t : Result Tail TailFault). IsOutcomeOfTail scan bytes t (failed (tail_failure why))) (sym is) refl

tail_means : (scan : Scan) (file : FileRef) (bytes : List ℕ) (why : TailFault) (entries : List ReadEntry) → Fits ending (tail_plan file bytes) (Err why) entries
    → IfDecided (tail_outcome why) (IsOutcomeOn scan (Some bytes))
unfolding tail_plan
tail_means scan file bytes fault.TooShort entries fits = λ no. tail_decided scan bytes fault.TooShort fits.answer_is
tail_means scan file bytes fault.NotOrc entries fits = λ no. tail_decided scan bytes fault.NotOrc fits.answer_is
tail_means scan file bytes (fault.Compressed kind) entries fits = λ no. tail_decided scan bytes (fault.Compressed kind) fits.answer_is
tail_means scan file bytes (fault.Wire wire) entries fits = λ no. tail_decided scan bytes (fault.Wire wire) fits.answer_is
tail_means scan file bytes fault.OutOfFile entries fits = λ no. tail_decided scan bytes fault.OutOfFile fits.answer_is
tail_means scan file bytes fault.BadTypes entries fits = λ no. tail_decided scan bytes fault.BadTypes fits.answer_is
tail_means scan file bytes fault.TooLarge entries fits = λ no. tail_decided scan bytes fault.TooLarge fits.answer_is
tail_means scan file bytes fault.RootPresent entries fits = λ no. tail_decided scan bytes fault.RootPresent fits.answer_is
tail_means scan file bytes fault.StreamOutOfStripe entries fits = λ no. tail_decided scan bytes fault.StreamOutOfStripe fits.answer_is
tail_means scan file bytes (fault.Read why) entries fits = λ no. absurd (no refl)
tail_means scan file bytes fault.NoMemory entries fits = tt

module _ {S : Type 0} (did : S → List Act → S → Type 0) (count : S → ℕ) (files : Option Files) (file : FileRef) (scan : Scan) where
  -- memory was refused before anything was read
  pub begin_refused : ((reader : S) → did reader [] reader) → (reader : S) → ScansFile did count files file scan reader reader (Err (record {}))
  begin_refused nothing reader = record {
    acts = [];
    by = nothing reader;
    are = record {
      entries = [];
      rest = [];
      found = Err fault.NoMemory;
      acts_are = refl;
      own = tt;
      tail_read = λ bytes has. record { front = []; rest = (tail_plan file bytes).reads; planned_is = refl; entries_are = refl };
      then_is = (refl, refl);
    };
    cause = record { later = omega arith; failed = λ e. absurd cc };
    is_for = tt;
    means = λ bytes has. tt;
  }

  module _ (went : S → List ReadEntry → S → Type 0) (rises : S → ℕ) (one_count : (reader : S) → rises reader ≡ count reader)
      (did_read : (first last : S) (entries : List ReadEntry) → went first entries last → did first (read_acts entries) last) (before between : S) where
    -- the tail is refused
    pub tail_stops : (why : TailFault) → Followed went rises files file ending (tail_plan file) before between (Err why)
        → ScansFile did count files file scan before between (tail_outcome why)
    tail_stops why f = record {
      acts = read_acts f.entries;
      by = did_read before between f.entries f.by;
      are = record {
        entries = f.entries;
        rest = [];
        found = Err why;
        acts_are = sym (append-nil (read_acts f.entries));
        own = f.own;
        tail_read = f.fits;
        then_is = (refl, refl);
      };
      cause = record {
        later = omega (arith, f.cause.later, one_count before, one_count between);
        failed = λ e. rw (sym (one_count before), sym (one_count between)) (f.cause.failed (tail_read why e));
      };
      is_for = tail_is_for scan why;
      means = λ bytes has. tail_means scan file bytes why f.entries (f.fits bytes has);
    }

    -- it was found
    pub tail_then : ((first between last : S) (front back : List Act) → did first front between → did between back last → did first (front ++ back) last)
        → (parts : Tail) (after : S) (answer : Result Outcome NoMemory) → Followed went rises files file ending (tail_plan file) before between (Ok parts)
        → ScansParts did count files file scan parts between after answer → ScansFile did count files file scan before after answer
    tail_then did_joined parts after answer f p = record {
      acts = read_acts f.entries ++ p.acts;
      by = did_joined before between after (read_acts f.entries) p.acts (did_read before between f.entries f.by) p.by;
      are = record {
        entries = f.entries;
        rest = p.acts;
        found = Ok parts;
        acts_are = refl;
        own = f.own;
        tail_read = f.fits;
        then_is = p.rest;
      };
      cause = cause_then (count before) (count between) (count after) (IsReadFault answer) (omega (arith, f.cause.later, one_count before, one_count between)) p.cause;
      is_for = p.is_for;
      means = λ bytes has.
          let is = tail_is file bytes parts f.entries (f.fits bytes has) in
          decided_map answer (IsOutcomeOfColumns scan bytes parts.stripes (scan_columns scan parts.columns)) (IsOutcomeOn scan (Some bytes))
          (λ o q. subst (λ (t : Result Tail TailFault). IsOutcomeOfTail scan bytes t o) (sym is) q) (p.means bytes has is);
    }

-- The rows of a file's stripes are folded, or they break.
use Rattle.std.proofs.Common.{◌≡◌, ℕ, ◌<◌, ◌≤◌, ◌^◌, Bool, true, false, if◌then◌else◌, List, length, Option, Some, None, Result, Ok, Err, refl, sym, ap, subst, ◌∙◌, arith, inl, inr, ◌⊎◌}
use Rattle.std.specs.Prelude.{slice_get, option_map}
use Rattle.std.proofs.lemmas.Option.{slice_get_within, get_or_from_slice_get}
use Rattle.std.proofs.lemmas.List.Elements.{All-get_or}
use Rattle.outside.specs.declared.failed.Failed.{Failed}
use Rattle.outside.specs.declared.failed.NoMemory.{NoMemory}
use Rattle.outside.specs.declared.file_ref.FileRef.{FileRef}
use Rattle.outside.specs.Files.{File, Files, AreFiles, HasBytes}
use Rattle.orc_tail.specs.declared.tail.Tail.{Tail}
use Rattle.orc_streams.specs.declared.layout.ReadColumn.{ReadColumn}
use Rattle.orc_streams.specs.Acts.{Act}
use Rattle.orc_batches.specs.Batch.{Piece}
use Rattle.orc_rows.specs.declared.fault.RowsFault.{RowsFault}
use Rattle.orc_rows.specs.Given.{values_in}
use Rattle.orc_rows.specs.Rows.{HaveRows}
use Rattle.orc_walk.specs.declared.stop.Stop.{Stop}
use Rattle.orc_walk.specs.declared.stop.Stop.TheVariants as stop
use Rattle.orc_walk.specs.StripeWalk.{WalksStripes}
use Rattle.fragment_outcome.specs.declared.answer.Answer.{Answer}
use Rattle.fragment_outcome.specs.declared.failure.Failure.{Failure}
use Rattle.fragment_outcome.specs.declared.failure.Failure.TheVariants as failure
use Rattle.fragment_outcome.specs.declared.outcome.Outcome.{Outcome}
use Rattle.fragment_folds.specs.declared.faults.Overflow.{Overflow}
use Rattle.fragment_folds.specs.Folding.{FoldOf, begun, finished}
use Rattle.fragment_meaning.specs.ScanColumns.{by_number}
use Rattle.fragment_meaning.specs.ScanOutcome.{failed, answered, IsOutcomeOfStripes, has_rows, breaks}
use Rattle.fold_consumer.specs.Pieces.{with_pieces, Passes}
use Rattle.fold_consumer.specs.Folding.{FoldingOf, Ate}
use Rattle.fold_consumer.specs.Laws.{FoldsTheRows, WalksFoldTheRows}
use Rattle.row_bounds.specs.Bounds.{AreBytes}
use Rattle.row_bounds.specs.Laws.{TailsAreBounded}
use Rattle.tail_faults.specs.Laws.{StripeFootersHaveThreeFaults}
use Rattle.scan_failures.specs.Faults.{broken_failure}
use Rattle.fragment_scan.specs.Outcomes.{IsOutcomeFor}
use Rattle.fragment_scan.specs.Scanned.{FoldsStripes}
use Rattle.fragment_scan.specs.Scanned.Walked.{whole as walked_whole, stopped as walked_stopped}
use Rattle.fragment_scan.proofs.Forms.{fold_is_for, answered_no_read, broken_no_read, broken_is_for, broken_so}

-- ---- told files hold bytes

the_bytes : (f : File) (bytes : List ℕ) → option_map (λ (g : File). g.1) (Some f) ≡ Some bytes → f.1 ≡ bytes
the_bytes f bytes e = cc

bytes_among : (files : Files) (number : ℕ) (o : Option File) (bytes : List ℕ) → AreFiles files → slice_get files number ≡ o → option_map (λ (g : File). g.1) o ≡ Some bytes → AreBytes bytes
bytes_among files number None bytes are at e = absurd cc
bytes_among files number (Some f) bytes are at e =
    let within = slice_get_within files number f at in
    let here = All-get_or (λ (g : File). AreBytes g.1) files number f within are.bytes in
    subst AreBytes (ap (λ (g : File). g.1) (get_or_from_slice_get files number f f at) ∙ the_bytes f bytes e) here

told_bytes : (files : Option Files) (file : FileRef) (bytes : List ℕ) → ((told : Files) → files ≡ Some told → AreFiles told) → HasBytes files file bytes → AreBytes bytes
told_bytes None file bytes are has = let e = has.bytes_are in absurd cc
told_bytes (Some told) file bytes are has = bytes_among told file.number (slice_get told file.number) bytes (are told refl) refl has.bytes_are

-- ---- the answer of a fold that took all pieces

abbrev start : List ReadColumn → FoldOf → FoldingOf
start named fold = record { named = named; fold = fold; over = false }

abbrev refused : Result Answer Overflow
refused = Err (record {})

abbrev ended : FoldingOf → Result Answer Overflow
ended last = if last.over then refused else finished last.fold.state

ends : (last : FoldingOf) (b : Bool) → last.over ≡ b → ended last ≡ (if b then refused else finished last.fold.state)
ends last b is = ap (λ (t : Bool). if t then refused else finished last.fold.state) is

is_for_by : (named : List ReadColumn) (fold : FoldOf) (pieces : List Piece) (last : FoldingOf) (b : Bool) → last.over ≡ b → fold ≡ begun fold.scan → Ate (start named fold) pieces last
    → IsOutcomeFor fold.scan (answered (ended last))
is_for_by named fold pieces last true over begins ate = subst (λ (a : Result Answer Overflow). IsOutcomeFor fold.scan (answered a)) (sym (ends last true over)) tt
is_for_by named fold pieces last false goes begins ate =
    let same = (ate.folds goes).1 ∙ ap (λ (f : FoldOf). with_pieces named f pieces) begins in
    subst (λ (a : Result Answer Overflow). IsOutcomeFor fold.scan (answered a))
    (sym (ends last false goes ∙ ap (λ (f : FoldOf). finished f.state) same)) (fold_is_for fold.scan named pieces)

too_many : (count : ℕ) → 2 ^ 63 ≤ count → count < 2 ^ 62 → ⊥
too_many count many few = omega arith

never_over : (named : List ReadColumn) (fold : FoldOf) (pieces : List Piece) (count : ℕ) → fold ≡ begun fold.scan → FoldsTheRows fold.scan named count pieces
    → (0 < length (by_number named) → count < 2 ^ 62) → (false ≡ true) ⊎ Passes named fold pieces → ⊥
never_over named fold pieces count begins folds few (inl wrong) = absurd cc
never_over named fold pieces count begins folds few (inr passes) =
    let p = folds.passes (subst (λ (f : FoldOf). Passes named f pieces) begins passes) in
    too_many count p.1 (few p.0)

answer_by : (bytes : List ℕ) (parts : Tail) (named : List ReadColumn) (fold : FoldOf) (pieces : List Piece) (count : ℕ) (last : FoldingOf) (b : Bool) → last.over ≡ b → fold ≡ begun fold.scan
    → Ate (start named fold) pieces last → FoldsTheRows fold.scan named count pieces → (0 < length (by_number named) → count < 2 ^ 62)
    → HaveRows bytes (by_number named) parts.stripes (record { count = count; columns = values_in (by_number named) pieces })
    → IsOutcomeOfStripes fold.scan bytes parts.stripes named (answered (ended last))
answer_by bytes parts named fold pieces count last true over begins ate folds few have = absurd (never_over named fold pieces count begins folds few (ate.over over))
answer_by bytes parts named fold pieces count last false goes begins ate folds few have =
    let same = (ate.folds goes).1 ∙ ap (λ (f : FoldOf). with_pieces named f pieces) begins ∙ folds.folds in
    subst (λ (a : Result Answer Overflow). IsOutcomeOfStripes fold.scan bytes parts.stripes named (answered a))
    (sym (ends last false goes ∙ ap (λ (f : FoldOf). finished f.state) same)) (has_rows have)

-- ---- what a walk was

module _ {S : Type 0} (did : S → List Act → S → Type 0) (count : S → ℕ) (files : Option Files) (file : FileRef) (parts : Tail) (named : List ReadColumn) (fold : FoldOf) (before after : S) where
  abbrev Walks : {Y : Type 0} → List ReadColumn → FoldingOf → Result Y (Stop RowsFault) → Type 0
  Walks read last answer = WalksStripes did count files (λ first pieces last. Ate first pieces last) file read parts.stripes before after (start named fold) last answer

  abbrev Folds : Result Outcome NoMemory → Type 0
  Folds answer = FoldsStripes did count files file fold.scan parts named before after answer

  whole : {Y : Type 0} (y : Y) → WalksFoldTheRows → TailsAreBounded → ((told : Files) → files ≡ Some told → AreFiles told) → fold ≡ begun fold.scan
      → (last : FoldingOf) → Walks (by_number named) last (Ok y) → Folds (Ok (answered (ended last)))
  whole y law bounded are begins last w = record {
    acts = w.acts;
    by = w.by;
    rest = walked_whole (ended last) w.walk;
    cause = record { later = w.cause.later; failed = λ e. absurd (answered_no_read (ended last) e) };
    is_for = is_for_by named fold w.pieces last last.over refl begins w.eaten;
    means = λ bytes has tail_is. λ no_fault.
        let have = w.has bytes has in
        let folds = law files file bytes fold.scan named parts.stripes w.pieces w.acts have.0 w.walk have.1 in
        let few = λ (some : 0 < length (by_number named)). bounded bytes parts (by_number named) _ (told_bytes files file bytes are has) some tail_is have.1 in
        answer_by bytes parts named fold w.pieces have.0 last last.over refl begins w.eaten folds few have.1;
  }

  broke : {Y : Type 0} → StripeFootersHaveThreeFaults → (last : FoldingOf) (why : RowsFault) → Walks {Y = Y} (by_number named) last (Err (stop.Fault why)) → Folds (Ok (failed (broken_failure why)))
  broke three last why w = record {
    acts = w.acts;
    by = w.by;
    rest = walked_stopped (stop.Fault why) w.stops;
    cause = record { later = w.cause.later; failed = λ e. absurd (broken_no_read why e) };
    is_for = broken_is_for why w.content;
    means = λ bytes has tail_is. λ no_fault.
        let fails = w.fails bytes has in
        subst (λ (f : Failure). IsOutcomeOfStripes fold.scan bytes parts.stripes named (failed f))
        (sym (broken_so three bytes (by_number named) 0 parts.stripes why fails)) (breaks fails);
  }

  unread : {Y : Type 0} (last : FoldingOf) (why : Failed) → Walks {Y = Y} (by_number named) last (Err (stop.Read why)) → Folds (Ok (failed failure.ReadFault))
  unread last why w = record {
    acts = w.acts;
    by = w.by;
    rest = walked_stopped (stop.Read why) w.stops;
    cause = record { later = w.cause.later; failed = λ e. w.cause.failed tt };
    is_for = tt;
    means = λ bytes has tail_is. λ no_fault. absurd (no_fault refl);
  }

  unkept : {Y : Type 0} (last : FoldingOf) → Walks {Y = Y} (by_number named) last (Err stop.NoMemory) → Folds (Err (record {}))
  unkept last w = record {
    acts = w.acts;
    by = w.by;
    rest = walked_stopped stop.NoMemory w.stops;
    cause = record { later = w.cause.later; failed = λ e. absurd cc };
    is_for = tt;
    means = λ bytes has tail_is. tt;
  }

  -- ---- the same by the columns that are read

  pub folds_whole : {Y : Type 0} (y : Y) → WalksFoldTheRows → TailsAreBounded → ((told : Files) → files ≡ Some told → AreFiles told) → fold ≡ begun fold.scan
      → (read : List ReadColumn) (last : FoldingOf) (a : Result Answer Overflow) → read ≡ by_number named → a ≡ ended last → Walks read last (Ok y) → Folds (Ok (answered a))
  folds_whole y law bounded are begins read last a is ends_so w =
      subst (λ (x : Result Answer Overflow). Folds (Ok (answered x))) (sym ends_so) (whole y law bounded are begins last (subst (λ (r : List ReadColumn). Walks r last (Ok y)) is w))

  pub folds_broke : {Y : Type 0} → StripeFootersHaveThreeFaults → (read : List ReadColumn) (last : FoldingOf) (why : RowsFault) → read ≡ by_number named → Walks {Y = Y} read last (Err (stop.Fault why))
      → Folds (Ok (failed (broken_failure why)))
  folds_broke {Y} three read last why is w = broke {Y = Y} three last why (subst (λ (r : List ReadColumn). Walks {Y = Y} r last (Err (stop.Fault why))) is w)

  pub folds_unread : {Y : Type 0} (read : List ReadColumn) (last : FoldingOf) (why : Failed) → read ≡ by_number named → Walks {Y = Y} read last (Err (stop.Read why)) → Folds (Ok (failed failure.ReadFault))
  folds_unread {Y} read last why is w = unread {Y = Y} last why (subst (λ (r : List ReadColumn). Walks {Y = Y} r last (Err (stop.Read why))) is w)

  pub folds_unkept : {Y : Type 0} (read : List ReadColumn) (last : FoldingOf) → read ≡ by_number named → Walks {Y = Y} read last (Err stop.NoMemory) → Folds (Err (record {}))
  folds_unkept {Y} read last is w = unkept {Y = Y} last (subst (λ (r : List ReadColumn). Walks {Y = Y} r last (Err stop.NoMemory)) is w)

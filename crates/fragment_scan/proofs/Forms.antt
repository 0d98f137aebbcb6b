-- Which outcomes come of folds and of faults.
use Rattle.std.proofs.Common.{◌≡◌, ℕ, ◌+◌, ◌^◌, Bool, true, false, if◌then◌else◌, nat_lt, List, [], ◌∷◌, Option, Some, None, Result, Ok, Err, refl, sym, subst}
use Rattle.orc_values.specs.declared.value.Value.{Value}
use Rattle.orc_tail.specs.declared.fault.TailFault.{TailFault}
use Rattle.orc_tail.specs.declared.fault.TailFault.TheVariants as fault
use Rattle.orc_tail.specs.declared.columns.TopColumn.{TopColumn}
use Rattle.orc_tail.specs.declared.stripe.Stripe.{Stripe}
use Rattle.orc_streams.specs.declared.layout.ReadColumn.{ReadColumn}
use Rattle.orc_batches.specs.Batch.{Piece}
use Rattle.orc_batches.specs.Batch.{columns as of_columns, count as of_count}
use Rattle.orc_rows.specs.declared.fault.RowsFault.{RowsFault}
use Rattle.orc_rows.specs.declared.fault.RowsFault.TheVariants as broken
use Rattle.orc_rows.specs.Rows.{StripeFails, FirstFails}
use Rattle.orc_rows.specs.Rows.StripeFails.{at_footer, at_column}
use Rattle.orc_rows.specs.Rows.FirstFails.{here as fails_here, later as fails_later}
use Rattle.orc_walk.specs.Stops.{IsRowsContent}
use Rattle.fragment_plan.specs.declared.fragment.Scan.{Scan}
use Rattle.fragment_plan.specs.declared.fragment.FoldKind.{FoldKind}
use Rattle.fragment_plan.specs.declared.fragment.FoldKind.TheVariants as kind
use Rattle.group_counts.specs.Entries.{all_fit}
use Rattle.batch_masks.specs.Rows.{passing}
use Rattle.batch_masks.specs.declared.total.Total.{Total}
use Rattle.fragment_outcome.specs.declared.answer.Answer.{Answer}
use Rattle.fragment_outcome.specs.declared.answer.Answer.TheVariants as answer
use Rattle.fragment_outcome.specs.declared.failure.Failure.{Failure}
use Rattle.fragment_outcome.specs.declared.failure.Failure.TheVariants as failure
use Rattle.fragment_outcome.specs.declared.outcome.Outcome.{Outcome}
use Rattle.fragment_outcome.specs.declared.outcome.Outcome.TheVariants as outcome
use Rattle.fragment_folds.specs.declared.faults.Overflow.{Overflow}
use Rattle.fold_rows.specs.declared.state.State.{State}
use Rattle.fold_rows.specs.declared.state.State.TheVariants as state
use Rattle.fold_rows.specs.States.{nothing, with_rows}
use Rattle.fragment_folds.specs.Folding.{FoldOf, begun, folded, finished, is_i64}
use Rattle.fragment_meaning.specs.ScanColumns.{columns_named, first_misfit, if_serving, if_named, scan_columns}
use Rattle.fragment_meaning.specs.ScanOutcome.{failed, answered, rows_failure}
use Rattle.fold_consumer.specs.Pieces.{with_piece, with_pieces}
use Rattle.tail_faults.specs.Laws.{IsFooterFault, StripeFootersHaveThreeFaults}
use Rattle.scan_failures.specs.Faults.{footer_failure, broken_failure}
use Rattle.fragment_scan.specs.Outcomes.{IsScanFailure, IsAnswerFor, IsOutcomeFor}
use Rattle.fragment_scan.specs.Scanned.{IsReadFault}

-- ---- a fold ends in its own form

-- what a fold of that kind has
abbrev StateFor : FoldKind → State → Type 0
StateFor (kind.Rows places) (state.Rows table) = Unit {0}
StateFor kind.Count (state.Count number) = Unit {0}
StateFor (kind.Sum place) (state.Sum total) = Unit {0}
StateFor (kind.Group place) (state.Group counts) = Unit {0}
StateFor fold other = ⊥

begins_so : (fold : FoldKind) → StateFor fold (nothing fold)
begins_so (kind.Rows places) = tt
begins_so kind.Count = tt
begins_so (kind.Sum place) = tt
begins_so (kind.Group place) = tt

goes_on_so : (fold : FoldKind) (s : State) (rows : List (List Value)) → StateFor fold s → StateFor fold (with_rows fold s rows)
goes_on_so (kind.Rows places) (state.Rows table) rows is = tt
goes_on_so (kind.Rows places) (state.Count number) rows is = absurd is
goes_on_so (kind.Rows places) (state.Sum total) rows is = absurd is
goes_on_so (kind.Rows places) (state.Group counts) rows is = absurd is
goes_on_so kind.Count (state.Rows table) rows is = absurd is
goes_on_so kind.Count (state.Count number) rows is = tt
goes_on_so kind.Count (state.Sum total) rows is = absurd is
goes_on_so kind.Count (state.Group counts) rows is = absurd is
goes_on_so (kind.Sum place) (state.Rows table) rows is = absurd is
goes_on_so (kind.Sum place) (state.Count number) rows is = absurd is
goes_on_so (kind.Sum place) (state.Sum total) rows is = tt
goes_on_so (kind.Sum place) (state.Group counts) rows is = absurd is
goes_on_so (kind.Group place) (state.Rows table) rows is = absurd is
goes_on_so (kind.Group place) (state.Count number) rows is = absurd is
goes_on_so (kind.Group place) (state.Sum total) rows is = absurd is
goes_on_so (kind.Group place) (state.Group counts) rows is = tt

-- a fold has what a fold of its scan's kind has
record Formed (scan : Scan) (f : FoldOf) : Type 0 where
  of : f.scan ≡ scan
  state_is : StateFor scan.fold f.state

formed_more : (scan : Scan) (f : FoldOf) (rows : List (List Value)) → Formed scan f → Formed scan (folded f rows)
formed_more scan f rows formed = record {
  of = formed.of;
  state_is = subst (λ (s : Scan). StateFor scan.fold (with_rows s.fold f.state (passing f.scan.tests rows))) (sym formed.of)
      (goes_on_so scan.fold f.state (passing f.scan.tests rows) formed.state_is);
}

formed_piece : (scan : Scan) (named : List ReadColumn) (f : FoldOf) (piece : Piece) → Formed scan f → Formed scan (with_piece named f piece)
formed_piece scan named f (of_columns batch) formed = formed_more scan f _ formed
formed_piece scan named f (of_count rows) formed = formed_more scan f _ formed

formed_pieces : (scan : Scan) (named : List ReadColumn) (f : FoldOf) (pieces : List Piece) → Formed scan f → Formed scan (with_pieces named f pieces)
formed_pieces scan named f [] formed = formed
formed_pieces scan named f (piece ∷ pieces) formed = formed_pieces scan named (with_piece named f piece) pieces (formed_piece scan named f piece formed)

-- an outcome by the kind of fold
abbrev ByKind : FoldKind → Outcome → Type 0
ByKind fold (outcome.Answer a) = IsAnswerFor fold a
ByKind fold (outcome.Failure why) = IsScanFailure why

by_scan : (scan : Scan) (o : Outcome) → ByKind scan.fold o → IsOutcomeFor scan o
by_scan scan (outcome.Answer a) is = is
by_scan scan (outcome.Failure why) is = is

ends_by : (fold : FoldKind) (t : Bool) (a : Answer) → IsAnswerFor fold a → ByKind fold (answered (if t then Ok a else Err (record {})))
ends_by fold true a is = is
ends_by fold false a is = tt

sum_by : (place : ℕ) (some fits : Bool) (total : Total)
    → ByKind (kind.Sum place) (answered (if some then (if fits then Ok (answer.Sum (Some total.sum)) else Err (record {})) else Ok (answer.Sum None)))
sum_by place true fits total = ends_by (kind.Sum place) fits (answer.Sum (Some total.sum)) tt
sum_by place false fits total = tt

ends_so : (fold : FoldKind) (s : State) → StateFor fold s → ByKind fold (answered (finished s))
ends_so (kind.Rows places) (state.Rows table) is = tt
ends_so (kind.Rows places) (state.Count number) is = absurd is
ends_so (kind.Rows places) (state.Sum total) is = absurd is
ends_so (kind.Rows places) (state.Group counts) is = absurd is
ends_so kind.Count (state.Rows table) is = absurd is
ends_so kind.Count (state.Count number) is = ends_by kind.Count (nat_lt number (2 ^ 63)) _ tt
ends_so kind.Count (state.Sum total) is = absurd is
ends_so kind.Count (state.Group counts) is = absurd is
ends_so (kind.Sum place) (state.Rows table) is = absurd is
ends_so (kind.Sum place) (state.Count number) is = absurd is
ends_so (kind.Sum place) (state.Sum total) is = sum_by place total.some (is_i64 total.sum) total
ends_so (kind.Sum place) (state.Group counts) is = absurd is
ends_so (kind.Group place) (state.Rows table) is = absurd is
ends_so (kind.Group place) (state.Count number) is = absurd is
ends_so (kind.Group place) (state.Sum total) is = absurd is
ends_so (kind.Group place) (state.Group counts) is = ends_by (kind.Group place) (all_fit counts) (answer.Group counts) tt

-- the outcome of a scan's fold, whatever pieces it took
pub fold_is_for : (scan : Scan) (named : List ReadColumn) (pieces : List Piece) → IsOutcomeFor scan (answered (finished (with_pieces named (begun scan) pieces).state))
fold_is_for scan named pieces =
    let formed = formed_pieces scan named (begun scan) pieces (record { of = refl; state_is = begins_so scan.fold }) in
    by_scan scan (answered (finished (with_pieces named (begun scan) pieces).state)) (ends_so scan.fold (with_pieces named (begun scan) pieces).state formed.state_is)

pub answered_no_read : (a : Result Answer Overflow) → IsReadFault (Ok (answered a)) → ⊥
answered_no_read (Ok x) e = absurd cc
answered_no_read (Err why) e = absurd cc

-- ---- rows that break

pub broken_no_read : (why : RowsFault) → IsReadFault (Ok (failed (broken_failure why))) → ⊥
broken_no_read (broken.BrokenFooter stripe fault.TooShort) e = absurd cc
broken_no_read (broken.BrokenFooter stripe fault.NotOrc) e = absurd cc
broken_no_read (broken.BrokenFooter stripe (fault.Compressed kind)) e = absurd cc
broken_no_read (broken.BrokenFooter stripe (fault.Wire wire)) e = absurd cc
broken_no_read (broken.BrokenFooter stripe fault.OutOfFile) e = absurd cc
broken_no_read (broken.BrokenFooter stripe fault.BadTypes) e = absurd cc
broken_no_read (broken.BrokenFooter stripe fault.TooLarge) e = absurd cc
broken_no_read (broken.BrokenFooter stripe fault.RootPresent) e = absurd cc
broken_no_read (broken.BrokenFooter stripe fault.StreamOutOfStripe) e = absurd cc
broken_no_read (broken.BrokenFooter stripe (fault.Read failed)) e = absurd cc
broken_no_read (broken.BrokenFooter stripe fault.NoMemory) e = absurd cc
broken_no_read (broken.BrokenColumn stripe column why) e = absurd cc

pub broken_is_for : (why : RowsFault) → IsRowsContent why → IsScanFailure (broken_failure why)
broken_is_for (broken.BrokenFooter stripe fault.TooShort) is = tt
broken_is_for (broken.BrokenFooter stripe fault.NotOrc) is = tt
broken_is_for (broken.BrokenFooter stripe (fault.Compressed kind)) is = tt
broken_is_for (broken.BrokenFooter stripe (fault.Wire wire)) is = tt
broken_is_for (broken.BrokenFooter stripe fault.OutOfFile) is = tt
broken_is_for (broken.BrokenFooter stripe fault.BadTypes) is = tt
broken_is_for (broken.BrokenFooter stripe fault.TooLarge) is = tt
broken_is_for (broken.BrokenFooter stripe fault.RootPresent) is = tt
broken_is_for (broken.BrokenFooter stripe fault.StreamOutOfStripe) is = tt
broken_is_for (broken.BrokenFooter stripe (fault.Read failed)) is = absurd is
broken_is_for (broken.BrokenFooter stripe fault.NoMemory) is = absurd is
broken_is_for (broken.BrokenColumn stripe column why) is = is

footer_so : (stripe : ℕ) (why : TailFault) → IsFooterFault why → footer_failure stripe why ≡ failure.BrokenFooter stripe why
footer_so stripe fault.TooShort is = absurd is
footer_so stripe fault.NotOrc is = absurd is
footer_so stripe (fault.Compressed kind) is = absurd is
footer_so stripe (fault.Wire wire) is = refl
footer_so stripe fault.OutOfFile is = absurd is
footer_so stripe fault.BadTypes is = absurd is
footer_so stripe fault.TooLarge is = absurd is
footer_so stripe fault.RootPresent is = refl
footer_so stripe fault.StreamOutOfStripe is = refl
footer_so stripe (fault.Read failed) is = absurd is
footer_so stripe fault.NoMemory is = absurd is

stripe_so : StripeFootersHaveThreeFaults → (bytes : List ℕ) (number : ℕ) (stripe : Stripe) (columns : List ReadColumn) (why : RowsFault)
    → StripeFails bytes number stripe columns why → broken_failure why ≡ rows_failure why
stripe_so three bytes number stripe columns why (at_footer {fault} is) = footer_so number fault (three bytes stripe fault is)
stripe_so three bytes number stripe columns why (at_column footer is fails) = refl

-- the failure of a file is that of its rows: a footer names no compression
pub broken_so : StripeFootersHaveThreeFaults → (bytes : List ℕ) (columns : List ReadColumn) (number : ℕ) (stripes : List Stripe) (why : RowsFault)
    → FirstFails bytes columns number stripes why → broken_failure why ≡ rows_failure why
broken_so three bytes columns number stripes why (fails_here {stripe} fails) = stripe_so three bytes number stripe columns why fails
broken_so three bytes columns number stripes why (fails_later {stripes = others} values has fails) = broken_so three bytes columns (number + 1) others why fails

-- ---- columns that can't be read

abbrev pub Misses : Failure → Type 0
Misses why = IsScanFailure why × (IsReadFault (Ok (failed why)) → ⊥)

abbrev not_found : Failure → Result (List ReadColumn) Failure
not_found why = Err why

same_failure : (a b : Failure) → not_found a ≡ not_found b → a ≡ b
same_failure a b e = cc

missing_so : (name : List ℕ) → Misses (failure.NoColumn name)
missing_so name = (tt, λ e. absurd cc)

misfit_so : (name : List ℕ) → Misses (failure.WrongKind name)
misfit_so name = (tt, λ e. absurd cc)

serving_so : (columns : List ReadColumn) (o : Option (List ℕ)) (why : Failure) → if_serving columns o ≡ Err why → Misses why
serving_so columns None why e = absurd cc
serving_so columns (Some name) why e = subst Misses (same_failure (failure.WrongKind name) why e) (misfit_so name)

named_so : (scan : Scan) (r : Result (List ReadColumn) (List ℕ)) (why : Failure) → if_named scan r ≡ Err why → Misses why
named_so scan (Err name) why e = subst Misses (same_failure (failure.NoColumn name) why e) (missing_so name)
named_so scan (Ok columns) why e = serving_so columns (first_misfit scan 0 scan.columns columns) why e

pub columns_so : (scan : Scan) (tops : List TopColumn) (why : Failure) → scan_columns scan tops ≡ Err why → Misses why
columns_so scan tops why e = named_so scan (columns_named tops scan.columns) why e

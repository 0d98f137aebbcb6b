-- Steps that change no word and nothing in the pool: loads, and exchanges that fail.
use Rattle.std.proofs.Common.{◌≡◌, ℕ, ◌<◌, List, [], ◌++◌, length, get_or, set, refl, sym, ap, ◌∙◌, subst, arith}
use Rattle.std.specs.Prelude.{Option, None, Some, option_map, IfSome}
use Rattle.std.proofs.lemmas.List.{set-get_or, append-nil}
use mathlib.Core.Option.{some}
use lib.ListN.{get_elem?}
use Rattle.pool_model.specs.declared.pool.PlainPool.{PlainPool}
use Rattle.pool_model.specs.declared.step.Step.{Step}
use Rattle.pool_model.specs.Content.{Files}
use Rattle.pool_model.specs.Pool.{buffer_at}
use Rattle.pool_rule.specs.declared.geometry.Setup.{Setup}
use Rattle.pool_rule.specs.declared.view.Access.{Access}
use Rattle.pool_rule.specs.declared.view.Mark.{Mark}
use Rattle.pool_rule.specs.declared.view.View.{View}
use Rattle.pool_rule.specs.Headers.{hold_count}
use Rattle.pool_rule.specs.Layout.{headers_of}
use Rattle.pool_rule.specs.Rule.{Kept, StandsFor, StandsForBuffer, AreBits, view_at, cells_in, count_of, marks_of}
use Rattle.pool_rule.specs.Seats.{mark_at, granted_at, spent, noted, Told}
use Rattle.pool_rule.proofs.Frame.{IsAlike, below, is_view, own, stands_after, header_again}
use Rattle.pool_rule.proofs.Lists.{same_at, total-set}
use Rattle.pool_rule.proofs.Story.{story_same}

-- the seats' granted blocks are as they were
pub grants_stay : (views : List View) (id : ℕ) (w : View) → id < length views → ((place : ℕ) → granted_at w place ≡ granted_at (view_at views id) place) → (seat place : ℕ) → granted_at (view_at (set views id w) seat) place ≡ granted_at (view_at views seat) place
grants_stay views id w below same seat place = same_at (λ u. granted_at u place) views id w spent below (same place) seat

module _ (files : Option Files) (setup : Setup) (words : List ℕ) (views : List View) (log : List Step) (pool : PlainPool) (h : StandsFor files setup words views log pool) (id : ℕ) (v : View) (at : get_elem? views id ≡ some v) (live : 0 < length v.numbers) where
  -- no word changes, and of a header and of blocks the seat has what it had
  pub quiet : (i n : ℕ) (w : View) → n ≡ get_or words i 0 → IsAlike v w → w.known ≡ option_map (λ ws. set ws i n) v.known → w.steps ≡ v.steps → ((header : ℕ) → header < headers_of setup.geometry → StandsForBuffer setup.geometry words (set views id w) pool header) → ((place : ℕ) → granted_at w place ≡ granted_at v place) → StandsFor files setup (set words i n) (set views id w) (log ++ []) pool
  quiet i n w found like knows steps headers granted =
      let inside = below files setup words views log pool h id v at live in
      let is = is_view files setup words views log pool h id v at live in
      let same : set words i n ≡ words = ap (set words i) found ∙ set-get_or words i 0 in
      let H : List ℕ → Type 0 = λ ws. (header : ℕ) → header < headers_of setup.geometry → StandsForBuffer setup.geometry ws (set views id w) pool header in
      let B : List ℕ → Type 0 = λ ws. AreBits setup.geometry ws pool in
      stands_after files setup words views log pool h id v at live i n w like knows [] (steps ∙ sym (append-nil v.steps)) refl (λ s apart. refl) pool
      (story_same files setup.geometry (length views) log pool h.story)
      (subst H (sym same) headers)
      (λ seat place. grants_stay views id w inside (λ p. granted p ∙ sym (ap (λ u. granted_at u p) is)) seat place ∙ h.grants seat place)
      (subst B (sym same) h.bits)

  -- a header of which the seat has what it had stands for its buffer as before
  pub header_seen : (w : View) (header : ℕ) → header < headers_of setup.geometry → mark_at w header ≡ mark_at v header → StandsForBuffer setup.geometry words (set views id w) pool header
  header_seen w header inside mark =
      let below_id = below files setup words views log pool h id v at live in
      let is = is_view files setup words views log pool h id v at live in
      let here : mark_at w header ≡ mark_at (view_at views id) header = mark ∙ sym (ap (λ u. mark_at u header) is) in
      let change = total-set (λ _ u. hold_count (mark_at u header).hold) views id w spent below_id in
      let one : hold_count (mark_at w header).hold ≡ hold_count (mark_at (view_at views id) header).hold = ap (λ (m : Mark). hold_count m.hold) here in
      header_again setup.geometry _ _ (cells_in setup.geometry words) (count_of header views) (marks_of header views) (buffer_at pool header) _ _ (cells_in setup.geometry words) (count_of header (set views id w)) (marks_of header (set views id w)) refl refl (λ j. refl) (omega (arith, change, one))
      (same_at (λ u. mark_at u header) views id w spent below_id here) (h.headers header inside)

  -- what a seat that knows the words is told of one of them
  pub told : (i : ℕ) → Told v i (get_or words i 0)
  told i = told_of v.known i (own files setup words views log pool h id v at live).knows
    where
      told_of : (k : Option (List ℕ)) (i : ℕ) → IfSome k (λ ws. words ≡ ws) → IfSome k (λ ws. get_or ws i 0 ≡ get_or words i 0)
      told_of None i e = tt
      told_of (Some ws) i e = ap (λ xs. get_or xs i 0) (sym e)

  -- a step that changes nothing but trail and known words
  pub notes : (i : ℕ) (access : Access) → Kept files setup (set words i (get_or words i 0)) (set views id (noted i (get_or words i 0) (get_or words i 0) access v))
  unfolding noted
  notes i access = (
    log ++ [],
    (
      pool,
      quiet i (get_or words i 0) (noted i (get_or words i 0) (get_or words i 0) access v) refl
          (record { numbers = refl; geometry = refl; marks = refl; granted = refl }) refl refl
          (λ header inside. header_seen (noted i (get_or words i 0) (get_or words i 0) access v) header inside refl)
          (λ place. refl),
    ),
  )

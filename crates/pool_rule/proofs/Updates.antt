-- A word that stands for nothing of the pool changes: the rule is kept.
use Rattle.std.proofs.Common.{◌≡◌, ◌≢◌, ℕ, ◌+◌, ◌/◌, ◌%◌, ◌<◌, ◌≤◌, List, [], ◌++◌, length, get_or, set, refl, sym, ap, ◌∙◌, arith}
use Rattle.std.specs.Prelude.{Option}
use Rattle.std.specs.Int.{bit_at}
use Rattle.std.proofs.lemmas.List.{get_or-set_other, append-nil}
use mathlib.Core.Option.{some}
use lib.ListN.{get_elem?}
use Rattle.pool_model.specs.declared.pool.PlainPool.{PlainPool}
use Rattle.pool_model.specs.declared.step.Step.{Step}
use Rattle.pool_model.specs.Content.{Files}
use Rattle.pool_rule.specs.declared.geometry.Geometry.{Geometry}
use Rattle.pool_rule.specs.declared.geometry.Setup.{Setup}
use Rattle.pool_rule.specs.declared.geometry.WordName.{WordName}
use Rattle.pool_rule.specs.declared.geometry.WordName.TheVariants.{Arena, State, KeyOf, Touches, Last, Clock}
use Rattle.pool_rule.specs.declared.view.Access.{Access}
use Rattle.pool_rule.specs.declared.view.View.{View}
use Rattle.pool_rule.specs.Layout.{IsFreeWord, IsWord, cell_word, clock_word, header_word, headers_of, index_of}
use Rattle.pool_rule.specs.Rule.{Kept, StandsFor}
use Rattle.pool_rule.specs.Seats.{granted_at, noted}
use Rattle.pool_rule.proofs.Frame.{IsAlike, below, header_stays, is_view, stands_after}
use Rattle.pool_rule.proofs.Quiet.{grants_stay}
use Rattle.pool_rule.proofs.Story.{story_same}

-- the index is that of no arena, state, key or cell
record IsOutside (g : Geometry) (i : ℕ) : Type 0 where
  arenas : g.arenas ≤ i
  state : (header : ℕ) → header < headers_of g → header_word g header ≢ i
  key : (header : ℕ) → header < headers_of g → header_word g header + 1 ≢ i
  cells : i ≤ clock_word g

outside : (g : Geometry) (word : WordName) → IsFreeWord g word → IsOutside g (index_of g word)
outside g (Arena k) free = absurd free
outside g (State header) free = absurd free
outside g (KeyOf header) free = absurd free
outside g (Touches header) free = record {
  arenas = omega arith;
  state = λ other there e. omega (arith, e);
  key = λ other there e. omega (arith, e);
  cells = omega (arith, free);
}
outside g (Last header) free = record {
  arenas = omega arith;
  state = λ other there e. omega (arith, e);
  key = λ other there e. omega (arith, e);
  cells = omega (arith, free);
}
outside g Clock free = record {
  arenas = omega arith;
  state = λ other there e. omega (arith, e, there);
  key = λ other there e. omega (arith, e, there);
  cells = omega arith;
}

pub free_is_word : (g : Geometry) (word : WordName) → IsFreeWord g word → IsWord g word
free_is_word g (Arena k) free = absurd free
free_is_word g (State header) free = absurd free
free_is_word g (KeyOf header) free = absurd free
free_is_word g (Touches header) free = free
free_is_word g (Last header) free = free
free_is_word g Clock free = free

module _ (files : Option Files) (setup : Setup) (words : List ℕ) (views : List View) (log : List Step) (pool : PlainPool) (h : StandsFor files setup words views log pool) (id : ℕ) (v : View) (at : get_elem? views id ≡ some v) (live : 0 < length v.numbers) where
  updates_at : (i n : ℕ) (access : Access) → IsOutside setup.geometry i → Kept files setup (set words i n) (set views id (noted i (get_or words i 0) n access v))
  unfolding noted
  updates_at i n access out =
      let g = setup.geometry in
      let w = noted i (get_or words i 0) n access v in
      let below_id = below files setup words views log pool h id v at live in
      let is = is_view files setup words views log pool h id v at live in
      let like : IsAlike v w = record { numbers = refl; geometry = refl; marks = refl; granted = refl } in (
        log ++ [],
        (
          pool,
          stands_after files setup words views log pool h id v at live i n w like refl [] (sym (append-nil v.steps)) refl (λ s apart. refl) pool
              (story_same files g (length views) log pool h.story)
              (λ header there.
              header_stays files setup words views log pool h id v at live i n w like refl [] (sym (append-nil v.steps)) refl (λ s apart. refl) header there refl
              (get_or-set_other words i (header_word g header) n 0 (out.state header there))
              (get_or-set_other words i (header_word g header + 1) n 0 (out.key header there))
              (λ j. get_or-set_other words i (cell_word g j) n 0 (λ e. omega (arith, e, out.cells))))
              (λ seat place. grants_stay views id w below_id (λ p. sym (ap (λ u. granted_at u p) is)) seat place ∙ h.grants seat place)
              (λ k there.
              let arena : get_or (set words i n) (k / 64) 0 ≡ get_or words (k / 64) 0 = get_or-set_other words i (k / 64) n 0 (λ e. omega (arith, e, out.arenas, there)) in
              ap (λ x. bit_at x (k % 64)) arena ∙ h.bits k there),
        ),
      )

  pub updates : (word : WordName) → IsFreeWord setup.geometry word → (n : ℕ) (access : Access) →
      let i = index_of setup.geometry word in Kept files setup (set words i n) (set views id (noted i (get_or words i 0) n access v))
  updates word free n access = updates_at (index_of setup.geometry word) n access (outside setup.geometry word free)

-- The count of a header, and the state in its word.
use Rattle.std.proofs.Common.{◌≡◌, ◌≢◌, ℕ, suc, ◌+◌, ◌^◌, ◌<◌, ◌≤◌, List, [], ◌∷◌, length, get_or, set, refl, sym, ap, ◌∙◌, subst, inl, inr, arith}
use Rattle.std.specs.Prelude.{Option, Some, None, IfSome}
use Rattle.std.proofs.lemmas.Bool.{cases_lt, cases_eq}
use Rattle.std.proofs.lemmas.List.{get_or-set_same, get_or-set_other}
use mathlib.Core.Option.{some}
use lib.ListN.{get_elem?}
use Rattle.buffer_word.specs.declared.state_word.Mode.TheVariants.{Released}
use Rattle.buffer_word.specs.declared.state_word.State.{State}
use Rattle.buffer_word.specs.StateWord.{IsPackable, state_word}
use Rattle.pool_model.specs.declared.buffer.Buffer.{Buffer}
use Rattle.pool_model.specs.declared.pool.PlainPool.{PlainPool}
use Rattle.pool_model.specs.declared.step.Step.{Step}
use Rattle.pool_model.specs.Content.{Files}
use Rattle.pool_model.specs.Lawful.{IsLawfulBuffer}
use Rattle.pool_model.specs.Laws.{EveryRunIsLawful}
use Rattle.pool_model.specs.Pool.{buffer_at, total}
use Rattle.pool_rule.specs.declared.geometry.Geometry.{Geometry}
use Rattle.pool_rule.specs.declared.geometry.Setup.{Setup}
use Rattle.pool_rule.specs.declared.view.Hold.{Hold}
use Rattle.pool_rule.specs.declared.view.Hold.TheVariants.{Free, Bid, Pinned}
use Rattle.pool_rule.specs.declared.view.View.{View}
use Rattle.pool_rule.specs.Headers.{hold_count, mode_of, state_of}
use Rattle.pool_rule.specs.Layout.{AreSeats, IsBlockIn, IsGeometry, headers_of, header_word, places_of}
use Rattle.pool_rule.specs.Rule.{StandsFor, view_at, count_of, setting_of}
use Rattle.pool_rule.specs.Seats.{mark_at, spent}
use Rattle.pool_rule.specs.WordSteps.{IsStateWord}
use Rattle.pool_rule.proofs.Frame.{below, is_view}
use Rattle.pool_rule.proofs.Lists.{total-set}
use Rattle.pool_rule.proofs.Story.{story_lawful}

-- a sum is at most another where each part is
total-le_from : {A : Type 0} (f g : A → ℕ) (i : ℕ) (xs : List A) (d : A) → ((k : ℕ) → k < length xs → f (get_or xs k d) ≤ g (get_or xs k d)) → total (λ _ x. f x) i xs ≤ total (λ _ x. g x) i xs
total-le_from f g i [] d h = omega arith
total-le_from f g i (x ∷ xs) d h =
    omega (arith, h 0 (omega arith), total-le_from f g (i + 1) xs d (λ k inside. h (suc k) (omega (arith, inside))))

at_most_one : (hold : Hold) → hold_count hold ≤ 1
at_most_one Free = omega arith
at_most_one Bid = omega arith
at_most_one (Pinned block key) = omega arith

-- a seat counts at most as often as it has numbers
counts : (header : ℕ) (u : View) → (length u.numbers ≡ 0 → u ≡ spent) → hold_count (mark_at u header).hold ≤ length u.numbers
counts header u nothing =
    elim (cases_lt 0 (length u.numbers)) [
      | inl some_numbers ↦ omega (arith, at_most_one (mark_at u header).hold, some_numbers)
      | inr none ↦
          let e : hold_count (mark_at u header).hold ≡ 0 = ap (λ (w : View). hold_count (mark_at w header).hold) (nothing (omega (arith, none))) in
          omega (arith, e)
    ]

-- the state in the word of a header
state_in : (g : Geometry) (files : Option Files) (count word : ℕ) (buffer : Option Buffer) → places_of g ≤ 4096 → count ≤ 64 → IfSome buffer (IsLawfulBuffer (setting_of files g) (places_of g)) → word ≡ state_of count buffer → (s : State) × IsPackable s × (word ≡ state_word s) × (s.count ≡ count) × (s.count ≤ 64) × (s.mode ≢ Released → IsBlockIn g (record { place = s.place; order = s.order }))
state_in g files count word None few small lawful is = (
  record { count = count; mode = Released; order = 0; place = 0 },
  record { count = omega arith; order = omega arith; place = omega arith },
  is,
  refl,
  small,
  λ not_released. absurd (not_released refl),
)
state_in g files count word (Some b) few small lawful is =
    let size : ℕ = 2 ^ b.block.order in
    let fits = lawful.is_block.order_fits in
    let inside = lawful.is_block.inside in (
      record { count = count; mode = mode_of b.mode; order = b.block.order; place = b.block.place },
      record { count = omega arith; order = omega (arith, fits); place = omega (arith, inside, few) },
      is,
      refl,
      small,
      λ _. lawful.is_block,
    )

module _ (law : EveryRunIsLawful) (files : Option Files) (setup : Setup) (words : List ℕ) (views : List View) (log : List Step) (pool : PlainPool) (h : StandsFor files setup words views log pool) (sizes : IsGeometry setup.geometry) (seats : AreSeats setup.seats) where
  pub count_small : (header : ℕ) → count_of header views ≤ 64
  count_small header =
      let shared = total-le_from (λ u. hold_count (mark_at u header).hold) (λ (u : View). length u.numbers) 0 views spent (λ k within. counts header (view_at views k) (h.seats k).nothing) in
      omega (arith, shared, h.numbers.all, seats)

  -- and one less where a seat has nothing of it
  pub count_smaller : (id : ℕ) (v : View) → get_elem? views id ≡ some v → 0 < length v.numbers → (header : ℕ) → (mark_at v header).hold ≡ Free → count_of header views ≤ 63
  count_smaller id v at live header free =
      let there = below files setup words views log pool h id v at live in
      let is = is_view files setup words views log pool h id v at live in
      let bound = total-le_from (λ u. hold_count (mark_at u header).hold) (λ (u : View). length u.numbers) 0 (set views id spent) spent
      (λ k within.
      let P : View → Type 0 = λ u. hold_count (mark_at u header).hold ≤ length u.numbers in
      elim (cases_eq k id) [
        | inl same ↦
            let e : get_or (set views id spent) k spent ≡ spent = ap (λ n. get_or (set views id spent) n spent) same ∙ get_or-set_same views id spent spent there in
            subst P (sym e) (omega arith)
        | inr other ↦ subst P (sym (get_or-set_other views id k spent spent other)) (counts header (view_at views k) (h.seats k).nothing)
      ]) in
      let holds = total-set (λ _ u. hold_count (mark_at u header).hold) views id spent spent there in
      let numbers = total-set (λ _ (u : View). length u.numbers) views id spent spent there in
      let none : hold_count (mark_at (view_at views id) header).hold ≡ 0 = ap (λ u. hold_count (mark_at u header).hold) is ∙ ap hold_count free in
      let own : length (view_at views id).numbers ≡ length v.numbers = ap (λ (u : View). length u.numbers) is in
      omega (arith, bound, holds, numbers, none, own, h.numbers.all, seats, live)

  pub places_few : length pool.grants ≤ 4096
  places_few = omega (arith, h.story.places, sizes.arenas)

  -- the state in the word, whose count is how many seats have a pin or a bid
  pub state_at : (header : ℕ) → header < headers_of setup.geometry → (s : State) × IsPackable s × (get_or words (header_word setup.geometry header) 0 ≡ state_word s) × (s.count ≡ count_of header views) × (s.count ≤ 64) × (s.mode ≢ Released → IsBlockIn setup.geometry (record { place = s.place; order = s.order }))
  state_at header inside =
      let lawful = story_lawful law files setup.geometry (length views) log pool h.story in
      let P : ℕ → Type 0 = λ n. IfSome (buffer_at pool header) (IsLawfulBuffer (setting_of files setup.geometry) n) in
      state_in setup.geometry files (count_of header views) (get_or words (header_word setup.geometry header) 0) (buffer_at pool header) (omega (arith, sizes.arenas)) (count_small header) (subst P h.story.places (lawful.buffers header)) (h.headers header inside).state_is

  pub state_here : (header : ℕ) → header < headers_of setup.geometry → IsStateWord setup.geometry (get_or words (header_word setup.geometry header) 0)
  state_here header inside = let s = state_at header inside in (s.0, s.1, s.2, s.4, s.5)

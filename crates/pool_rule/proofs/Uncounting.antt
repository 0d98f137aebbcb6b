-- A count is taken from a header's state: a bid, or a pin.
use Rattle.std.proofs.Common.{◌≡◌, ◌≢◌, ◌==◌, ℕ, ◌+◌, ◌-◌, ◌%◌, ◌^◌, ◌<◌, ◌≤◌, Bool, true, false, List, [], ◌∷◌, ◌++◌, length, get_or, set, refl, sym, ap, ◌∙◌, subst, inl, inr, arith, eq-eqb, ne_eqb}
use Rattle.std.specs.Prelude.{Option, None, Some, option_map, IfSome, IsSomeAnd, not, filter}
use Rattle.std.specs.List.{list_any}
use Rattle.std.proofs.lemmas.Bool.{cases_eq}
use Rattle.std.proofs.lemmas.List.{get_or-set_same, get_or-set_other, length-set, set-get_or, append-nil}
use mathlib.Core.Option.{some}
use lib.ListN.{get_elem?}
use Rattle.buffer_word.specs.declared.state_word.Mode.TheVariants as word_mode
use Rattle.buffer_word.specs.Changes.{TakeBackSubtracts16}
use Rattle.pool_model.specs.declared.buffer.Buffer.{Buffer}
use Rattle.pool_model.specs.declared.pool.PlainPool.{PlainPool}
use Rattle.pool_model.specs.declared.step.Step.{Step}
use Rattle.pool_model.specs.declared.step.Step.TheVariants.{Unpin}
use Rattle.pool_model.specs.Buffer.{Holds, CanUnpin, unpinned}
use Rattle.pool_model.specs.Content.{Files}
use Rattle.pool_model.specs.Laws.{EveryRunIsLawful}
use Rattle.pool_model.specs.Pool.{buffer_at, buffer_covers}
use Rattle.pool_model.specs.Step.{Needs, after}
use Rattle.pool_rule.specs.declared.geometry.Geometry.{Geometry}
use Rattle.pool_rule.specs.declared.geometry.Setup.{Setup}
use Rattle.pool_rule.specs.declared.view.Access.TheVariants.{Changed}
use Rattle.pool_rule.specs.declared.view.Claim.{Claim}
use Rattle.pool_rule.specs.declared.view.Claim.TheVariants.{Unclaimed, Fresh, Gone, Carried}
use Rattle.pool_rule.specs.declared.view.Hold.{Hold}
use Rattle.pool_rule.specs.declared.view.Hold.TheVariants.{Free, Bid, Pinned}
use Rattle.pool_rule.specs.declared.view.Mark.{Mark}
use Rattle.pool_rule.specs.declared.view.View.{View}
use Rattle.pool_rule.specs.Headers.{HasContent, HoldFits, ClaimFits, MarkFits, hold_count, mode_of, state_of}
use Rattle.pool_rule.specs.Layout.{headers_of, header_word}
use Rattle.pool_rule.specs.Rule.{Kept, IsStory, StandsFor, setting_of, cells_in, count_of}
use Rattle.pool_rule.specs.Seats.{mark_at, noted, with_step, with_mark}
use Rattle.pool_rule.specs.WordSteps.{dropping}
use Rattle.pool_rule.proofs.Counting.{FitsBits, bits_fit, some_value}
use Rattle.pool_rule.proofs.Frame.{below, is_view}
use Rattle.pool_rule.proofs.HeaderStep.{header_step}
use Rattle.pool_rule.proofs.Story.{story_lawful, story_same, story_more, mine, theirs}

-- ---- holders without one

-- what the test gives at the head of a list
any_head : (p : ℕ → Bool) (x : ℕ) (xs : List ℕ) → p x ≡ true → list_any p (x ∷ xs) ≡ true
any_head p x xs e = rw e refl

any_tail : (p : ℕ → Bool) (x : ℕ) (xs : List ℕ) → p x ≡ false → list_any p (x ∷ xs) ≡ list_any p xs
any_tail p x xs e = rw e refl

without_head : (p : ℕ → Bool) (x : ℕ) (xs : List ℕ) → p x ≡ true → filter p (x ∷ xs) ≡ x ∷ filter p xs
without_head p x xs e = rw e refl

without_tail : (p : ℕ → Bool) (x : ℕ) (xs : List ℕ) → p x ≡ false → filter p (x ∷ xs) ≡ filter p xs
without_tail p x xs e = rw e refl

abbrev others : ℕ → List ℕ → List ℕ
others id xs = filter (λ s. not (s == id)) xs

drop_here : (id x : ℕ) (xs : List ℕ) → x ≡ id → others id (x ∷ xs) ≡ others id xs
drop_here id x xs e = without_tail (λ s. not (s == id)) x xs (ap not (eq-eqb x id e))

keep_here : (id x : ℕ) (xs : List ℕ) → x ≢ id → others id (x ∷ xs) ≡ x ∷ others id xs
keep_here id x xs ne = without_head (λ s. not (s == id)) x xs (ap not (ne_eqb x id ne))

-- another seat is among them as before
any_others : (id seat : ℕ) (xs : List ℕ) → seat ≢ id → list_any (λ s. s == seat) (others id xs) ≡ list_any (λ s. s == seat) xs
any_others id seat [] apart = refl
any_others id seat (x ∷ xs) apart =
    elim (cases_eq x id) [
      | inl same ↦
          ap (list_any (λ s. s == seat)) (drop_here id x xs same)
          ∙ (any_others id seat xs apart ∙ sym (any_tail (λ s. s == seat) x xs (ne_eqb x seat (λ e. apart (sym e ∙ same)))))
      | inr other ↦
          ap (list_any (λ s. s == seat)) (keep_here id x xs other)
          ∙ elim (cases_eq x seat) [
            | inl it ↦ any_head (λ s. s == seat) x (others id xs) (eq-eqb x seat it) ∙ sym (any_head (λ s. s == seat) x xs (eq-eqb x seat it))
            | inr no_one ↦ any_tail (λ s. s == seat) x (others id xs) (ne_eqb x seat no_one) ∙ (any_others id seat xs apart ∙ sym (any_tail (λ s. s == seat) x xs (ne_eqb x seat no_one)))
          ]
    ]

-- and the one isn't
none_of : (id : ℕ) (xs : List ℕ) → list_any (λ s. s == id) (others id xs) ≡ false
none_of id [] = refl
none_of id (x ∷ xs) =
    elim (cases_eq x id) [
      | inl same ↦ ap (list_any (λ s. s == id)) (drop_here id x xs same) ∙ none_of id xs
      | inr other ↦ ap (list_any (λ s. s == id)) (keep_here id x xs other) ∙ (any_tail (λ s. s == id) x (others id xs) (ne_eqb x id other) ∙ none_of id xs)
    ]

gone : (id : ℕ) (xs : List ℕ) → Holds id (others id xs) → ⊥
gone id xs held = let e : true ≡ false = sym held ∙ none_of id xs in cc

stays : (id seat : ℕ) (xs : List ℕ) → seat ≢ id → Holds seat xs → Holds seat (others id xs)
stays id seat xs apart held = any_others id seat xs apart ∙ held

came : (id seat : ℕ) (xs : List ℕ) → seat ≢ id → Holds seat (others id xs) → Holds seat xs
came id seat xs apart held = sym (any_others id seat xs apart) ∙ held

-- ---- marks

claim_unpinned : (seat id : ℕ) (b : Buffer) (c : Claim) → ClaimFits seat (Some b) c → ClaimFits seat (Some (unpinned id b)) c
claim_unpinned seat id b Unclaimed fits = fits
claim_unpinned seat id b (Fresh k key done) fits = fits
claim_unpinned seat id b (Gone k) fits = fits
claim_unpinned seat id b (Carried k t key done next) fits = fits

hold_unpinned : (seat id : ℕ) (b : Buffer) (x : Hold) → seat ≢ id → HoldFits seat (Some b) x → HoldFits seat (Some (unpinned id b)) x
hold_unpinned seat id b Free apart fits = λ held. fits (came id seat b.holders apart held)
hold_unpinned seat id b Bid apart fits = λ held. fits (came id seat b.holders apart held)
hold_unpinned seat id b (Pinned k key) apart fits = (stays id seat b.holders apart fits.0, fits.1, fits.2)

content_unpinned : (g : Geometry) (key : ℕ) (cell : ℕ → ℕ) (id : ℕ) (b : Buffer) → HasContent g key cell b → HasContent g key cell (unpinned id b)
content_unpinned g key cell id b c = record { key_packs = c.key_packs; key_is = c.key_is; cells = c.cells; target_cells = c.target_cells }

takes_one : TakeBackSubtracts16 → (count : ℕ) (o : Option Buffer) → count ≤ 64 → FitsBits o → (state_of (count + 1) o + (2 ^ 64 - 16)) % 2 ^ 64 ≡ state_of count o
takes_one take count None small fits = take count word_mode.Released 0 0 (omega (arith, small)) (omega arith) (omega arith)
takes_one take count (Some b) small fits = take count (mode_of b.mode) b.block.order b.block.place (omega (arith, small)) fits.0 fits.1

pinned_in : (seat : ℕ) (o : Option Buffer) (x : Hold) → HoldFits seat o x → hold_count x ≡ 1 → x ≢ Bid → (b : Buffer) × (o ≡ Some b) × Holds seat b.holders
pinned_in seat o Free fits one ne = absurd (omega (arith, one))
pinned_in seat o Bid fits one ne = absurd (ne refl)
pinned_in seat None (Pinned k key) fits one ne = absurd fits
pinned_in seat (Some b) (Pinned k key) fits one ne = (b, refl, fits.0)

module _ (law : EveryRunIsLawful) (take : TakeBackSubtracts16) (files : Option Files) (setup : Setup) (words : List ℕ) (views : List View) (log : List Step) (pool : PlainPool) (h : StandsFor files setup words views log pool) (id : ℕ) (v : View) (at : get_elem? views id ≡ some v) (live : 0 < length v.numbers) (header : ℕ) (inside : header < headers_of setup.geometry) (small : count_of header views ≤ 64) (few : length pool.grants ≤ 4096) (one : hold_count (mark_at v header).hold ≡ 1) where
  old_mark : MarkFits id (buffer_at pool header) (mark_at v header)
  old_mark =
      let is = is_view files setup words views log pool h id v at live in
      let P : View → Type 0 = λ u. MarkFits id (buffer_at pool header) (mark_at u header) in
      subst P is ((h.headers header inside).each_seat id)

  fits_bits : FitsBits (buffer_at pool header)
  fits_bits = bits_fit files setup.geometry (length pool.grants) (buffer_at pool header) few ((story_lawful law files setup.geometry (length views) log pool h.story).buffers header)

  abbrev i : ℕ
  i = header_word setup.geometry header

  abbrev n : ℕ
  n = get_or words (header_word setup.geometry header) 0

  abbrev left : ℕ
  left = (n + (2 ^ 64 - 16)) % 2 ^ 64

  state_then : (o : Option Buffer) (count : ℕ) → count + 1 ≡ count_of header views → FitsBits o → n ≡ state_of (count_of header views) o → get_or (set words i left) i 0 ≡ state_of count o
  state_then o count e fits is =
      let wide : i < length words = omega (arith, h.all_words, inside) in
      get_or-set_same words i left 0 wide ∙ (ap (λ k. (k + (2 ^ 64 - 16)) % 2 ^ 64) (is ∙ ap (λ k. state_of k o) (sym e)) ∙ takes_one take count o (omega (arith, small, e)) fits)

  abbrev KeptWith : View → Type 0
  KeptWith u = Kept files setup (set words i left) (set views id (noted i n left Changed u))

  -- a bid is taken back: no step of the pool
  bid_taken : (mark_at v header).hold ≡ Bid → KeptWith (with_mark header (record { hold = Free; claim = (mark_at v header).claim }) v)
  unfolding noted with_mark
  bid_taken bid =
      let m : Mark = record { hold = Free; claim = (mark_at v header).claim } in
      let u = with_mark header m v in
      let w = noted i n left Changed u in
      let same : record pool { buffers = set pool.buffers header (buffer_at pool header) } ≡ pool = ap (λ (l : List (Option Buffer)). record pool { buffers = l }) (set-get_or pool.buffers header None) in
      let P : PlainPool → Type 0 = λ p. StandsFor files setup (set words i left) (set views id w) (log ++ []) p in
      let S : PlainPool → Type 0 = λ p. IsStory files setup.geometry (length views) (log ++ []) p in
      let key_same : get_or (set words i left) (i + 1) 0 ≡ get_or words (i + 1) 0 = get_or-set_other words i (i + 1) left 0 (λ e. omega (arith, e)) in
      let C : ℕ → Type 0 = λ k. IfSome (buffer_at pool header) (HasContent setup.geometry k (cells_in setup.geometry words)) in
      let H : Hold → Type 0 = λ x. HoldFits id (buffer_at pool header) x in (
        log ++ [],
        (
          pool,
          subst P same
              (header_step files setup words views log pool h id v at live header inside i left w m (buffer_at pool header) []
              (record { numbers = refl; geometry = refl; marks = length-set v.marks header m; granted = refl }) refl (sym (append-nil v.steps)) refl (λ s apart. refl) refl (omega arith) (omega arith) refl
              (subst S (sym same) (story_same files setup.geometry (length views) log pool h.story))
              (λ count e. state_then (buffer_at pool header) count (omega (arith, e, one)) fits_bits (h.headers header inside).state_is)
              (subst C (sym key_same) (h.headers header inside).content)
              (subst H bid old_mark.0, old_mark.1)
              (λ seat apart x fits. fits)
              (λ k. refl)),
        ),
      )

  -- a pin is taken back
  pin_taken : (mark_at v header).hold ≢ Bid → KeptWith (with_step (Unpin id header) (with_mark header (record { hold = Free; claim = (mark_at v header).claim }) v))
  unfolding noted with_mark with_step
  pin_taken no_bid =
      let m : Mark = record { hold = Free; claim = (mark_at v header).claim } in
      let u = with_step (Unpin id header) (with_mark header m v) in
      let w = noted i n left Changed u in
      let it = pinned_in id (buffer_at pool header) (mark_at v header).hold old_mark.0 one no_bid in
      let b = it.0 in
      let has : buffer_at pool header ≡ Some b = it.1 in
      let is : n ≡ state_of (count_of header views) (Some b) = (h.headers header inside).state_is ∙ ap (state_of (count_of header views)) has in
      let F : Option Buffer → Type 0 = λ o. FitsBits o in
      let fits : FitsBits (Some b) = subst F has fits_bits in
      let M : Option Buffer → Type 0 = λ o. ClaimFits id o (mark_at v header).claim in
      let key_same : get_or (set words i left) (i + 1) 0 ≡ get_or words (i + 1) 0 = get_or-set_other words i (i + 1) left 0 (λ e. omega (arith, e)) in
      let content : HasContent setup.geometry (get_or words (i + 1) 0) (cells_in setup.geometry words) b = some_value _ (buffer_at pool header) b has (h.headers header inside).content in
      let C : ℕ → Type 0 = λ k. HasContent setup.geometry k (cells_in setup.geometry words) (unpinned id b) in
      let N : Option Buffer → Type 0 = λ o. IsSomeAnd o (CanUnpin id) in
      let needs : Needs (setting_of files setup.geometry) (Unpin id header) pool = subst N (sym has) it.2 in
      let is_after : after (Unpin id header) pool ≡ record pool { buffers = set pool.buffers header (Some (unpinned id b)) } = ap (λ (o : Option Buffer). record pool { buffers = set pool.buffers header (option_map (unpinned id) o) }) has in
      let S : PlainPool → Type 0 = λ p. IsStory files setup.geometry (length views) (log ++ Unpin id header ∷ []) p in
      let T : (seat : ℕ) → seat ≢ id → (x : Mark) → MarkFits seat (buffer_at pool header) x → MarkFits seat (Some (unpinned id b)) x =
      λ seat apart x f. let X : Option Buffer → Type 0 = λ o. MarkFits seat o x in let g = subst X has f in (hold_unpinned seat id b x.hold apart g.0, claim_unpinned seat id b x.claim g.1) in (
        log ++ Unpin id header ∷ [],
        (
          record pool { buffers = set pool.buffers header (Some (unpinned id b)) },
          header_step files setup words views log pool h id v at live header inside i left w m (Some (unpinned id b)) (Unpin id header ∷ [])
              (record { numbers = refl; geometry = refl; marks = length-set v.marks header m; granted = refl }) refl refl (mine (Unpin id header)) (λ s apart. theirs (Unpin id header) s apart) refl (omega arith) (omega arith) refl
              (subst S is_after (story_more files setup.geometry (length views) log pool (Unpin id header) h.story needs (below files setup words views log pool h id v at live) (length-set pool.buffers header _) refl))
              (λ count e. state_then (Some (unpinned id b)) count (omega (arith, e, one)) fits is)
              (subst C (sym key_same) (content_unpinned _ _ _ id b content))
              (gone id b.holders, claim_unpinned id id b (mark_at v header).claim (subst M has old_mark.1))
              T
              (λ k. sym (ap (buffer_covers k header) has)),
        ),
      )

  by_hold : (x : Hold) → (mark_at v header).hold ≡ x → KeptWith (dropping x id header v)
  by_hold Free e = absurd (omega (arith, sym (ap hold_count e) ∙ one))
  by_hold Bid e = bid_taken e
  by_hold (Pinned b k) e = pin_taken (λ bid. let f : Bid ≡ Pinned b k = sym bid ∙ e in cc)

  pub uncounts : KeptWith (dropping (mark_at v header).hold id header v)
  uncounts = by_hold (mark_at v header).hold refl

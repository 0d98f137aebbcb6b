-- A live buffer that nobody holds is evicted: the rule is kept.
use Rattle.std.proofs.Common.{◌≡◌, ◌≢◌, ◌==◌, ℕ, ◌+◌, ◌/◌, ◌%◌, ◌^◌, ◌<◌, ◌≤◌, true, List, [], ◌∷◌, ◌++◌, length, get_or, set, refl, sym, ap, ◌∙◌, subst, inl, inr, arith, eq-eqb}
use Rattle.std.specs.Prelude.{Option, None, Some, option_map, IsSomeAnd}
use Rattle.std.specs.List.{list_any}
use Rattle.std.proofs.lemmas.Bool.{cases_lt}
use Rattle.std.proofs.lemmas.List.{get_or-set_same, get_or-set_other, get_or_past, length-set}
use mathlib.Core.Option.{some}
use lib.ListN.{get_elem?}
use Rattle.buffer_word.specs.declared.state_word.Mode.TheVariants as word_mode
use Rattle.buffer_word.specs.Changes.{EvictAdds4}
use Rattle.buffer_word.specs.StateWord.{word_of}
use Rattle.pool_model.specs.declared.block.Block.{Block}
use Rattle.pool_model.specs.declared.buffer.Buffer.{Buffer}
use Rattle.pool_model.specs.declared.buffer.BufferMode.{BufferMode}
use Rattle.pool_model.specs.declared.buffer.BufferMode.TheVariants as mode
use Rattle.pool_model.specs.declared.pool.PlainPool.{PlainPool}
use Rattle.pool_model.specs.declared.step.Step.{Step}
use Rattle.pool_model.specs.declared.step.Step.TheVariants.{BeginEvict}
use Rattle.pool_model.specs.Buffer.{Holds, IsIdle, evicting as evicted}
use Rattle.pool_model.specs.Content.{Files}
use Rattle.pool_model.specs.Lawful.{IsLawfulBuffer}
use Rattle.pool_model.specs.Block.{IsBlock}
use Rattle.pool_model.specs.Laws.{EveryRunIsLawful}
use Rattle.pool_model.specs.Pool.{buffer_at, buffer_covers}
use Rattle.pool_model.specs.Step.{Needs, after}
use Rattle.pool_rule.specs.declared.geometry.Setup.{Setup}
use Rattle.pool_rule.specs.declared.view.Access.TheVariants.{Exchanged}
use Rattle.pool_rule.specs.declared.view.Claim.{Claim}
use Rattle.pool_rule.specs.declared.view.Claim.TheVariants.{Unclaimed, Fresh, Gone, Carried}
use Rattle.pool_rule.specs.declared.view.Hold.{Hold}
use Rattle.pool_rule.specs.declared.view.Hold.TheVariants.{Free, Bid, Pinned}
use Rattle.pool_rule.specs.declared.view.Mark.{Mark}
use Rattle.pool_rule.specs.declared.view.View.{View}
use Rattle.pool_rule.specs.Headers.{HasContent, HoldFits, ClaimFits, MarkFits, hold_count, mode_of, state_of}
use Rattle.pool_rule.specs.Layout.{IsBlockIn, headers_of, header_word}
use Rattle.pool_rule.specs.Rule.{Kept, IsStory, StandsFor, setting_of, cells_in, count_of, view_at}
use Rattle.pool_rule.specs.Seats.{clear_mark, mark_at, noted, spent, with_step, with_mark}
use Rattle.pool_rule.specs.WordSteps.{IsIdleWord, block_in, evicting}
use Rattle.pool_rule.proofs.Counting.{FitsBits, bits_fit, some_value}
use Rattle.pool_rule.proofs.Frame.{below, is_view}
use Rattle.pool_rule.proofs.HeaderStep.{header_step}
use Rattle.pool_rule.proofs.Lists.{total-at}
use Rattle.pool_rule.proofs.Story.{story_lawful, story_more, mine, theirs}

-- ---- the word of a live buffer without a count

idle_mode : (count order place : ℕ) (m : BufferMode) → count ≤ 64 → IsIdleWord (word_of count (mode_of m) order place) → (m ≡ mode.Live) × (count ≡ 0)
idle_mode count order place mode.New small e = absurd (omega (arith, e, small))
idle_mode count order place mode.Live small e = (refl, omega (arith, e, small))
idle_mode count order place mode.Moving small e = absurd (omega (arith, e, small))
idle_mode count order place mode.Evicted small e = absurd (omega (arith, e, small))

idle_state : (count : ℕ) (o : Option Buffer) → count ≤ 64 → IsIdleWord (state_of count o) → (y : Buffer) × (o ≡ Some y) × (y.mode ≡ mode.Live) × (count ≡ 0)
idle_state count None small e = absurd (omega (arith, e, small))
idle_state count (Some b) small e = let is = idle_mode count b.block.order b.block.place b.mode small e in (b, refl, is.0, is.1)

block_of_word : (b : Block) → b.order < 16 → b ≡ block_in (word_of 0 word_mode.Live b.order b.place)
block_of_word b k =
    let p : word_of 0 word_mode.Live b.order b.place / 2 ^ 24 ≡ b.place = omega (arith, k) in
    let o : word_of 0 word_mode.Live b.order b.place / 2 ^ 20 % 2 ^ 4 ≡ b.order = omega (arith, k) in
    λ i. record { place = sym p i; order = sym o i }

-- ---- nobody holds a buffer without a count

no_hold : (x : Hold) → hold_count x ≡ 0 → x ≡ Free
no_hold Free e = refl
no_hold Bid e = absurd (omega (arith, e))
no_hold (Pinned b k) e = absurd (omega (arith, e))

none_hold : (holders : List ℕ) → ((seat : ℕ) → Holds seat holders → ⊥) → holders ≡ []
none_hold [] none = refl
none_hold (s ∷ ss) none =
    let first : list_any (λ k. k == s) (s ∷ ss) ≡ true = rw (eq-eqb s s refl) refl in
    absurd (none s first)

-- ---- marks

live_claim : (seat : ℕ) (y : Buffer) (x : Claim) → y.mode ≡ mode.Live → ClaimFits seat (Some y) x → x ≡ Unclaimed
live_claim seat y Unclaimed is fits = refl
live_claim seat y (Fresh b key done) is fits = let f : mode.Live ≡ mode.New = sym is ∙ fits.0 in cc
live_claim seat y (Gone b) is fits = let f : mode.Live ≡ mode.Evicted = sym is ∙ fits.0 in cc
live_claim seat y (Carried b t key done next) is fits = let f : mode.Live ≡ mode.Moving = sym is ∙ fits.0 in cc

hold_evicted : (seat id : ℕ) (y : Buffer) (x : Hold) → HoldFits seat (Some y) x → HoldFits seat (Some (evicted id y)) x
hold_evicted seat id y Free fits = fits
hold_evicted seat id y Bid fits = fits
hold_evicted seat id y (Pinned b key) fits = fits

other_claim : (seat id : ℕ) (y : Buffer) (x : Claim) → seat ≢ id → x ≡ Unclaimed → ClaimFits seat (Some (evicted id y)) x
other_claim seat id y Unclaimed apart is = λ claimed. apart (let e : Some id ≡ Some seat = claimed in let f : id ≡ seat = cc in sym f)
other_claim seat id y (Fresh b key done) apart is = cc
other_claim seat id y (Gone b) apart is = cc
other_claim seat id y (Carried b t key done next) apart is = cc

module _ (law : EveryRunIsLawful) (files : Option Files) (setup : Setup) (words : List ℕ) (views : List View) (log : List Step) (pool : PlainPool) (h : StandsFor files setup words views log pool) (id : ℕ) (v : View) (at : get_elem? views id ≡ some v) (live : 0 < length v.numbers) (header : ℕ) (inside : header < headers_of setup.geometry) (few : length pool.grants ≤ 4096) (small : count_of header views ≤ 64) (idle : IsIdleWord (get_or words (header_word setup.geometry header) 0)) where
  abbrev i : ℕ
  i = header_word setup.geometry header

  abbrev n : ℕ
  n = get_or words (header_word setup.geometry header) 0

  idle_buffer : (y : Buffer) × (buffer_at pool header ≡ Some y) × (y.mode ≡ mode.Live) × (count_of header views ≡ 0)
  idle_buffer = let P : ℕ → Type 0 = λ k. IsIdleWord k in idle_state (count_of header views) (buffer_at pool header) small (subst P (h.headers header inside).state_is idle)

  -- no seat has a pin or a bid on the header
  is_free : (seat : ℕ) → (mark_at (view_at views seat) header).hold ≡ Free
  is_free seat =
      no_hold (mark_at (view_at views seat) header).hold
      (elim (cases_lt seat (length views)) [
        | inl there ↦
            let part = total-at (λ _ u. hold_count (mark_at u header).hold) views seat spent there in
            omega (arith, part, idle_buffer.3)
        | inr past ↦ ap (λ u. hold_count (mark_at u header).hold) (get_or_past views seat spent past)
      ])

  module _ (y : Buffer) (has : buffer_at pool header ≡ Some y) (is_live : y.mode ≡ mode.Live) where
    lawful_y : IsLawfulBuffer (setting_of files setup.geometry) (length pool.grants) y
    lawful_y = some_value _ (buffer_at pool header) y has ((story_lawful law files setup.geometry (length views) log pool h.story).buffers header)

    no_holder : y.holders ≡ []
    no_holder =
        none_hold y.holders
        (λ seat held.
        let fits = ((h.headers header inside).each_seat seat).0 in
        let P : Option Buffer × Hold → Type 0 = λ z. HoldFits seat z.0 z.1 in
        let free : HoldFits seat (Some y) Free = subst P (λ k. (has k, is_free seat k)) fits in
        free held)

    old_mark : MarkFits id (Some y) (mark_at v header)
    old_mark =
        let is = is_view files setup words views log pool h id v at live in
        let P : View × Option Buffer → Type 0 = λ z. MarkFits id z.1 (mark_at z.0 header) in
        subst P (λ k. (is k, has k)) ((h.headers header inside).each_seat id)

    content_y : HasContent setup.geometry (get_or words (header_word setup.geometry header + 1) 0) (cells_in setup.geometry words) y
    content_y = some_value _ (buffer_at pool header) y has (h.headers header inside).content

    bits : FitsBits (Some y)
    bits = bits_fit files setup.geometry (length pool.grants) (Some y) few lawful_y

    word_is : n ≡ word_of (count_of header views) word_mode.Live y.block.order y.block.place
    word_is =
        (h.headers header inside).state_is
        ∙ (ap (state_of (count_of header views)) has ∙ ap (λ (k : BufferMode). word_of (count_of header views) (mode_of k) y.block.order y.block.place) is_live)

    block_is : y.block ≡ block_in n
    block_is =
        block_of_word y.block bits.0 ∙ ap block_in (sym (word_is ∙ ap (λ k. word_of k word_mode.Live y.block.order y.block.place) idle_buffer.3))

    evicts_block : EvictAdds4 → Kept files setup (set words i (n + 4)) (set views id (noted i n (n + 4) Exchanged (evicting id header y.block v)))
    unfolding noted with_step with_mark
    evicts_block add =
        let g = setup.geometry in
        let left : ℕ = n + 4 in
        let m : Mark = record { hold = (mark_at v header).hold; claim = Gone y.block } in
        let w = noted i n left Exchanged (evicting id header y.block v) in
        let s : Step = BeginEvict id header in
        let o : Option Buffer = Some (evicted id y) in
        let N : Option Buffer → Type 0 = λ x. IsSomeAnd x IsIdle in
        let needs : Needs (setting_of files g) s pool = subst N (sym has) (is_live, no_holder) in
        let is_after : after s pool ≡ record pool { buffers = set pool.buffers header o } = ap (λ (x : Option Buffer). record pool { buffers = set pool.buffers header (option_map (evicted id) x) }) has in
        let S : PlainPool → Type 0 = λ p. IsStory files g (length views) (log ++ s ∷ []) p in
        let wide : i < length words = omega (arith, h.all_words, inside) in
        let key_same : get_or (set words i left) (i + 1) 0 ≡ get_or words (i + 1) 0 = get_or-set_other words i (i + 1) left 0 (λ q. omega (arith, q)) in
        let C : ℕ → Type 0 = λ k. HasContent g k (cells_in g words) (evicted id y) in
        let T : (seat : ℕ) → seat ≢ id → (x : Mark) → MarkFits seat (buffer_at pool header) x → MarkFits seat o x =
        λ seat apart x f. let X : Option Buffer → Type 0 = λ q. MarkFits seat q x in let k = subst X has f in (hold_evicted seat id y x.hold k.0, other_claim seat id y x.claim apart (live_claim seat y x.claim is_live k.1)) in (
          log ++ s ∷ [],
          (
            record pool { buffers = set pool.buffers header o },
            header_step files setup words views log pool h id v at live header inside i left w m o (s ∷ [])
                (record { numbers = refl; geometry = refl; marks = length-set v.marks header m; granted = refl }) refl refl (mine s) (λ k apart. theirs s k apart) refl (omega arith) (omega arith) refl
                (subst S is_after (story_more files g (length views) log pool s h.story needs (below files setup words views log pool h id v at live) (length-set pool.buffers header _) refl))
                (λ count e.
                let same : count ≡ count_of header views = omega (arith, e) in
                get_or-set_same words i left 0 wide ∙ (ap (λ k. k + 4) word_is ∙ (add (count_of header views) y.block.order y.block.place ∙ ap (λ k. state_of k o) (sym same))))
                (subst C (sym key_same) (record { key_packs = content_y.key_packs; key_is = content_y.key_is; cells = content_y.cells; target_cells = content_y.target_cells }))
                (hold_evicted id id y (mark_at v header).hold old_mark.0, (refl, refl, refl))
                T
                (λ k. sym (ap (buffer_covers k header) has)),
          ),
        )

    evicts_here : EvictAdds4 → Kept files setup (set words i (n + 4)) (set views id (noted i n (n + 4) Exchanged (evicting id header (block_in n) v)))
    evicts_here add =
        let K : Block → Type 0 = λ b. Kept files setup (set words i (n + 4)) (set views id (noted i n (n + 4) Exchanged (evicting id header b v))) in
        subst K block_is (evicts_block add)

    in_pool : IsBlockIn setup.geometry (block_in n)
    in_pool =
        let P : Block × ℕ → Type 0 = λ z. IsBlock 6 z.1 z.0 in
        subst P (λ k. (block_is k, h.story.places k)) lawful_y.is_block

    was_clear : mark_at v header ≡ clear_mark
    was_clear =
        let is = is_view files setup words views log pool h id v at live in
        let hold : (mark_at v header).hold ≡ Free = ap (λ u. (mark_at u header).hold) (sym is) ∙ is_free id in
        let claim : (mark_at v header).claim ≡ Unclaimed = live_claim id y (mark_at v header).claim is_live old_mark.1 in
        λ k. record { hold = hold k; claim = claim k }

  pub evicts : EvictAdds4 → Kept files setup (set words i (n + 4)) (set views id (noted i n (n + 4) Exchanged (evicting id header (block_in n) v)))
  evicts add = let y = idle_buffer in evicts_here y.0 y.1 y.2 add

  -- what the seat is told: the buffer's block is one of the pool's, and the seat had nothing of the header
  pub evicts_tells : IsBlockIn setup.geometry (block_in n) × (mark_at v header ≡ clear_mark)
  evicts_tells = let y = idle_buffer in (in_pool y.0 y.1 y.2, was_clear y.0 y.1 y.2)

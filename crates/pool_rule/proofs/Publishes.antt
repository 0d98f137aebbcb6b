-- A new buffer gets its key, and is published: the rule is kept.
use Rattle.std.proofs.Common.{◌≡◌, ◌≢◌, ◌==◌, ℕ, ◌+◌, ◌%◌, ◌^◌, ◌<◌, ◌≤◌, List, [], ◌∷◌, ◌++◌, length, get_or, set, refl, sym, ap, ◌∙◌, subst, arith, eq-eqb, ne_eqb, true, false}
use Rattle.std.specs.Prelude.{Option, None, Some, option_map, IsSomeAnd}
use Rattle.std.specs.List.{list_any}
use Rattle.std.proofs.lemmas.List.{get_or-set_same, get_or-set_other, length-set}
use mathlib.Core.Option.{some}
use lib.ListN.{get_elem?}
use Rattle.buffer_word.specs.Changes.{PublishAdds15}
use Rattle.buffer_word.specs.KeyWord.{IsKey, key_word}
use Rattle.pool_model.specs.declared.buffer.Buffer.{Buffer}
use Rattle.pool_model.specs.declared.buffer.BufferKey.{BufferKey}
use Rattle.pool_model.specs.declared.buffer.BufferMode.{BufferMode}
use Rattle.pool_model.specs.declared.buffer.BufferMode.TheVariants as mode
use Rattle.pool_model.specs.declared.pool.PlainPool.{PlainPool}
use Rattle.pool_model.specs.declared.step.Step.{Step}
use Rattle.pool_model.specs.declared.step.Step.TheVariants.{Name, Publish}
use Rattle.pool_model.specs.Buffer.{Holds, CanName, named, CanPublish, published, Fits}
use Rattle.pool_model.specs.Content.{Files, IsRange, cells_of}
use Rattle.pool_model.specs.Lawful.{IsLawfulBuffer, HoldersFit}
use Rattle.pool_model.specs.Laws.{EveryRunIsLawful}
use Rattle.pool_model.specs.Pool.{buffer_at, buffer_covers}
use Rattle.pool_model.specs.Step.{Needs, after}
use Rattle.pool_rule.specs.declared.geometry.Setup.{Setup}
use Rattle.pool_rule.specs.declared.view.Access.TheVariants.{Changed}
use Rattle.pool_rule.specs.declared.view.Claim.{Claim}
use Rattle.pool_rule.specs.declared.view.Claim.TheVariants.{Unclaimed, Fresh, Gone, Carried}
use Rattle.pool_rule.specs.declared.view.Hold.{Hold}
use Rattle.pool_rule.specs.declared.view.Hold.TheVariants.{Free, Bid, Pinned}
use Rattle.pool_rule.specs.declared.view.Mark.{Mark}
use Rattle.pool_rule.specs.declared.view.View.{View}
use Rattle.pool_rule.specs.Headers.{HasContent, HoldFits, ClaimFits, MarkFits, hold_count, packed, state_of}
use Rattle.pool_rule.specs.Layout.{headers_of, header_word}
use Rattle.pool_rule.specs.Rule.{Kept, IsStory, StandsFor, setting_of, cells_in, count_of}
use Rattle.pool_rule.specs.Seats.{mark_at, noted, with_step, with_mark}
use Rattle.pool_rule.specs.WordSteps.{naming, publishing}
use Rattle.pool_rule.proofs.Counting.{FitsBits, bits_fit, some_value}
use Rattle.pool_rule.proofs.Frame.{below, is_view}
use Rattle.pool_rule.proofs.HeaderStep.{header_step}
use Rattle.pool_rule.proofs.Story.{story_lawful, story_more, mine, theirs}

none_held : (seat : ℕ) (holders : List ℕ) → holders ≡ [] → Holds seat holders → ⊥
none_held seat holders e held = let P : List ℕ → Type 0 = λ l. Holds seat l in let f : Holds seat [] = subst P e held in cc

no_holders : (m : BufferMode) (holders : List ℕ) → m ≡ mode.New → HoldersFit m holders → holders ≡ []
no_holders mode.New holders e fits = fits
no_holders mode.Live holders e fits = cc
no_holders mode.Moving holders e fits = fits
no_holders mode.Evicted holders e fits = fits

some_same : (a b : ℕ) → Some a ≡ Some b → a ≡ b
some_same a b e = cc

hold_named : (seat : ℕ) (key : BufferKey) (y : Buffer) (x : Hold) → y.holders ≡ [] → HoldFits seat (Some y) x → HoldFits seat (Some (named key y)) x
hold_named seat key y Free none fits = fits
hold_named seat key y Bid none fits = fits
hold_named seat key y (Pinned k known) none fits = absurd (none_held seat y.holders none fits.0)

claim_named : (seat id : ℕ) (key : BufferKey) (y : Buffer) (x : Claim) → y.claimant ≡ Some id → seat ≢ id → ClaimFits seat (Some y) x → ClaimFits seat (Some (named key y)) x
claim_named seat id key y Unclaimed mine_is apart fits = fits
claim_named seat id key y (Fresh k known done) mine_is apart fits = absurd (apart (some_same seat id (sym fits.1 ∙ mine_is)))
claim_named seat id key y (Gone k) mine_is apart fits = absurd (apart (some_same seat id (sym fits.1 ∙ mine_is)))
claim_named seat id key y (Carried k t known done next) mine_is apart fits = absurd (apart (some_same seat id (sym fits.1 ∙ mine_is)))

only_holder : (seat id : ℕ) → seat ≢ id → Holds seat (id ∷ []) → ⊥
only_holder seat id apart held =
    let none : list_any (λ s. s == seat) (id ∷ []) ≡ false = rw (ne_eqb id seat (λ e. apart (sym e))) refl in
    let f : true ≡ false = sym held ∙ none in cc

own_holder : (id : ℕ) → Holds id (id ∷ [])
own_holder id = rw (eq-eqb id id refl) refl

hold_published : (seat id : ℕ) (y : Buffer) (x : Hold) → y.holders ≡ [] → seat ≢ id → HoldFits seat (Some y) x → HoldFits seat (Some (published id y)) x
hold_published seat id y Free none apart fits = λ held. only_holder seat id apart held
hold_published seat id y Bid none apart fits = λ held. only_holder seat id apart held
hold_published seat id y (Pinned k known) none apart fits = absurd (none_held seat y.holders none fits.0)

claim_published : (seat id : ℕ) (y : Buffer) (x : Claim) → y.claimant ≡ Some id → seat ≢ id → ClaimFits seat (Some y) x → ClaimFits seat (Some (published id y)) x
claim_published seat id y Unclaimed mine_is apart fits = λ claimed. let f : None ≡ Some seat = claimed in cc
claim_published seat id y (Fresh k known done) mine_is apart fits = absurd (apart (some_same seat id (sym fits.1 ∙ mine_is)))
claim_published seat id y (Gone k) mine_is apart fits = absurd (apart (some_same seat id (sym fits.1 ∙ mine_is)))
claim_published seat id y (Carried k t known done next) mine_is apart fits = absurd (apart (some_same seat id (sym fits.1 ∙ mine_is)))

module _ (law : EveryRunIsLawful) (files : Option Files) (setup : Setup) (words : List ℕ) (views : List View) (log : List Step) (pool : PlainPool) (h : StandsFor files setup words views log pool) (id : ℕ) (v : View) (at : get_elem? views id ≡ some v) (live : 0 < length v.numbers) (header : ℕ) (inside : header < headers_of setup.geometry) (few : length pool.grants ≤ 4096) (y : Buffer) (has : buffer_at pool header ≡ Some y) (is_new : y.mode ≡ mode.New) (claimed : y.claimant ≡ Some id) where
  lawful_y : IsLawfulBuffer (setting_of files setup.geometry) (length pool.grants) y
  lawful_y = some_value _ (buffer_at pool header) y has ((story_lawful law files setup.geometry (length views) log pool h.story).buffers header)

  no_holder : y.holders ≡ []
  no_holder = no_holders y.mode y.holders is_new lawful_y.holders

  old_mark : MarkFits id (Some y) (mark_at v header)
  old_mark =
      let is = is_view files setup words views log pool h id v at live in
      let P : View × Option Buffer → Type 0 = λ z. MarkFits id z.1 (mark_at z.0 header) in
      subst P (λ k. (is k, has k)) ((h.headers header inside).each_seat id)

  -- a seat that claims a new buffer has no pin of it
  pub holds_none : (mark_at v header).hold ≢ Bid → (mark_at v header).hold ≡ Free
  holds_none no_bid = of_hold (mark_at v header).hold no_bid old_mark.0
    where
      of_hold : (x : Hold) → x ≢ Bid → HoldFits id (Some y) x → x ≡ Free
      of_hold Free ne fits = refl
      of_hold Bid ne fits = absurd (ne refl)
      of_hold (Pinned k known) ne fits = absurd (none_held id y.holders no_holder fits.0)

  abbrev i : ℕ
  i = header_word setup.geometry header

  content_y : HasContent setup.geometry (get_or words (header_word setup.geometry header + 1) 0) (cells_in setup.geometry words) y
  content_y = some_value _ (buffer_at pool header) y has (h.headers header inside).content

  -- the key is stored
  module _ (key : BufferKey) (no_key : y.key ≡ None) (none_done : y.done ≡ 0) (packs : IsKey (packed key)) (fits : Fits (setting_of files setup.geometry) key y.block) (range : IsRange files key) where
    pub names : Kept files setup (set words (i + 1) (key_word (packed key))) (set views id (noted (i + 1) (get_or words (i + 1) 0) (key_word (packed key)) Changed (naming id header y.block key v)))
    unfolding noted with_step with_mark
    names =
        let g = setup.geometry in
        let n : ℕ = key_word (packed key) in
        let m : Mark = record { hold = (mark_at v header).hold; claim = Fresh y.block (Some key) 0 } in
        let w = noted (i + 1) (get_or words (i + 1) 0) n Changed (naming id header y.block key v) in
        let s : Step = Name id header key in
        let o : Option Buffer = Some (named key y) in
        let N : Option Buffer → Type 0 = λ x. IsSomeAnd x (CanName (setting_of files g) id key) in
        let needs : Needs (setting_of files g) s pool = subst N (sym has) (is_new, claimed, no_key, fits, range) in
        let is_after : after s pool ≡ record pool { buffers = set pool.buffers header o } = ap (λ (x : Option Buffer). record pool { buffers = set pool.buffers header (option_map (named key) x) }) has in
        let S : PlainPool → Type 0 = λ p. IsStory files g (length views) (log ++ s ∷ []) p in
        let wide : i + 1 < length words = omega (arith, h.all_words, inside) in
        let T : (seat : ℕ) → seat ≢ id → (x : Mark) → MarkFits seat (buffer_at pool header) x → MarkFits seat o x =
        λ seat apart x f. let X : Option Buffer → Type 0 = λ q. MarkFits seat q x in let k = subst X has f in (hold_named seat key y x.hold no_holder k.0, claim_named seat id key y x.claim claimed apart k.1) in (
          log ++ s ∷ [],
          (
            record pool { buffers = set pool.buffers header o },
            header_step files setup words views log pool h id v at live header inside (i + 1) n w m o (s ∷ [])
                (record { numbers = refl; geometry = refl; marks = length-set v.marks header m; granted = refl }) refl refl (mine s) (λ k apart. theirs s k apart) refl (omega arith) (omega arith) refl
                (subst S is_after (story_more files g (length views) log pool s h.story needs (below files setup words views log pool h id v at live) (length-set pool.buffers header _) refl))
                (λ count e. get_or-set_other words (i + 1) i n 0 (λ q. omega (arith, q)) ∙ ((h.headers header inside).state_is ∙ (ap (state_of (count_of header views)) has ∙ ap (λ k. state_of k o) (omega (arith, e)))))
                (record { key_packs = packs; key_is = get_or-set_same words (i + 1) n 0 wide; cells = content_y.cells; target_cells = content_y.target_cells })
                (hold_named id key y (mark_at v header).hold no_holder old_mark.0, (is_new, claimed, refl, refl, none_done))
                T
                (λ k. sym (ap (buffer_covers k header) has)),
          ),
        )

  -- it is published
  module _ (add : PublishAdds15) (small : count_of header views ≤ 63) (key : BufferKey) (key_is : y.key ≡ Some key) (done : y.done ≡ cells_of key) (free : (mark_at v header).hold ≡ Free) where
    abbrev n : ℕ
    n = get_or words (header_word setup.geometry header) 0

    pub publishes : Kept files setup (set words i ((n + 15) % 2 ^ 64)) (set views id (noted i n ((n + 15) % 2 ^ 64) Changed (publishing id header y.block key v)))
    unfolding noted with_step with_mark
    publishes =
        let g = setup.geometry in
        let left : ℕ = (n + 15) % 2 ^ 64 in
        let m : Mark = record { hold = Pinned y.block (Some key); claim = Unclaimed } in
        let w = noted i n left Changed (publishing id header y.block key v) in
        let s : Step = Publish id header in
        let o : Option Buffer = Some (published id y) in
        let N : Option Buffer → Type 0 = λ x. IsSomeAnd x (CanPublish id) in
        let D : Option BufferKey → Type 0 = λ k. IsSomeAnd k (λ x. y.done ≡ cells_of x) in
        let needs : Needs (setting_of files g) s pool = subst N (sym has) (is_new, claimed, subst D (sym key_is) done) in
        let is_after : after s pool ≡ record pool { buffers = set pool.buffers header o } = ap (λ (x : Option Buffer). record pool { buffers = set pool.buffers header (option_map (published id) x) }) has in
        let S : PlainPool → Type 0 = λ p. IsStory files g (length views) (log ++ s ∷ []) p in
        let wide : i < length words = omega (arith, h.all_words, inside) in
        let bits : FitsBits (Some y) = bits_fit files g (length pool.grants) (Some y) few lawful_y in
        let state : n ≡ state_of (count_of header views) (Some y) = (h.headers header inside).state_is ∙ ap (state_of (count_of header views)) has in
        let M : BufferMode → Type 0 = λ k. n ≡ state_of (count_of header views) (Some (record y { mode = k })) in
        let new_state = subst M is_new state in
        let no_count : hold_count (mark_at v header).hold ≡ 0 = ap hold_count free in
        let key_same : get_or (set words i left) (i + 1) 0 ≡ get_or words (i + 1) 0 = get_or-set_other words i (i + 1) left 0 (λ q. omega (arith, q)) in
        let C : ℕ → Type 0 = λ k. HasContent g k (cells_in g words) (published id y) in
        let T : (seat : ℕ) → seat ≢ id → (x : Mark) → MarkFits seat (buffer_at pool header) x → MarkFits seat o x =
        λ seat apart x f. let X : Option Buffer → Type 0 = λ q. MarkFits seat q x in let k = subst X has f in (hold_published seat id y x.hold no_holder apart k.0, claim_published seat id y x.claim claimed apart k.1) in (
          log ++ s ∷ [],
          (
            record pool { buffers = set pool.buffers header o },
            header_step files setup words views log pool h id v at live header inside i left w m o (s ∷ [])
                (record { numbers = refl; geometry = refl; marks = length-set v.marks header m; granted = refl }) refl refl (mine s) (λ k apart. theirs s k apart) refl (omega arith) (omega arith) refl
                (subst S is_after (story_more files g (length views) log pool s h.story needs (below files setup words views log pool h id v at live) (length-set pool.buffers header _) refl))
                (λ count e.
                let one : count ≡ count_of header views + 1 = omega (arith, e, no_count) in
                get_or-set_same words i left 0 wide ∙ (ap (λ k. (k + 15) % 2 ^ 64) new_state ∙ (add (count_of header views) y.block.order y.block.place (omega (arith, small)) bits.0 bits.1 ∙ ap (λ k. state_of k o) (sym one))))
                (subst C (sym key_same) (record { key_packs = content_y.key_packs; key_is = content_y.key_is; cells = content_y.cells; target_cells = content_y.target_cells }))
                ((own_holder id, refl, key_is), λ c. let f : None ≡ Some id = c in cc)
                T
                (λ k. sym (ap (buffer_covers k header) has)),
          ),
        )

-- A header is opened: a granted block becomes a new buffer.
use Rattle.std.proofs.Common.{◌≡◌, ◌≢◌, ℕ, zero, suc, ◌+◌, ◌*◌, ◌<◌, List, [], ◌∷◌, ◌++◌, length, get_or, set, refl, sym, ap, ◌∙◌, subst, arith}
use Rattle.std.specs.Prelude.{Option, None, Some}
use Rattle.std.proofs.lemmas.List.{get_or-set_same, length-set}
use mathlib.Core.Option.{some}
use lib.ListN.{get_elem?}
use Rattle.buffer_word.specs.Changes.{OpenedWord}
use Rattle.buffer_word.specs.StateWord.{word_of}
use Rattle.pool_model.specs.declared.block.Block.{Block}
use Rattle.pool_model.specs.declared.buffer.Buffer.{Buffer}
use Rattle.pool_model.specs.declared.buffer.BufferMode.{BufferMode}
use Rattle.pool_model.specs.declared.buffer.BufferMode.TheVariants as mode
use Rattle.pool_model.specs.declared.pool.GrantedBlock.{GrantedBlock}
use Rattle.pool_model.specs.declared.pool.PlainPool.{PlainPool}
use Rattle.pool_model.specs.declared.step.Step.{Step}
use Rattle.pool_model.specs.declared.step.Step.TheVariants.{Open}
use Rattle.pool_model.specs.Block.{IsBlock, bytes_in, cells_for}
use Rattle.pool_model.specs.Buffer.{Holds, opened}
use Rattle.pool_model.specs.Content.{Files}
use Rattle.pool_model.specs.Pool.{buffer_at, grant_at, buffer_covers, grant_covers, owners}
use Rattle.pool_model.specs.Step.{Needs}
use Rattle.pool_rule.specs.declared.geometry.Setup.{Setup}
use Rattle.pool_rule.specs.declared.view.Access.TheVariants.{Exchanged}
use Rattle.pool_rule.specs.declared.view.Claim.{Claim}
use Rattle.pool_rule.specs.declared.view.Claim.TheVariants.{Unclaimed, Fresh, Gone, Carried}
use Rattle.pool_rule.specs.declared.view.Hold.{Hold}
use Rattle.pool_rule.specs.declared.view.Hold.TheVariants.{Free, Bid, Pinned}
use Rattle.pool_rule.specs.declared.view.Mark.{Mark}
use Rattle.pool_rule.specs.declared.view.View.{View}
use Rattle.pool_rule.specs.Headers.{HoldFits, ClaimFits, MarkFits, mode_of, state_of}
use Rattle.pool_rule.specs.Layout.{headers_of, places_of, header_word, block_cells}
use Rattle.pool_rule.specs.Rule.{Kept, StandsFor, setting_of, cells_in, count_of, own_grant}
use Rattle.pool_rule.specs.Seats.{mark_at, granted_at, noted, with_step, with_granted, with_mark}
use Rattle.pool_rule.specs.WordSteps.{new_word, opening}
use Rattle.pool_rule.proofs.Blocks.{place_below}
use Rattle.pool_rule.proofs.Frame.{below, is_view}
use Rattle.pool_rule.proofs.Grants.{own_is, own_other, grants_change}
use Rattle.pool_rule.proofs.HeaderStep.{header_step_any}
use Rattle.pool_rule.proofs.Lists.{total-set}
use Rattle.pool_rule.proofs.Story.{story_more, mine, theirs}

-- ---- the cells that the block shows

pub list_from : (ℕ → ℕ) → ℕ → List ℕ
list_from f zero = []
list_from f (suc n) = f 0 ∷ list_from (λ k. f (suc k)) n

length-from : (f : ℕ → ℕ) (n : ℕ) → length (list_from f n) ≡ n
unfolding list_from
length-from f zero = refl
length-from f (suc n) = ap suc (length-from (λ k. f (suc k)) n)

get-from : (f : ℕ → ℕ) (n j : ℕ) → j < n → get_or (list_from f n) j 0 ≡ f j
unfolding list_from
get-from f zero j h = absurd (omega (arith, h))
get-from f (suc n) zero h = refl
get-from f (suc n) (suc j) h = get-from (λ k. f (suc k)) n j (omega (arith, h))

-- ---- a released header without a count

no_mode : (count order place : ℕ) (m : BufferMode) → word_of count (mode_of m) order place ≡ 8 → ⊥
no_mode count order place mode.New e = omega (arith, e)
no_mode count order place mode.Live e = omega (arith, e)
no_mode count order place mode.Moving e = omega (arith, e)
no_mode count order place mode.Evicted e = omega (arith, e)

released : (count : ℕ) (o : Option Buffer) → state_of count o ≡ 8 → (o ≡ None) × (count ≡ 0)
released count None e = (refl, omega (arith, e))
released count (Some b) e = absurd (no_mode count b.block.order b.block.place b.mode e)

-- ---- marks

hold_at_none : (seat : ℕ) (x : Hold) (b : Block) (id : ℕ) (cells : List ℕ) → HoldFits seat None x → HoldFits seat (Some (opened b id cells)) x
hold_at_none seat Free b id cells fits = λ held. let f : Holds seat [] = held in cc
hold_at_none seat Bid b id cells fits = λ held. let f : Holds seat [] = held in cc
hold_at_none seat (Pinned k key) b id cells fits = absurd fits

some_is : (a b : ℕ) → Some a ≡ Some b → a ≡ b
some_is a b e = cc

claim_at_none : (seat : ℕ) (x : Claim) (b : Block) (id : ℕ) (cells : List ℕ) → seat ≢ id → ClaimFits seat None x → ClaimFits seat (Some (opened b id cells)) x
claim_at_none seat Unclaimed b id cells apart fits = λ claimed. apart (sym (some_is id seat claimed))
claim_at_none seat (Fresh k key done) b id cells apart fits = absurd fits
claim_at_none seat (Gone k) b id cells apart fits = absurd fits
claim_at_none seat (Carried k t key done next) b id cells apart fits = absurd fits

-- ---- owners: the block goes from a grant to a buffer

owners_moved : (p : PlainPool) (header place : ℕ) (b : Block) (id : ℕ) (cells : List ℕ) (k : ℕ) → header < length p.buffers → place < length p.grants → place ≡ b.place → buffer_at p header ≡ None → grant_at p place ≡ Some (record { order = b.order; owner = id }) → owners (record p { buffers = set p.buffers header (Some (opened b id cells)); grants = set p.grants place None }) k ≡ owners p k
unfolding owners
owners_moved p header place b id cells k h1 h2 at none grant =
    let one = total-set (buffer_covers k) p.buffers header (Some (opened b id cells)) None h1 in
    let two = total-set (grant_covers k) p.grants place None None h2 in
    let was : buffer_covers k header (get_or p.buffers header None) ≡ 0 = ap (buffer_covers k header) none in
    let had : grant_covers k place (get_or p.grants place None) ≡ grant_covers k place (Some (record { order = b.order; owner = id })) = ap (grant_covers k place) grant in
    let same : grant_covers k place (Some (record { order = b.order; owner = id })) ≡ buffer_covers k header (Some (opened b id cells)) + 0 = covers_same k place b id at header cells in
    omega (arith, one, two, was, had, same)
  where
    covers_same : (k place : ℕ) (b : Block) (id : ℕ) → place ≡ b.place → (header : ℕ) (cells : List ℕ) → grant_covers k place (Some (record { order = b.order; owner = id })) ≡ buffer_covers k header (Some (opened b id cells)) + 0
    covers_same k place b id e header cells =
        let g : GrantedBlock = record { order = b.order; owner = id } in
        let s : grant_covers k place (Some g) ≡ grant_covers k b.place (Some g) = ap (λ p. grant_covers k p (Some g)) e in
        let t : grant_covers k b.place (Some g) + 0 ≡ buffer_covers k header (Some (opened b id cells)) = refl in
        omega (arith, s, t)

module _ (open_word : OpenedWord) (files : Option Files) (setup : Setup) (words : List ℕ) (views : List View) (log : List Step) (pool : PlainPool) (h : StandsFor files setup words views log pool) (id : ℕ) (v : View) (at : get_elem? views id ≡ some v) (live : 0 < length v.numbers) (header : ℕ) (inside : header < headers_of setup.geometry) (b : Block) (is_block : IsBlock 6 (places_of setup.geometry) b) (has : granted_at v b.place ≡ Some b.order) (eight : get_or words (header_word setup.geometry header) 0 ≡ 8) where
  none_here : (buffer_at pool header ≡ None) × (count_of header views ≡ 0)
  none_here = released (count_of header views) (buffer_at pool header) (sym (h.headers header inside).state_is ∙ eight)

  old_mark : MarkFits id (buffer_at pool header) (mark_at v header)
  old_mark =
      let is = is_view files setup words views log pool h id v at live in
      let P : View → Type 0 = λ u. MarkFits id (buffer_at pool header) (mark_at u header) in
      subst P is ((h.headers header inside).each_seat id)

  -- so the seat had nothing of the header
  claim_none : (x : Claim) → ClaimFits id None x → x ≡ Unclaimed
  claim_none Unclaimed f = refl
  claim_none (Fresh k key done) f = absurd f
  claim_none (Gone k) f = absurd f
  claim_none (Carried k t key done next) f = absurd f

  pub was_unclaimed : (mark_at v header).claim ≡ Unclaimed
  was_unclaimed = let P : Option Buffer → Type 0 = λ o. ClaimFits id o (mark_at v header).claim in claim_none (mark_at v header).claim (subst P none_here.0 old_mark.1)

  abbrev pub opened_cells : List ℕ
  opened_cells = list_from (λ j. cells_in setup.geometry words (b.place * block_cells setup.geometry + j)) (cells_for (bytes_in setup.geometry.min_block b))

  abbrev cells_then : List ℕ
  cells_then = list_from (λ j. cells_in setup.geometry words (b.place * block_cells setup.geometry + j)) (cells_for (bytes_in setup.geometry.min_block b))

  granted_there : grant_at pool b.place ≡ Some (record { order = b.order; owner = id })
  granted_there =
      let is = is_view files setup words views log pool h id v at live in
      own_is id (grant_at pool b.place) b.order (sym (h.grants id b.place) ∙ (ap (λ u. granted_at u b.place) is ∙ has))

  pub opens : let i = header_word setup.geometry header in Kept files setup (set words i (new_word b)) (set views id (noted i 8 (new_word b) Exchanged (opening id header b cells_then v)))
  unfolding noted with_step with_granted with_mark
  opens =
      let g = setup.geometry in
      let i = header_word g header in
      let m : Mark = record { hold = (mark_at v header).hold; claim = Fresh b None 0 } in
      let w = noted i 8 (new_word b) Exchanged (opening id header b cells_then v) in
      let o : Option Buffer = Some (opened b id cells_then) in
      let pool' : PlainPool = record pool { buffers = set pool.buffers header o; grants = set pool.grants b.place None } in
      let s : Step = Open id header b cells_then in
      let below_place = place_below (places_of g) b is_block.inside in
      let long : header < length pool.buffers = rw h.story.headers inside in
      let wide : b.place < length pool.grants = rw h.story.places below_place in
      let needs : Needs (setting_of files g) s pool = ((long, none_here.0), granted_there, length-from _ (cells_for (bytes_in g.min_block b))) in
      let there : i < length words = omega (arith, h.all_words, inside) in
      let N : Option Buffer → Type 0 = λ x. HoldFits id x (mark_at v header).hold in
      let no_other : (seat : ℕ) → seat ≢ id → own_grant seat (grant_at pool b.place) ≡ None = λ seat apart. ap (own_grant seat) granted_there ∙ own_other seat id b.order apart in (
        log ++ s ∷ [],
        (
          pool',
          header_step_any files setup words views log pool h id v at live header inside i (new_word b) w m o (s ∷ [])
              (record { numbers = refl; geometry = refl; marks = length-set v.marks header m; granted = length-set v.granted b.place None }) refl refl (mine s) (λ n apart. theirs s n apart) refl (omega arith) (omega arith)
              pool' refl
              (story_more files g (length views) log pool s h.story needs (below files setup words views log pool h id v at live) (length-set pool.buffers header o) (length-set pool.grants b.place None))
              (λ count e.
              let zero_count : count ≡ 0 = omega (arith, e, none_here.1) in
              get_or-set_same words i (new_word b) 0 there ∙ (sym (open_word b.order b.place) ∙ ap (λ k. state_of k o) (sym zero_count)))
              (record { key_packs = tt; key_is = tt; cells = λ j less. get-from _ (cells_for (bytes_in g.min_block b)) j (rw (← length-from (λ k. cells_in g words (b.place * block_cells g + k)) (cells_for (bytes_in g.min_block b))) less); target_cells = tt })
              (hold_at_none id (mark_at v header).hold b id cells_then (subst N none_here.0 old_mark.0), (refl, refl, refl, refl, refl))
              (λ seat apart x fits. let X : Option Buffer → Type 0 = λ y. MarkFits seat y x in let f = subst X none_here.0 fits in (hold_at_none seat x.hold b id cells_then f.0, claim_at_none seat x.claim b id cells_then apart f.1))
              (grants_change files setup words views log pool h id v at live w b.place None None refl below_place refl (λ seat apart. refl) no_other)
              (λ k. owners_moved pool header b.place b id cells_then k long wide refl none_here.0 granted_there),
        ),
      )

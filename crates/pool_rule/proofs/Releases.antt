-- The header of an evicted buffer is released: its block becomes a grant, and the rule is kept.
use Rattle.std.proofs.Common.{◌≡◌, ◌≢◌, ℕ, ◌+◌, ◌-◌, ◌*◌, ◌%◌, ◌^◌, ◌<◌, ◌≤◌, List, [], ◌∷◌, ◌++◌, length, get_or, set, refl, sym, ap, ◌∙◌, subst, arith}
use Rattle.std.specs.Prelude.{Option, None, Some, IsSomeAnd}
use Rattle.std.proofs.lemmas.Nat.{pow_pos}
use Rattle.std.proofs.lemmas.List.{get_or-set_same, length-set}
use mathlib.Core.Option.{some}
use lib.ListN.{get_elem?}
use Rattle.buffer_word.specs.declared.state_word.Mode.TheVariants as word_mode
use Rattle.buffer_word.specs.Changes.{Releases}
use Rattle.buffer_word.specs.StateWord.{word_of}
use Rattle.pool_model.specs.declared.block.Block.{Block}
use Rattle.pool_model.specs.declared.buffer.Buffer.{Buffer}
use Rattle.pool_model.specs.declared.buffer.BufferMode.{BufferMode}
use Rattle.pool_model.specs.declared.buffer.BufferMode.TheVariants as mode
use Rattle.pool_model.specs.declared.buffer.Target.{Target}
use Rattle.pool_model.specs.declared.pool.GrantedBlock.{GrantedBlock}
use Rattle.pool_model.specs.declared.pool.PlainPool.{PlainPool}
use Rattle.pool_model.specs.declared.setting.Setting.{Setting}
use Rattle.pool_model.specs.declared.step.Step.{Step}
use Rattle.pool_model.specs.declared.step.Step.TheVariants.{Release}
use Rattle.pool_model.specs.Block.{covers}
use Rattle.pool_model.specs.Buffer.{CanRelease, Holds}
use Rattle.pool_model.specs.Content.{Files}
use Rattle.pool_model.specs.Lawful.{HoldersFit, IsLawful, IsLawfulBuffer, TargetFits}
use Rattle.pool_model.specs.Laws.{EveryRunIsLawful}
use Rattle.pool_model.specs.Pool.{block_of, buffer_at, buffer_covers, grant_at, grant_covers, owners, target_covers}
use Rattle.pool_model.specs.Step.{Needs, after, with_release}
use Rattle.pool_rule.specs.declared.geometry.Setup.{Setup}
use Rattle.pool_rule.specs.declared.view.Access.TheVariants.{Changed}
use Rattle.pool_rule.specs.declared.view.Claim.{Claim}
use Rattle.pool_rule.specs.declared.view.Claim.TheVariants.{Unclaimed, Fresh, Gone, Carried}
use Rattle.pool_rule.specs.declared.view.Hold.{Hold}
use Rattle.pool_rule.specs.declared.view.Hold.TheVariants.{Free, Bid, Pinned}
use Rattle.pool_rule.specs.declared.view.Mark.{Mark}
use Rattle.pool_rule.specs.declared.view.View.{View}
use Rattle.pool_rule.specs.Headers.{HoldFits, ClaimFits, MarkFits, mode_of, state_of}
use Rattle.pool_rule.specs.Layout.{headers_of, header_word}
use Rattle.pool_rule.specs.Rule.{Kept, IsStory, StandsFor, setting_of, count_of, own_grant}
use Rattle.pool_rule.specs.Seats.{granted_at, mark_at, noted, with_granted, with_mark, with_step}
use Rattle.pool_rule.specs.WordSteps.{releasing}
use Rattle.pool_rule.proofs.Blocks.{covers_within, place_below}
use Rattle.pool_rule.proofs.Counting.{some_value}
use Rattle.pool_rule.proofs.Frame.{below, is_view}
use Rattle.pool_rule.proofs.Grants.{grants_change, own_mine, own_other}
use Rattle.pool_rule.proofs.HeaderStep.{header_step_any}
use Rattle.pool_rule.proofs.Lists.{total-at, total-set}
use Rattle.pool_rule.proofs.Story.{story_lawful, story_more, mine, theirs}

-- ---- the buffer that a seat evicts

pub gone_in : (seat : ℕ) (o : Option Buffer) (b : Block) → ClaimFits seat o (Gone b) → (y : Buffer) × (o ≡ Some y) × (y.mode ≡ mode.Evicted) × (y.claimant ≡ Some seat) × (y.block ≡ b)
gone_in seat None b fits = absurd fits
gone_in seat (Some y) b fits = (y, refl, fits.0, fits.1, fits.2)

no_holders : (m : BufferMode) (holders : List ℕ) → m ≡ mode.Evicted → HoldersFit m holders → holders ≡ []
no_holders mode.New holders e fits = fits
no_holders mode.Live holders e fits = cc
no_holders mode.Moving holders e fits = fits
no_holders mode.Evicted holders e fits = fits

no_target : (setting : Setting) (places : ℕ) (m : BufferMode) (b : Block) (t : Option Target) → m ≡ mode.Evicted → TargetFits setting places m b t → t ≡ None
no_target setting places mode.New b t e fits = fits
no_target setting places mode.Live b t e fits = fits
no_target setting places mode.Evicted b t e fits = fits
no_target setting places mode.Moving b t e fits = cc

-- ---- marks of a header without a buffer

none_holds : (seat : ℕ) (holders : List ℕ) → holders ≡ [] → Holds seat holders → ⊥
none_holds seat holders e held = let P : List ℕ → Type 0 = λ l. Holds seat l in let f : Holds seat [] = subst P e held in cc

hold_released : (seat : ℕ) (y : Buffer) (x : Hold) → y.holders ≡ [] → HoldFits seat (Some y) x → HoldFits seat None x
hold_released seat y Free none fits = λ held. held
hold_released seat y Bid none fits = λ held. held
hold_released seat y (Pinned b key) none fits = absurd (none_holds seat y.holders none fits.0)

some_same : (a b : ℕ) → Some a ≡ Some b → a ≡ b
some_same a b e = cc

claim_released : (seat id : ℕ) (y : Buffer) (x : Claim) → y.claimant ≡ Some id → seat ≢ id → ClaimFits seat (Some y) x → ClaimFits seat None x
claim_released seat id y Unclaimed mine_is apart fits = λ claimed. claimed
claim_released seat id y (Fresh b key done) mine_is apart fits = absurd (apart (some_same seat id (sym fits.1 ∙ mine_is)))
claim_released seat id y (Gone b) mine_is apart fits = absurd (apart (some_same seat id (sym fits.1 ∙ mine_is)))
claim_released seat id y (Carried b t key done next) mine_is apart fits = absurd (apart (some_same seat id (sym fits.1 ∙ mine_is)))

-- ---- owners: the block goes from a buffer to a grant

-- where a buffer's block begins, no granted block does
no_grant_there : (p : PlainPool) (header : ℕ) (y : Buffer) → ((m : ℕ) → owners p m ≤ 1) → header < length p.buffers → y.block.place < length p.grants → buffer_at p header ≡ Some y → grant_at p y.block.place ≡ None
unfolding owners
no_grant_there p header y once h1 h2 has = go (grant_at p y.block.place) refl
  where
    go : (o : Option GrantedBlock) → grant_at p y.block.place ≡ o → o ≡ None
    go None e = refl
    go (Some g) e =
        let place : ℕ = y.block.place in
        let one = total-at (buffer_covers place) p.buffers header None h1 in
        let two = total-at (grant_covers place) p.grants place None h2 in
        let a : buffer_covers place header (buffer_at p header) ≡ covers y.block place + target_covers place y.target = ap (buffer_covers place header) has in
        let b : grant_covers place place (grant_at p place) ≡ covers (block_of place g) place = ap (grant_covers place place) e in
        let c = covers_within y.block place (omega arith, omega (arith, pow_pos y.block.order)) in
        let d = covers_within (block_of place g) place (omega arith, omega (arith, pow_pos g.order)) in
        absurd (omega (arith, one, two, a, b, c, d, once place))

owners_released : (p : PlainPool) (header id : ℕ) (y : Buffer) (k : ℕ) → header < length p.buffers → y.block.place < length p.grants → buffer_at p header ≡ Some y → y.target ≡ None → grant_at p y.block.place ≡ None →
    owners (record p { buffers = set p.buffers header None; grants = set p.grants y.block.place (Some (record { order = y.block.order; owner = id })) }) k ≡ owners p k
unfolding owners
owners_released p header id y k h1 h2 has no_target none =
    let g : GrantedBlock = record { order = y.block.order; owner = id } in
    let one = total-set (buffer_covers k) p.buffers header None None h1 in
    let two = total-set (grant_covers k) p.grants y.block.place (Some g) None h2 in
    let was : buffer_covers k header (buffer_at p header) ≡ covers y.block k + target_covers k y.target = ap (buffer_covers k header) has in
    let target : target_covers k y.target ≡ 0 = ap (target_covers k) no_target in
    let had : grant_covers k y.block.place (grant_at p y.block.place) ≡ 0 = ap (grant_covers k y.block.place) none in
    let same : grant_covers k y.block.place (Some g) ≡ covers y.block k = refl in
    omega (arith, one, two, was, target, had, same)

-- the number that is added is one, for all counts
released_number : (order place k : ℕ) → order < 2 ^ 4 → place < 2 ^ 20 → k < 2 ^ 64 → Releases order place k → k ≡ (2 ^ 64 + 4 - order * 2 ^ 20 - place * 2 ^ 24) % 2 ^ 64
released_number order place k h1 h2 fits releases = let e = releases 0 (omega arith) in omega (arith, h1, h2, fits, e)

pub released_sum : (order place k n : ℕ) → order < 2 ^ 4 → place < 2 ^ 20 → k < 2 ^ 64 → Releases order place k → (n + k) % 2 ^ 64 ≡ (n + (2 ^ 64 + 4 - order * 2 ^ 20 - place * 2 ^ 24)) % 2 ^ 64
released_sum order place k n h1 h2 fits releases = let e = released_number order place k h1 h2 fits releases in omega (arith, e)

module _ (law : EveryRunIsLawful) (files : Option Files) (setup : Setup) (words : List ℕ) (views : List View) (log : List Step) (pool : PlainPool) (h : StandsFor files setup words views log pool) (id : ℕ) (v : View) (at : get_elem? views id ≡ some v) (live : 0 < length v.numbers) (header : ℕ) (inside : header < headers_of setup.geometry) (small : count_of header views ≤ 64) (y : Buffer) (has : buffer_at pool header ≡ Some y) (is_gone : y.mode ≡ mode.Evicted) (claimed : y.claimant ≡ Some id) where
  lawful : IsLawful (setting_of files setup.geometry) pool
  lawful = story_lawful law files setup.geometry (length views) log pool h.story

  lawful_y : IsLawfulBuffer (setting_of files setup.geometry) (length pool.grants) y
  lawful_y = some_value _ (buffer_at pool header) y has (lawful.buffers header)

  no_holder : y.holders ≡ []
  no_holder = no_holders y.mode y.holders is_gone lawful_y.holders

  long : header < length pool.buffers
  long = rw h.story.headers inside

  wide : y.block.place < length pool.grants
  wide = place_below (length pool.grants) y.block lawful_y.is_block.inside

  none_there : grant_at pool y.block.place ≡ None
  none_there = no_grant_there pool header y lawful.apart long wide has

  old_mark : MarkFits id (Some y) (mark_at v header)
  old_mark =
      let is = is_view files setup words views log pool h id v at live in
      let P : View × Option Buffer → Type 0 = λ z. MarkFits id z.1 (mark_at z.0 header) in
      subst P (λ k. (is k, has k)) ((h.headers header inside).each_seat id)

  -- so the seat had none there
  pub had_no_grant : granted_at v y.block.place ≡ None
  had_no_grant =
      let is = is_view files setup words views log pool h id v at live in
      ap (λ u. granted_at u y.block.place) (sym is) ∙ (h.grants id y.block.place ∙ ap (own_grant id) none_there)

  abbrev i : ℕ
  i = header_word setup.geometry header

  abbrev n : ℕ
  n = get_or words (header_word setup.geometry header) 0

  word_is : n ≡ word_of (count_of header views) word_mode.Evicted y.block.order y.block.place
  word_is =
      (h.headers header inside).state_is
      ∙ (ap (state_of (count_of header views)) has ∙ ap (λ (k : BufferMode). word_of (count_of header views) (mode_of k) y.block.order y.block.place) is_gone)

  pub releases : (k : ℕ) → Releases y.block.order y.block.place k → Kept files setup (set words i ((n + k) % 2 ^ 64)) (set views id (noted i n ((n + k) % 2 ^ 64) Changed (releasing id header y.block v)))
  unfolding noted with_step with_granted with_mark
  releases k to_released =
      let g = setup.geometry in
      let left : ℕ = (n + k) % 2 ^ 64 in
      let m : Mark = record { hold = (mark_at v header).hold; claim = Unclaimed } in
      let w = noted i n left Changed (releasing id header y.block v) in
      let s : Step = Release id header in
      let granted : GrantedBlock = record { order = y.block.order; owner = id } in
      let pool' : PlainPool = record pool { buffers = set pool.buffers header None; grants = set pool.grants y.block.place (Some granted) } in
      let N : Option Buffer → Type 0 = λ x. IsSomeAnd x (CanRelease id) in
      let needs : Needs (setting_of files g) s pool = subst N (sym has) (is_gone, claimed) in
      let is_after : after s pool ≡ pool' = ap (λ (x : Option Buffer). with_release id header x pool) has in
      let S : PlainPool → Type 0 = λ p. IsStory files g (length views) (log ++ s ∷ []) p in
      let there : i < length words = omega (arith, h.all_words, inside) in
      let same_buffers : length (after s pool).buffers ≡ length pool.buffers = ap (λ (p : PlainPool). length p.buffers) is_after ∙ length-set pool.buffers header None in
      let same_places : length (after s pool).grants ≡ length pool.grants = ap (λ (p : PlainPool). length p.grants) is_after ∙ length-set pool.grants y.block.place (Some granted) in
      let T : (seat : ℕ) → seat ≢ id → (x : Mark) → MarkFits seat (buffer_at pool header) x → MarkFits seat None x =
      λ seat apart x f. let X : Option Buffer → Type 0 = λ q. MarkFits seat q x in let z = subst X has f in (hold_released seat y x.hold no_holder z.0, claim_released seat id y x.claim claimed apart z.1) in (
        log ++ s ∷ [],
        (
          pool',
          header_step_any files setup words views log pool h id v at live header inside i left w m None (s ∷ [])
              (record { numbers = refl; geometry = refl; marks = length-set v.marks header m; granted = length-set v.granted y.block.place (Some y.block.order) }) refl refl (mine s) (λ z apart. theirs s z apart) refl (omega arith) (omega arith)
              pool' refl
              (subst S is_after (story_more files g (length views) log pool s h.story needs (below files setup words views log pool h id v at live) same_buffers same_places))
              (λ count e.
              let same : count ≡ count_of header views = omega (arith, e) in
              get_or-set_same words i left 0 there ∙ (ap (λ z. (z + k) % 2 ^ 64) word_is ∙ (to_released (count_of header views) (omega (arith, small)) ∙ ap (λ z. state_of z None) (sym same))))
              tt
              (hold_released id y (mark_at v header).hold no_holder old_mark.0, λ claimed_then. claimed_then)
              T
              (grants_change files setup words views log pool h id v at live w y.block.place (Some y.block.order) (Some granted) refl (rw (← h.story.places) wide) (own_mine id y.block.order) (λ seat apart. own_other seat id y.block.order apart) (λ seat apart. ap (own_grant seat) none_there))
              (λ z. owners_released pool header id y z long wide has (no_target _ _ y.mode y.block y.target is_gone lawful_y.target) none_there),
        ),
      )

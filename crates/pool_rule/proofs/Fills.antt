-- A cell of a new buffer is filled: the rule is kept.
use Rattle.std.proofs.Common.{◌≡◌, ◌≢◌, ℕ, ◌+◌, ◌*◌, ◌/◌, ◌%◌, ◌^◌, ◌<◌, ◌≤◌, List, [], ◌∷◌, ◌++◌, length, get_or, set, refl, sym, ap, ◌∙◌, subst, inl, inr, arith}
use Rattle.std.specs.Prelude.{Option, None, Some, option_map, IfSome, IsSomeAnd}
use Rattle.std.specs.Int.{bit_at}
use Rattle.std.proofs.lemmas.Bool.{cases_eq}
use Rattle.std.proofs.lemmas.List.{get_or-set_same, get_or-set_other, length-set}
use Rattle.std.proofs.Math.Nat.{mul-le-mul_left, mul_comm, mul-add}
use mathlib.Core.Option.{some}
use lib.ListN.{get_elem?}
use Rattle.pool_model.specs.declared.block.Block.{Block}
use Rattle.pool_model.specs.declared.buffer.Buffer.{Buffer}
use Rattle.pool_model.specs.declared.buffer.BufferKey.{BufferKey}
use Rattle.pool_model.specs.declared.buffer.BufferMode.{BufferMode}
use Rattle.pool_model.specs.declared.buffer.BufferMode.TheVariants as mode
use Rattle.pool_model.specs.declared.buffer.Target.{Target}
use Rattle.pool_model.specs.declared.pool.PlainPool.{PlainPool}
use Rattle.pool_model.specs.declared.setting.Setting.{Setting}
use Rattle.pool_model.specs.declared.step.Step.{Step}
use Rattle.pool_model.specs.declared.step.Step.TheVariants.{Fill}
use Rattle.pool_model.specs.Block.{bytes_in, cells_for}
use Rattle.pool_model.specs.Buffer.{CanFill, filled}
use Rattle.pool_model.specs.Content.{Files, IsCell, cells_of}
use Rattle.pool_model.specs.Lawful.{IsLawful, IsLawfulBuffer, TargetFits}
use Rattle.pool_model.specs.Laws.{EveryRunIsLawful}
use Rattle.pool_model.specs.Pool.{buffer_at, buffer_covers}
use Rattle.pool_model.specs.Step.{Needs, after}
use Rattle.pool_rule.specs.declared.geometry.Setup.{Setup}
use Rattle.pool_rule.specs.declared.view.Access.TheVariants.{Changed}
use Rattle.pool_rule.specs.declared.view.Claim.{Claim}
use Rattle.pool_rule.specs.declared.view.Claim.TheVariants.{Unclaimed, Fresh, Gone, Carried}
use Rattle.pool_rule.specs.declared.view.Hold.{Hold}
use Rattle.pool_rule.specs.declared.view.Hold.TheVariants.{Free, Bid, Pinned}
use Rattle.pool_rule.specs.declared.view.Mark.{Mark}
use Rattle.pool_rule.specs.declared.view.View.{View}
use Rattle.pool_rule.specs.Headers.{HasContent, IsHeader, HoldFits, ClaimFits, MarkFits, hold_count, state_of}
use Rattle.pool_rule.specs.Layout.{headers_of, places_of, header_word, cell_word, block_cells}
use Rattle.pool_rule.specs.Rule.{Kept, IsStory, StandsFor, StandsForBuffer, setting_of, cells_in, count_of, marks_of, view_at}
use Rattle.pool_rule.specs.Seats.{mark_at, granted_at, spent, clear_mark, noted, with_step, with_mark}
use Rattle.pool_rule.specs.WordSteps.{filling}
use Rattle.pool_rule.proofs.Cells.{content_stays, content_filled, cells_in_block}
use Rattle.pool_rule.proofs.Counting.{some_value}
use Rattle.pool_rule.proofs.Frame.{below, is_view, own, stands_after}
use Rattle.pool_rule.proofs.HeaderStep.{owners_same}
use Rattle.pool_rule.proofs.Lists.{total-set, same_at}
use Rattle.pool_rule.proofs.Quiet.{grants_stay}
use Rattle.pool_rule.proofs.Story.{story_lawful, story_more, mine, theirs}

-- what the words say of the cells is all that changes of a header

new_target : (setting : Setting) (places : ℕ) (m : BufferMode) (b : Block) (t : Option Target) → m ≡ mode.New → TargetFits setting places m b t → t ≡ None
new_target setting places mode.New b t e fits = fits
new_target setting places mode.Live b t e fits = fits
new_target setting places mode.Evicted b t e fits = fits
new_target setting places mode.Moving b t e fits = cc

-- a target has all its cells
target_cells : (setting : Setting) (places : ℕ) (m : BufferMode) (b : Block) (t : Option Target) → TargetFits setting places m b t → IfSome t (λ (z : Target). length z.cells ≡ cells_for (bytes_in setting.min_block z.block))
target_cells setting places mode.New b t fits = let P : Option Target → Type 0 = λ o. IfSome o (λ (z : Target). length z.cells ≡ cells_for (bytes_in setting.min_block z.block)) in subst P (sym fits) tt
target_cells setting places mode.Live b t fits = let P : Option Target → Type 0 = λ o. IfSome o (λ (z : Target). length z.cells ≡ cells_for (bytes_in setting.min_block z.block)) in subst P (sym fits) tt
target_cells setting places mode.Evicted b t fits = let P : Option Target → Type 0 = λ o. IfSome o (λ (z : Target). length z.cells ≡ cells_for (bytes_in setting.min_block z.block)) in subst P (sym fits) tt
target_cells setting places mode.Moving b None fits = tt
target_cells setting places mode.Moving b (Some t) fits = fits.all_cells

hold_filled : (seat value : ℕ) (y : Buffer) (x : Hold) → HoldFits seat (Some y) x → HoldFits seat (Some (filled value y)) x
hold_filled seat value y Free fits = fits
hold_filled seat value y Bid fits = fits
hold_filled seat value y (Pinned k key) fits = fits

-- another seat has no claim on a buffer that a seat has claimed
some_same : (a b : ℕ) → Some a ≡ Some b → a ≡ b
some_same a b e = cc

claim_filled : (seat id value : ℕ) (y : Buffer) (x : Claim) → y.claimant ≡ Some id → seat ≢ id → ClaimFits seat (Some y) x → ClaimFits seat (Some (filled value y)) x
claim_filled seat id value y Unclaimed mine_is apart fits = fits
claim_filled seat id value y (Fresh k key done) mine_is apart fits = absurd (apart (some_same seat id (sym fits.1 ∙ mine_is)))
claim_filled seat id value y (Gone k) mine_is apart fits = absurd (apart (some_same seat id (sym fits.1 ∙ mine_is)))
claim_filled seat id value y (Carried k t key done next) mine_is apart fits = absurd (apart (some_same seat id (sym fits.1 ∙ mine_is)))

-- the buffer of a fresh claim
pub fresh_in : (id : ℕ) (o : Option Buffer) (b : Block) (key : Option BufferKey) (done : ℕ) → ClaimFits id o (Fresh b key done) → (y : Buffer) × (o ≡ Some y) × (y.mode ≡ mode.New) × (y.claimant ≡ Some id) × (y.block ≡ b) × (y.key ≡ key) × (y.done ≡ done)
fresh_in id None b key done fits = absurd fits
fresh_in id (Some y) b key done fits = (y, refl, fits.0, fits.1, fits.2, fits.3, fits.4)

in_block : (len bytes done cells : ℕ) → len ≤ bytes → cells_for bytes ≡ cells → done < cells_for len → done < cells
unfolding cells_for
in_block len bytes done cells fits is less = omega (arith, fits, is, less)

module _ (law : EveryRunIsLawful) (files : Option Files) (setup : Setup) (eights : setup.geometry.min_block ≡ 8 * block_cells setup.geometry) (words : List ℕ) (views : List View) (log : List Step) (pool : PlainPool) (h : StandsFor files setup words views log pool) (id : ℕ) (v : View) (at : get_elem? views id ≡ some v) (live : 0 < length v.numbers) (header : ℕ) (inside : header < headers_of setup.geometry) (y : Buffer) (has : buffer_at pool header ≡ Some y) (is_new : y.mode ≡ mode.New) (claimed : y.claimant ≡ Some id) (key : BufferKey) (key_is : y.key ≡ Some key) (more : y.done < cells_of key) (value : ℕ) (cell_is : IsCell files key y.done value) where
  lawful : IsLawful (setting_of files setup.geometry) pool
  lawful = story_lawful law files setup.geometry (length views) log pool h.story

  lawful_y : IsLawfulBuffer (setting_of files setup.geometry) (length pool.grants) y
  lawful_y = some_value _ (buffer_at pool header) y has (lawful.buffers header)

  abbrev n : ℕ
  n = y.block.place * block_cells setup.geometry + y.done

  abbrev i : ℕ
  i = cell_word setup.geometry (y.block.place * block_cells setup.geometry + y.done)

  -- the cell is one of the block's
  room : y.done < 2 ^ y.block.order * block_cells setup.geometry
  room =
      let fits = some_value _ y.key key key_is lawful_y.key in
      let blocks = cells_in_block setup.geometry y.block eights in
      in_block key.len (bytes_in setup.geometry.min_block y.block) y.done (2 ^ y.block.order * block_cells setup.geometry) fits.fits blocks more

  -- the word lies in the table
  wide : i < length words
  wide =
      let g = setup.geometry in
      let end : y.block.place + 2 ^ y.block.order ≤ places_of g = rw (← h.story.places) lawful_y.is_block.inside in
      let up = mul-le-mul_left (block_cells g) end in
      let a = mul_comm (block_cells g) (y.block.place + 2 ^ y.block.order) in
      let b = mul_comm (block_cells g) (places_of g) in
      let c = mul_comm (block_cells g) y.block.place in
      let d = mul_comm (block_cells g) (2 ^ y.block.order) in
      let e = mul-add (block_cells g) y.block.place (2 ^ y.block.order) in
      let r = room in
      omega (arith, up, a, b, c, d, e, r, h.all_words)

  same_cells : (k : ℕ) → k ≢ y.block.place * block_cells setup.geometry + y.done → cells_in setup.geometry (set words i value) k ≡ cells_in setup.geometry words k
  same_cells k apart = get_or-set_other words i (cell_word setup.geometry k) value 0 (λ e. apart (omega (arith, e)))

  here_cell : cells_in setup.geometry (set words i value) (y.block.place * block_cells setup.geometry + y.done) ≡ value
  here_cell = get_or-set_same words i value 0 wide

  abbrev m_then : Mark
  m_then = record { hold = (mark_at v header).hold; claim = Fresh y.block (Some key) (y.done + 1) }

  module _ (w : View) (marks : w.marks ≡ set v.marks header m_then) where
    mark_here : mark_at w header ≡ m_then
    mark_here =
        let long : header < length v.marks = rw ((own files setup words views log pool h id v at live).marks live) inside in
        ap (λ l. get_or l header clear_mark) marks ∙ get_or-set_same v.marks header m_then clear_mark long

    mark_there : (other : ℕ) → other ≢ header → mark_at w other ≡ mark_at v other
    mark_there other apart = ap (λ l. get_or l other clear_mark) marks ∙ get_or-set_other v.marks header other m_then clear_mark apart

    hold_same : (other : ℕ) → (mark_at w other).hold ≡ (mark_at v other).hold
    hold_same other =
        elim (cases_eq other header) [
          | inl same ↦ ap (λ k. (mark_at w k).hold) same ∙ (ap (λ (m : Mark). m.hold) mark_here ∙ ap (λ k. (mark_at v k).hold) (sym same))
          | inr apart ↦ ap (λ (m : Mark). m.hold) (mark_there other apart)
        ]

    count_same : (other : ℕ) → count_of other (set views id w) ≡ count_of other views
    count_same other =
        let below_id = below files setup words views log pool h id v at live in
        let is = is_view files setup words views log pool h id v at live in
        let change = total-set (λ _ u. hold_count (mark_at u other).hold) views id w spent below_id in
        let was : hold_count (mark_at (view_at views id) other).hold ≡ hold_count (mark_at v other).hold = ap (λ u. hold_count (mark_at u other).hold) is in
        let now : hold_count (mark_at w other).hold ≡ hold_count (mark_at v other).hold = ap hold_count (hold_same other) in
        omega (arith, change, was, now)

    state_same : (other : ℕ) → other < headers_of setup.geometry → get_or (set words i value) (header_word setup.geometry other) 0 ≡ get_or words (header_word setup.geometry other) 0
    state_same other there = get_or-set_other words i (header_word setup.geometry other) value 0 (λ e. omega (arith, e, there))

    key_same : (other : ℕ) → other < headers_of setup.geometry → get_or (set words i value) (header_word setup.geometry other + 1) 0 ≡ get_or words (header_word setup.geometry other + 1) 0
    key_same other there = get_or-set_other words i (header_word setup.geometry other + 1) value 0 (λ e. omega (arith, e, there))

    old_mark : MarkFits id (Some y) (mark_at v header)
    old_mark =
        let is = is_view files setup words views log pool h id v at live in
        let P : View × Option Buffer → Type 0 = λ z. MarkFits id z.1 (mark_at z.0 header) in
        subst P (λ k. (is k, has k)) ((h.headers header inside).each_seat id)

    -- the header whose cell it is
    header_here : IsHeader setup.geometry (get_or (set words i value) (header_word setup.geometry header) 0) (get_or (set words i value) (header_word setup.geometry header + 1) 0) (cells_in setup.geometry (set words i value)) (count_of header (set views id w)) (marks_of header (set views id w)) (Some (filled value y))
    header_here =
        let g = setup.geometry in
        let below_id = below files setup words views log pool h id v at live in
        let old = h.headers header inside in
        let K : ℕ → Type 0 = λ k. HasContent g k (cells_in g (set words i value)) (filled value y) in
        let content : HasContent g (get_or words (header_word g header + 1) 0) (cells_in g words) y = some_value _ (buffer_at pool header) y has old.content in
        let less : y.done < length y.cells = let all = lawful_y.all_cells in let c = cells_in_block g y.block eights in let r = room in omega (arith, all, c, r) in
        record {
          state_is = state_same header inside ∙ (old.state_is ∙ (ap (state_of (count_of header views)) has ∙ ap (λ k. state_of k (Some y)) (sym (count_same header))));
          content = subst K (sym (key_same header inside)) (content_filled g eights y (get_or words (header_word g header + 1) 0) value (cells_in g words) (cells_in g (set words i value)) lawful_y.all_cells (new_target _ _ y.mode y.block y.target is_new lawful_y.target) less here_cell same_cells content);
          each_seat = λ seat.
              elim (cases_eq seat id) [
                | inl me ↦
                    let now : view_at (set views id w) seat ≡ w = ap (λ k. view_at (set views id w) k) me ∙ get_or-set_same views id w spent below_id in
                    let R : ℕ × Mark → Type 0 = λ z. MarkFits z.0 (Some (filled value y)) z.1 in
                    let e : marks_of header (set views id w) seat ≡ m_then = ap (λ u. mark_at u header) now ∙ mark_here in
                    subst R (λ k. (sym me k, sym e k)) (hold_filled id value y (mark_at v header).hold old_mark.0, (is_new, claimed, refl, key_is, refl))
                | inr other ↦
                    let R : View → Type 0 = λ u. MarkFits seat (Some (filled value y)) (mark_at u header) in
                    let M : Option Buffer → Type 0 = λ o. MarkFits seat o (marks_of header views seat) in
                    let f = subst M has (old.each_seat seat) in
                    subst R (sym (get_or-set_other views id seat w spent other)) (hold_filled seat value y (marks_of header views seat).hold f.0, claim_filled seat id value y (marks_of header views seat).claim claimed other f.1)
              ];
        }

    -- another header
    content_other : (other : ℕ) → other ≢ header → other < headers_of setup.geometry → (o : Option Buffer) → buffer_at pool other ≡ o → IfSome o (HasContent setup.geometry (get_or words (header_word setup.geometry other + 1) 0) (cells_in setup.geometry words)) → IfSome o (HasContent setup.geometry (get_or words (header_word setup.geometry other + 1) 0) (cells_in setup.geometry (set words i value)))
    content_other other apart there None e c = tt
    content_other other apart there (Some z) e c =
        let g = setup.geometry in
        let lawful_z : IsLawfulBuffer (setting_of files g) (length pool.grants) z = some_value _ (buffer_at pool other) z e (lawful.buffers other) in
        content_stays g eights pool header other y z (length pool.grants) (get_or words (header_word g other + 1) 0) (cells_in g words) (cells_in g (set words i value)) y.done lawful.apart (λ q. apart (sym q)) (rw h.story.headers inside) (rw h.story.headers there) has e
        lawful_z.all_cells (target_cells _ _ z.mode z.block z.target lawful_z.target) room same_cells c

    header_there : (other : ℕ) → other ≢ header → other < headers_of setup.geometry → IsHeader setup.geometry (get_or (set words i value) (header_word setup.geometry other) 0) (get_or (set words i value) (header_word setup.geometry other + 1) 0) (cells_in setup.geometry (set words i value)) (count_of other (set views id w)) (marks_of other (set views id w)) (buffer_at pool other)
    header_there other apart there =
        let g = setup.geometry in
        let below_id = below files setup words views log pool h id v at live in
        let is = is_view files setup words views log pool h id v at live in
        let old = h.headers other there in
        let K : ℕ → Type 0 = λ k. IfSome (buffer_at pool other) (HasContent g k (cells_in g (set words i value))) in
        let mark : mark_at w other ≡ mark_at (view_at views id) other = mark_there other apart ∙ sym (ap (λ u. mark_at u other) is) in
        record {
          state_is = state_same other there ∙ (old.state_is ∙ ap (λ k. state_of k (buffer_at pool other)) (sym (count_same other)));
          content = subst K (sym (key_same other there)) (content_other other apart there (buffer_at pool other) refl old.content);
          each_seat = λ seat. let P : Mark → Type 0 = λ m. MarkFits seat (buffer_at pool other) m in subst P (sym (same_at (λ u. mark_at u other) views id w spent below_id mark seat)) (old.each_seat seat);
        }

  pub fills : Kept files setup (set words i value) (set views id (noted i (get_or words i 0) value Changed (filling id header y.block key y.done value v)))
  unfolding noted with_step with_mark
  fills =
      let g = setup.geometry in
      let w = noted i (get_or words i 0) value Changed (filling id header y.block key y.done value v) in
      let s : Step = Fill id header value in
      let o : Option Buffer = Some (filled value y) in
      let pool' : PlainPool = record pool { buffers = set pool.buffers header o } in
      let below_id = below files setup words views log pool h id v at live in
      let long : header < length pool.buffers = rw h.story.headers inside in
      let N : Option Buffer → Type 0 = λ x. IsSomeAnd x (CanFill (setting_of files g) id value) in
      let K : Option BufferKey → Type 0 = λ k. IsSomeAnd k (λ x. y.done < cells_of x) in
      let L : Option BufferKey → Type 0 = λ k. IsSomeAnd k (λ x. IsCell files x y.done value) in
      let needs : Needs (setting_of files g) s pool = subst N (sym has) (is_new, claimed, subst K (sym key_is) more, subst L (sym key_is) cell_is) in
      let is_after : after s pool ≡ pool' = ap (λ (x : Option Buffer). record pool { buffers = set pool.buffers header (option_map (filled value) x) }) has in
      let S : PlainPool → Type 0 = λ p. IsStory files g (length views) (log ++ s ∷ []) p in (
        log ++ s ∷ [],
        (
          pool',
          stands_after files setup words views log pool h id v at live i value w
              (record { numbers = refl; geometry = refl; marks = length-set v.marks header m_then; granted = refl }) refl (s ∷ []) refl (mine s) (λ k apart. theirs s k apart) pool'
              (subst S is_after (story_more files g (length views) log pool s h.story needs below_id (length-set pool.buffers header _) refl))
              (λ other there.
              elim (cases_eq other header) [
                | inl same ↦
                    let P : ℕ → Type 0 = λ k. StandsForBuffer g (set words i value) (set views id w) pool' k in
                    let Q : Option Buffer → Type 0 = λ x. IsHeader g (get_or (set words i value) (header_word g header) 0) (get_or (set words i value) (header_word g header + 1) 0) (cells_in g (set words i value)) (count_of header (set views id w)) (marks_of header (set views id w)) x in
                    subst P (sym same) (subst Q (sym (get_or-set_same pool.buffers header o None long)) (header_here w refl))
                | inr apart ↦
                    let Q : Option Buffer → Type 0 = λ x. IsHeader g (get_or (set words i value) (header_word g other) 0) (get_or (set words i value) (header_word g other + 1) 0) (cells_in g (set words i value)) (count_of other (set views id w)) (marks_of other (set views id w)) x in
                    subst Q (sym (get_or-set_other pool.buffers header other o None apart)) (header_there w refl other apart there)
              ])
              (λ seat place. grants_stay views id w below_id (λ p. sym (ap (λ u. granted_at u p) (is_view files setup words views log pool h id v at live))) seat place ∙ h.grants seat place)
              (λ k there.
              let arena : get_or (set words i value) (k / 64) 0 ≡ get_or words (k / 64) 0 = get_or-set_other words i (k / 64) value 0 (λ e. omega (arith, e, there)) in
              let covers : buffer_covers k header o ≡ buffer_covers k header (buffer_at pool header) = sym (ap (buffer_covers k header) has) in
              ap (λ x. bit_at x (k % 64)) arena ∙ (h.bits k there ∙ sym (owners_same pool header o k long covers))),
        ),
      )

-- One of a header's two words changes, its buffer, and what one seat has of it.
use Rattle.std.proofs.Common.{◌≡◌, ◌≢◌, ℕ, ◌+◌, ◌/◌, ◌%◌, ◌<◌, ◌≤◌, List, [], ◌++◌, length, get_or, set, refl, sym, ap, ◌∙◌, subst, inl, inr, arith}
use Rattle.std.specs.Prelude.{Option, None, option_map, IfSome}
use Rattle.std.specs.Int.{bit_at}
use Rattle.std.proofs.lemmas.Bool.{cases_eq}
use Rattle.std.proofs.lemmas.List.{get_or-set_same, get_or-set_other}
use mathlib.Core.Option.{some}
use lib.ListN.{get_elem?}
use Rattle.pool_model.specs.declared.buffer.Buffer.{Buffer}
use Rattle.pool_model.specs.declared.pool.PlainPool.{PlainPool}
use Rattle.pool_model.specs.declared.step.Step.{Step}
use Rattle.pool_model.specs.Content.{Files}
use Rattle.pool_model.specs.Pool.{buffer_at, grant_at, buffer_covers, owners}
use Rattle.pool_rule.specs.declared.geometry.Setup.{Setup}
use Rattle.pool_rule.specs.declared.view.Mark.{Mark}
use Rattle.pool_rule.specs.declared.view.View.{View}
use Rattle.pool_rule.specs.Headers.{HasContent, IsHeader, MarkFits, hold_count, state_of}
use Rattle.pool_rule.specs.Layout.{headers_of, header_word, cell_word}
use Rattle.pool_rule.specs.Rule.{IsStory, StandsFor, StandsForBuffer, view_at, steps_of, own_grant, cells_in, count_of, marks_of}
use Rattle.pool_rule.specs.Seats.{mark_at, granted_at, spent, clear_mark}
use Rattle.pool_rule.proofs.Frame.{IsAlike, below, is_view, own, stands_after, header_stays, header_again}
use Rattle.pool_rule.proofs.Lists.{total-set}
use Rattle.pool_rule.proofs.Quiet.{grants_stay}

pub owners_same : (p : PlainPool) (header : ℕ) (o : Option Buffer) (m : ℕ) → header < length p.buffers → buffer_covers m header o ≡ buffer_covers m header (buffer_at p header) → owners (record p { buffers = set p.buffers header o }) m ≡ owners p m
unfolding owners
owners_same p header o m h same = omega (arith, total-set (buffer_covers m) p.buffers header o None h, same)

module _ (files : Option Files) (setup : Setup) (words : List ℕ) (views : List View) (log : List Step) (pool : PlainPool) (h : StandsFor files setup words views log pool) (id : ℕ) (v : View) (at : get_elem? views id ≡ some v) (live : 0 < length v.numbers) (header : ℕ) (inside : header < headers_of setup.geometry) where
  module _ (i n : ℕ) (w : View) (m : Mark) (o : Option Buffer) (added : List Step) (like : IsAlike v w) (knows : w.known ≡ option_map (λ ws. set ws i n) v.known) (steps : w.steps ≡ v.steps ++ added) (mine : steps_of id added ≡ added) (theirs : (s : ℕ) → s ≢ id → steps_of s added ≡ []) (marks : w.marks ≡ set v.marks header m) (from : header_word setup.geometry header ≤ i) (to : i < header_word setup.geometry header + 2) where
    mark_here : mark_at w header ≡ m
    mark_here =
        let long : header < length v.marks = rw ((own files setup words views log pool h id v at live).marks live) inside in
        ap (λ l. get_or l header clear_mark) marks ∙ get_or-set_same v.marks header m clear_mark long

    mark_there : (other : ℕ) → other ≢ header → mark_at w other ≡ mark_at v other
    mark_there other apart = ap (λ l. get_or l other clear_mark) marks ∙ get_or-set_other v.marks header other m clear_mark apart

    -- how many seats have a pin or a bid then
    count_then : count_of header (set views id w) + hold_count (mark_at v header).hold ≡ count_of header views + hold_count m.hold
    count_then =
        let below_id = below files setup words views log pool h id v at live in
        let is = is_view files setup words views log pool h id v at live in
        let change = total-set (λ _ u. hold_count (mark_at u header).hold) views id w spent below_id in
        let was : hold_count (mark_at (view_at views id) header).hold ≡ hold_count (mark_at v header).hold = ap (λ u. hold_count (mark_at u header).hold) is in
        let now : hold_count (mark_at w header).hold ≡ hold_count m.hold = ap (λ (x : Mark). hold_count x.hold) mark_here in
        omega (arith, change, was, now)

    -- no cell's word changes
    cells_same : (j : ℕ) → cells_in setup.geometry (set words i n) j ≡ cells_in setup.geometry words j
    cells_same j = get_or-set_other words i (cell_word setup.geometry j) n 0 (λ e. omega (arith, e, to, inside))

    -- the general frame: whatever becomes of grants
    pub header_step_any : (pool' : PlainPool) → pool'.buffers ≡ set pool.buffers header o → IsStory files setup.geometry (length views) (log ++ added) pool' → ((count : ℕ) → count + hold_count (mark_at v header).hold ≡ count_of header views + hold_count m.hold → get_or (set words i n) (header_word setup.geometry header) 0 ≡ state_of count o) → IfSome o (HasContent setup.geometry (get_or (set words i n) (header_word setup.geometry header + 1) 0) (cells_in setup.geometry words)) → MarkFits id o m → ((seat : ℕ) → seat ≢ id → (x : Mark) → MarkFits seat (buffer_at pool header) x → MarkFits seat o x) → ((seat place : ℕ) → granted_at (view_at (set views id w) seat) place ≡ own_grant seat (grant_at pool' place)) → ((k : ℕ) → owners pool' k ≡ owners pool k) → StandsFor files setup (set words i n) (set views id w) (log ++ added) pool'
    header_step_any pool' buffers story state content fits_mine fits_theirs grants owned =
        let g = setup.geometry in
        let below_id = below files setup words views log pool h id v at live in
        let is = is_view files setup words views log pool h id v at live in
        let long : header < length pool.buffers = rw h.story.headers inside in
        let here : buffer_at pool' header ≡ o = ap (λ (l : List (Option Buffer)). get_or l header None) buffers ∙ get_or-set_same pool.buffers header o None long in
        let same_cells : (j : ℕ) → cells_in g (set words i n) j ≡ cells_in g words j = cells_same in
        stands_after files setup words views log pool h id v at live i n w like knows added steps mine theirs pool' story
        (λ other there.
        elim (cases_eq other header) [
          | inl same ↦
              let P : ℕ → Type 0 = λ k. StandsForBuffer g (set words i n) (set views id w) pool' k in
              let Q : Option Buffer → Type 0 = λ b. IsHeader g (get_or (set words i n) (header_word g header) 0) (get_or (set words i n) (header_word g header + 1) 0) (cells_in g (set words i n)) (count_of header (set views id w)) (marks_of header (set views id w)) b in
              subst P (sym same)
              (subst Q (sym here)
              (header_again g _ _ (cells_in g words) _ (marks_of header (set views id w)) o _ _ (cells_in g (set words i n)) _ (marks_of header (set views id w)) refl refl same_cells refl (λ s. refl)
              (record {
                state_is = state (count_of header (set views id w)) count_then;
                content = content;
                each_seat = λ seat.
                    elim (cases_eq seat id) [
                      | inl me ↦
                          let now : view_at (set views id w) seat ≡ w = ap (λ k. view_at (set views id w) k) me ∙ get_or-set_same views id w spent below_id in
                          let R : ℕ × Mark → Type 0 = λ z. MarkFits z.0 o z.1 in
                          let e : marks_of header (set views id w) seat ≡ m = ap (λ u. mark_at u header) now ∙ mark_here in
                          subst R (λ k. (sym me k, sym e k)) fits_mine
                      | inr other ↦
                          let R : View → Type 0 = λ u. MarkFits seat o (mark_at u header) in
                          subst R (sym (get_or-set_other views id seat w spent other)) (fits_theirs seat other (marks_of header views seat) ((h.headers header inside).each_seat seat))
                    ];
              })))
          | inr apart ↦
              let P : Option Buffer → Type 0 = λ b. IsHeader g (get_or (set words i n) (header_word g other) 0) (get_or (set words i n) (header_word g other + 1) 0) (cells_in g (set words i n)) (count_of other (set views id w)) (marks_of other (set views id w)) b in
              subst P (sym (ap (λ (l : List (Option Buffer)). get_or l other None) buffers ∙ get_or-set_other pool.buffers header other o None apart))
              (header_stays files setup words views log pool h id v at live i n w like knows added steps mine theirs other there (mark_there other apart)
              (get_or-set_other words i (header_word g other) n 0 (λ e. omega (arith, e, from, to, apart)))
              (get_or-set_other words i (header_word g other + 1) n 0 (λ e. omega (arith, e, from, to, apart)))
              same_cells)
        ])
        grants
        (λ k there.
        let arena : get_or (set words i n) (k / 64) 0 ≡ get_or words (k / 64) 0 = get_or-set_other words i (k / 64) n 0 (λ e. omega (arith, e, from, there)) in
        ap (λ x. bit_at x (k % 64)) arena ∙ (h.bits k there ∙ sym (owned k)))

    -- grants stay
    pub header_step : w.granted ≡ v.granted → IsStory files setup.geometry (length views) (log ++ added) (record pool { buffers = set pool.buffers header o }) → ((count : ℕ) → count + hold_count (mark_at v header).hold ≡ count_of header views + hold_count m.hold → get_or (set words i n) (header_word setup.geometry header) 0 ≡ state_of count o) → IfSome o (HasContent setup.geometry (get_or (set words i n) (header_word setup.geometry header + 1) 0) (cells_in setup.geometry words)) → MarkFits id o m → ((seat : ℕ) → seat ≢ id → (x : Mark) → MarkFits seat (buffer_at pool header) x → MarkFits seat o x) → ((k : ℕ) → buffer_covers k header o ≡ buffer_covers k header (buffer_at pool header)) → StandsFor files setup (set words i n) (set views id w) (log ++ added) (record pool { buffers = set pool.buffers header o })
    header_step granted story state content fits_mine fits_theirs covers =
        let below_id = below files setup words views log pool h id v at live in
        let is = is_view files setup words views log pool h id v at live in
        let long : header < length pool.buffers = rw h.story.headers inside in
        header_step_any (record pool { buffers = set pool.buffers header o }) refl story state content fits_mine fits_theirs
        (λ seat place. grants_stay views id w below_id (λ p. ap (λ l. get_or l p None) granted ∙ sym (ap (λ u. granted_at u p) is)) seat place ∙ h.grants seat place)
        (λ k. owners_same pool header o k long (covers k))

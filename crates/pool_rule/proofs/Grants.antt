-- A block is granted, or given back: one arena's word changes, and what one seat has of the arenas.
use Rattle.std.proofs.Common.{◌≡◌, ◌≢◌, ℕ, ◌+◌, ◌/◌, ◌%◌, ◌^◌, ◌<◌, List, [], ◌∷◌, ◌++◌, length, get_or, set, refl, sym, ap, ◌∙◌, subst, inl, inr, arith, eq-eqb, ne_eqb, bit_and, bit_or}
use Rattle.std.specs.Prelude.{Option, None, Some, option_map}
use Rattle.std.specs.Int.{w64, bit_at, bit_not}
use Rattle.std.proofs.lemmas.Bool.{cases_eq}
use Rattle.std.proofs.lemmas.List.{get_or-set_same, get_or-set_other, length-set}
use Rattle.std.proofs.lemmas.Nat.{pow_pos}
use mathlib.Core.Option.{some}
use lib.ListN.{get_elem?}
use Rattle.buddy_arena.specs.Block.{IsClear, IsMask}
use Rattle.buddy_arena.specs.Laws.{CoversInArena, SettingTakes, ClearingGives}
use Rattle.pool_model.specs.declared.block.Block.{Block}
use Rattle.pool_model.specs.declared.pool.GrantedBlock.{GrantedBlock}
use Rattle.pool_model.specs.declared.pool.PlainPool.{PlainPool}
use Rattle.pool_model.specs.declared.step.Step.{Step}
use Rattle.pool_model.specs.declared.step.Step.TheVariants.{Grant, Ungrant}
use Rattle.pool_model.specs.Block.{IsBlock, covers}
use Rattle.pool_model.specs.Content.{Files}
use Rattle.pool_model.specs.Pool.{grant_at, block_of, grant_covers, owners}
use Rattle.pool_model.specs.Step.{IsFree, Needs, after}
use Rattle.pool_rule.specs.declared.geometry.Setup.{Setup}
use Rattle.pool_rule.specs.declared.view.Access.TheVariants.{Exchanged, Changed}
use Rattle.pool_rule.specs.declared.view.View.{View}
use Rattle.pool_rule.specs.Layout.{places_of, header_word, cell_word}
use Rattle.pool_rule.specs.Rule.{IsStory, Kept, seat_of, steps_of, setting_of, StandsFor, AreBits, view_at, own_grant}
use Rattle.pool_rule.specs.Seats.{clear_mark, granted_at, spent, noted, with_step, with_granted}
use Rattle.pool_rule.proofs.Blocks.{in_arena, covers_within, place_below, bits_set, bits_cleared}
use Rattle.pool_rule.proofs.Frame.{IsAlike, below, is_view, own, stands_after, header_stays}
use Rattle.pool_rule.proofs.Lists.{total-set, total-at}
use Rattle.pool_rule.proofs.Story.{story_more, mine, theirs}

-- ---- what is granted at a place, as a seat sees it

pub own_is : (seat : ℕ) (o : Option GrantedBlock) (k : ℕ) → own_grant seat o ≡ Some k → o ≡ Some (record { order = k; owner = seat })
own_is seat None k e = cc
own_is seat (Some g) k e =
    elim (cases_eq g.owner seat) [
      | inl same ↦
          let f : Some g.order ≡ Some k = rw (eq-eqb g.owner seat same) at e in
          let o : g.order ≡ k = cc in
          λ i. Some (record { order = o i; owner = same i })
      | inr other ↦ let f : None ≡ Some k = rw (ne_eqb g.owner seat other) at e in cc
    ]

pub own_mine : (seat k : ℕ) → own_grant seat (Some (record { order = k; owner = seat })) ≡ Some k
own_mine seat k = rw (eq-eqb seat seat refl) refl

pub own_other : (seat owner k : ℕ) → seat ≢ owner → own_grant seat (Some (record { order = k; owner = owner })) ≡ None
own_other seat owner k apart = rw (ne_eqb owner seat (λ e. apart (sym e))) refl

-- ---- owners through a change of one place

owners_change : (p : PlainPool) (place : ℕ) (o : Option GrantedBlock) (m : ℕ) → place < length p.grants → owners (record p { grants = set p.grants place o }) m + grant_covers m place (grant_at p place) ≡ owners p m + grant_covers m place o
unfolding owners
owners_change p place o m h = omega (arith, total-set (grant_covers m) p.grants place o None h)

-- at a place that nobody has, no granted block begins
no_grant : (p : PlainPool) (place : ℕ) → place < length p.grants → owners p place ≡ 0 → grant_at p place ≡ None
unfolding owners
no_grant p place h free = go (grant_at p place) refl
  where
    go : (o : Option GrantedBlock) → grant_at p place ≡ o → o ≡ None
    go None e = refl
    go (Some g) e =
        let part = total-at (grant_covers place) p.grants place None h in
        let is : grant_covers place place (grant_at p place) ≡ covers (block_of place g) place = ap (grant_covers place place) e in
        let one = covers_within (block_of place g) place (omega arith, omega (arith, pow_pos g.order)) in
        absurd (omega (arith, part, is, one, free))

-- ---- the frame of an arena's word and one place

module _ (files : Option Files) (setup : Setup) (words : List ℕ) (views : List View) (log : List Step) (pool : PlainPool) (h : StandsFor files setup words views log pool) (id : ℕ) (v : View) (at : get_elem? views id ≡ some v) (live : 0 < length v.numbers) where
  -- the seat has another block granted at the place, or none, and so has the pool
  pub grants_change : (w : View) (place : ℕ) (k : Option ℕ) (o : Option GrantedBlock) → w.granted ≡ set v.granted place k → place < places_of setup.geometry → own_grant id o ≡ k → ((seat : ℕ) → seat ≢ id → own_grant seat o ≡ None) → ((seat : ℕ) → seat ≢ id → own_grant seat (grant_at pool place) ≡ None) → (seat q : ℕ) → granted_at (view_at (set views id w) seat) q ≡ own_grant seat (get_or (set pool.grants place o) q None)
  grants_change w place k o granted inside is_own no_other had_no_other seat q =
      let below_id = below files setup words views log pool h id v at live in
      let is = is_view files setup words views log pool h id v at live in
      let long : place < length pool.grants = rw h.story.places inside in
      let wide : place < length v.granted = rw ((own files setup words views log pool h id v at live).granted live) inside in
      let old : (s r : ℕ) → granted_at (view_at views s) r ≡ own_grant s (grant_at pool r) = h.grants in
      let here : granted_at w q ≡ get_or (set v.granted place k) q None = ap (λ l. get_or l q None) granted in
      elim (cases_eq seat id) [
        | inl same ↦
            let me : view_at (set views id w) seat ≡ w = ap (λ n. view_at (set views id w) n) same ∙ get_or-set_same views id w spent below_id in
            let left : granted_at (view_at (set views id w) seat) q ≡ get_or (set v.granted place k) q None = ap (λ u. granted_at u q) me ∙ here in
            elim (cases_eq q place) [
              | inl there ↦
                  left ∙ (ap (λ r. get_or (set v.granted place k) r None) there ∙ (get_or-set_same v.granted place k None wide ∙ (sym is_own ∙ (ap (λ s. own_grant s o) (sym same) ∙ ap (own_grant seat) (sym (ap (λ r. get_or (set pool.grants place o) r None) there ∙ get_or-set_same pool.grants place o None long))))))
              | inr away ↦
                  left ∙ (get_or-set_other v.granted place q k None away ∙ (ap (λ u. granted_at u q) (sym is) ∙ (old id q ∙ (ap (λ s. own_grant s (grant_at pool q)) (sym same) ∙ ap (own_grant seat) (sym (get_or-set_other pool.grants place q o None away))))))
            ]
        | inr other ↦
            let them : view_at (set views id w) seat ≡ view_at views seat = get_or-set_other views id seat w spent other in
            elim (cases_eq q place) [
              | inl there ↦
                  ap (λ u. granted_at u q) them ∙ (old seat q ∙ (ap (λ r. own_grant seat (grant_at pool r)) there ∙ (had_no_other seat other ∙ (sym (no_other seat other) ∙ ap (own_grant seat) (sym (ap (λ r. get_or (set pool.grants place o) r None) there ∙ get_or-set_same pool.grants place o None long))))))
              | inr away ↦
                  ap (λ u. granted_at u q) them ∙ (old seat q ∙ ap (own_grant seat) (sym (get_or-set_other pool.grants place q o None away)))
            ]
      ]

  -- an arena's word changes, what one seat has of the arenas, and the grant at one place
  arena_step : (n : ℕ) (w : View) (place : ℕ) (k : Option ℕ) (o : Option GrantedBlock) (s : Step) → IsAlike v w → w.known ≡ option_map (λ ws. set ws (place / 64) n) v.known → w.steps ≡ v.steps ++ s ∷ [] → seat_of s ≡ id → w.marks ≡ v.marks → w.granted ≡ set v.granted place k → place < places_of setup.geometry → Needs (setting_of files setup.geometry) s pool → after s pool ≡ record pool { grants = set pool.grants place o } → own_grant id o ≡ k → ((seat : ℕ) → seat ≢ id → own_grant seat o ≡ None) → ((seat : ℕ) → seat ≢ id → own_grant seat (grant_at pool place) ≡ None) → AreBits setup.geometry (set words (place / 64) n) (record pool { grants = set pool.grants place o }) → StandsFor files setup (set words (place / 64) n) (set views id w) (log ++ s ∷ []) (record pool { grants = set pool.grants place o })
  arena_step n w place k o s like knows steps by marks granted inside needs is_after is_own no_other had_no_other bits =
      let below_id = below files setup words views log pool h id v at live in
      let i : ℕ = place / 64 in
      let arena : i < setup.geometry.arenas = omega (arith, inside) in
      let P : PlainPool → Type 0 = λ p. IsStory files setup.geometry (length views) (log ++ s ∷ []) p in
      let one : steps_of id (s ∷ []) ≡ s ∷ [] = let M : ℕ → Type 0 = λ z. steps_of z (s ∷ []) ≡ s ∷ [] in subst M by (mine s) in
      let seats : seat_of s < length views = rw by below_id in
      let same_buffers : length (after s pool).buffers ≡ length pool.buffers = ap (λ (p : PlainPool). length p.buffers) is_after in
      let same_places : length (after s pool).grants ≡ length pool.grants = ap (λ (p : PlainPool). length p.grants) is_after ∙ length-set pool.grants place o in
      stands_after files setup words views log pool h id v at live i n w like knows (s ∷ []) steps one (λ z apart. theirs s z (λ e. apart (e ∙ by))) (record pool { grants = set pool.grants place o })
      (subst P is_after (story_more files setup.geometry (length views) log pool s h.story needs seats same_buffers same_places))
      (λ header there.
      header_stays files setup words views log pool h id v at live i n w like knows (s ∷ []) steps one (λ z apart. theirs s z (λ e. apart (e ∙ by))) header there (ap (λ l. get_or l header clear_mark) marks)
      (get_or-set_other words i (header_word setup.geometry header) n 0 (λ e. omega (arith, e, arena)))
      (get_or-set_other words i (header_word setup.geometry header + 1) n 0 (λ e. omega (arith, e, arena)))
      (λ j. get_or-set_other words i (cell_word setup.geometry j) n 0 (λ e. omega (arith, e, arena))))
      (grants_change w place k o granted inside is_own no_other had_no_other)
      bits

  -- ---- a block is granted

  module _ (in_arenas : CoversInArena) (sets : SettingTakes) (b : Block) (is_block : IsBlock 6 (places_of setup.geometry) b) (mask : ℕ) (is_mask : IsMask mask (b.place % 64) b.order) (clear : IsClear (get_or words (b.place / 64) 0) (b.place % 64) b.order) where
    is_free : IsFree pool b
    is_free m w =
        let there = in_arena in_arenas (places_of setup.geometry) b is_block m w in
        let inside : m < places_of setup.geometry = omega (arith, w.1, is_block.inside) in
        let word : get_or words (m / 64) 0 ≡ get_or words (b.place / 64) 0 = ap (λ k. get_or words k 0) there.0 in
        sym (h.bits m inside) ∙ (ap (λ x. bit_at x (m % 64)) word ∙ clear.at (m % 64) there.1 there.2)

    none_here : grant_at pool b.place ≡ None
    none_here =
        let inside = place_below (places_of setup.geometry) b is_block.inside in
        no_grant pool b.place (rw h.story.places inside) (is_free b.place (omega arith, omega (arith, pow_pos b.order)))

    -- so the seat had none there
    pub had_none : granted_at v b.place ≡ None
    had_none =
        let is = is_view files setup words views log pool h id v at live in
        ap (λ u. granted_at u b.place) (sym is) ∙ (h.grants id b.place ∙ ap (own_grant id) none_here)

    pub takes : Kept files setup (set words (b.place / 64) (bit_or (get_or words (b.place / 64) 0) mask)) (set views id (noted (b.place / 64) (get_or words (b.place / 64) 0) (bit_or (get_or words (b.place / 64) 0) mask) Exchanged (with_step (Grant id b) (with_granted b.place (Some b.order) v))))
    unfolding noted with_step with_granted
    takes =
        let i : ℕ = b.place / 64 in
        let old : ℕ = get_or words i 0 in
        let new : ℕ = bit_or old mask in
        let w = noted i old new Exchanged (with_step (Grant id b) (with_granted b.place (Some b.order) v)) in
        let g : GrantedBlock = record { order = b.order; owner = id } in
        let inside = place_below (places_of setup.geometry) b is_block.inside in
        let long : b.place < length pool.grants = rw h.story.places inside in
        let wide : i < length words = omega (arith, h.all_words, inside) in
        let none = none_here in
        let fits : IsBlock 6 (length pool.grants) b = rw h.story.places is_block in (
          log ++ Grant id b ∷ [],
          (
            record pool { grants = set pool.grants b.place (Some g) },
            arena_step new w b.place (Some b.order) (Some g) (Grant id b)
                (record { numbers = refl; geometry = refl; marks = refl; granted = length-set v.granted b.place (Some b.order) }) refl refl refl refl refl inside
                (fits, is_free) refl (own_mine id b.order) (λ seat apart. own_other seat id b.order apart) (λ seat apart. ap (own_grant seat) none)
                (λ m there.
                let bit = bits_set in_arenas sets (places_of setup.geometry) b is_block words mask wide is_mask clear m in
                let was = h.bits m there in
                let count = owners_change pool b.place (Some g) m long in
                let gone : grant_covers m b.place (grant_at pool b.place) ≡ 0 = ap (grant_covers m b.place) none in
                omega (arith, bit, was, count, gone)),
          ),
        )

  -- ---- a block is given back

  module _ (in_arenas : CoversInArena) (clears : ClearingGives) (b : Block) (is_block : IsBlock 6 (places_of setup.geometry) b) (has : granted_at v b.place ≡ Some b.order) (mask : ℕ) (is_mask : IsMask mask (b.place % 64) b.order) (mask_fits : mask < 2 ^ 64) (fits : get_or words (b.place / 64) 0 < 2 ^ 64) where
    pub gives : Kept files setup (set words (b.place / 64) (bit_and (get_or words (b.place / 64) 0) (bit_not w64 mask))) (set views id (noted (b.place / 64) (get_or words (b.place / 64) 0) (bit_and (get_or words (b.place / 64) 0) (bit_not w64 mask)) Changed (with_step (Ungrant id b) (with_granted b.place None v))))
    unfolding noted with_step with_granted
    gives =
        let i : ℕ = b.place / 64 in
        let old : ℕ = get_or words i 0 in
        let new : ℕ = bit_and old (bit_not w64 mask) in
        let w = noted i old new Changed (with_step (Ungrant id b) (with_granted b.place None v)) in
        let is = is_view files setup words views log pool h id v at live in
        let inside = place_below (places_of setup.geometry) b is_block.inside in
        let long : b.place < length pool.grants = rw h.story.places inside in
        let wide : i < length words = omega (arith, h.all_words, inside) in
        let granted : grant_at pool b.place ≡ Some (record { order = b.order; owner = id }) =
        own_is id (grant_at pool b.place) b.order (sym (h.grants id b.place) ∙ (ap (λ u. granted_at u b.place) is ∙ has)) in (
          log ++ Ungrant id b ∷ [],
          (
            record pool { grants = set pool.grants b.place None },
            arena_step new w b.place None None (Ungrant id b)
                (record { numbers = refl; geometry = refl; marks = refl; granted = length-set v.granted b.place None }) refl refl refl refl refl inside
                granted refl refl (λ seat apart. refl) (λ seat apart. ap (own_grant seat) granted ∙ own_other seat id b.order apart)
                (λ m there.
                let bit = bits_cleared in_arenas clears (places_of setup.geometry) b is_block words mask wide fits mask_fits is_mask m in
                let was = h.bits m there in
                let count = owners_change pool b.place None m long in
                let had : grant_covers m b.place (grant_at pool b.place) ≡ covers (block_of b.place (record { order = b.order; owner = id })) m = ap (grant_covers m b.place) granted in
                omega (arith, bit, was, count, had)),
          ),
        )

-- What the table asks of each step: whatever it is then, the step keeps the rule and tells what it should.
use Rattle.std.proofs.Common.{◌≡◌, ◌≢◌, ◌==◌, ℕ, ◌+◌, ◌-◌, ◌*◌, ◌/◌, ◌%◌, ◌^◌, ◌<◌, ◌≤◌, List, length, get_or, set, refl, sym, ap, ◌∙◌, subst, inl, inr, eq-eqb, ne_eqb, bit_and, bit_or}
use Rattle.std.specs.Prelude.{Option, None, Some}
use Rattle.std.specs.Int.{w64, bit_not}
use Rattle.std.proofs.lemmas.Bool.{cases_eq}
use mathlib.Core.Option.{some}
use lib.ListN.{get_elem?}
use prog.Atomic.{either}
use Rattle.atomic_table.specs.Table.{Me, Step, keeps, Allows, Splits, Joins}
use Rattle.buddy_arena.specs.Block.{IsClear, IsMask}
use Rattle.buddy_arena.specs.Laws.{CoversInArena, SettingTakes, ClearingGives}
use Rattle.buffer_word.specs.Changes.{BidAdds16, OpenedWord, PublishAdds15, TakeBackSubtracts16}
use Rattle.buffer_word.specs.KeyWord.{IsKey, key_word}
use Rattle.pool_model.specs.declared.block.Block.{Block}
use Rattle.pool_model.specs.declared.buffer.BufferKey.{BufferKey}
use Rattle.pool_model.specs.Block.{bytes_in}
use Rattle.pool_model.specs.Content.{Files, IsCell, IsRange, cells_of}
use Rattle.pool_model.specs.Laws.{EveryRunIsLawful}
use Rattle.pool_model.specs.Pool.{buffer_at}
use Rattle.pool_rule.specs.declared.aim.Aim.TheVariants.{Look, LookAtCell, Take, Return, Open, StoreKey, StoreCell, Publish, Count, Uncount}
use Rattle.pool_rule.specs.declared.geometry.Setup.{Setup}
use Rattle.pool_rule.specs.declared.geometry.WordName.{WordName}
use Rattle.pool_rule.specs.declared.geometry.WordName.TheVariants.{Arena, State as StateWord, KeyOf, Touches, Last, Clock}
use Rattle.pool_rule.specs.declared.view.Access.TheVariants.{Loaded, Failed}
use Rattle.pool_rule.specs.declared.view.Claim.{Claim}
use Rattle.pool_rule.specs.declared.view.Claim.TheVariants.{Fresh}
use Rattle.pool_rule.specs.declared.view.Hold.{Hold}
use Rattle.pool_rule.specs.declared.view.Hold.TheVariants.{Free, Bid, Pinned}
use Rattle.pool_rule.specs.declared.view.View.{View}
use Rattle.pool_rule.specs.declared.word_step.WordStep.TheVariants.{Looked, LookedAtCell, Missed, Granted, Returned, Opened, Named, Filled, Published, Counted, Uncounted}
use Rattle.pool_rule.specs.Headers.{ClaimFits, hold_count, packed}
use Rattle.pool_rule.specs.Layout.{AreSeats, IsBlockIn, IsGeometry, IsWord, block_cells, cell_word, headers_of, header_word, index_of}
use Rattle.pool_rule.specs.Plays.{IsAllowed, plays, told_by}
use Rattle.pool_rule.specs.Rule.{IsKept, Kept}
use Rattle.pool_rule.specs.Seats.{HasNothing, Told, joined, granted_at, mark_at, part_of, parted, spent}
use Rattle.pool_rule.specs.WordSteps.{Stood, TellsWord, made, mask_of, new_word}
use Rattle.pool_rule.proofs.Counting.{counts}
use Rattle.pool_rule.proofs.Eights.{eights}
use Rattle.pool_rule.proofs.Fills.{fresh_in, fills}
use Rattle.pool_rule.proofs.Frame.{is_view}
use Rattle.pool_rule.proofs.Grants.{takes, had_none, gives}
use Rattle.pool_rule.proofs.CellTold.{cell_told}
use Rattle.pool_rule.proofs.KeyTold.{key_told}
use Rattle.pool_rule.proofs.Learn.{learns}
use Rattle.pool_rule.proofs.Opens.{opens, was_unclaimed, opened_cells}
use Rattle.pool_rule.proofs.Publishes.{names, publishes, holds_none}
use Rattle.pool_rule.proofs.Quiet.{notes, told}
use Rattle.pool_rule.proofs.Seated.{parts, joins}
use Rattle.pool_rule.proofs.StateWords.{count_small, count_smaller, places_few, state_here}
use Rattle.pool_rule.proofs.Uncounting.{uncounts}

-- ---- a step on words and views is one of a table, whatever its slots

pub allows : {S : Type 0} (files : Option Files) (setup : Setup) (slots id : ℕ) (me : Me S View) (word : ℕ) (f : ℕ → ℕ) (told : ℕ → View → View → Type 0) (st : Step S) → IsAllowed files setup id me.0 word f told → Allows (IsKept files setup) slots id me word f (plays told st me)
allows files setup slots id me word f told st allowed s kept _ at fits =
    let r = allowed s.words s.views kept at fits in (r.0, keeps, tt, r.1, (r.2, refl))

pub allows_store : {S : Type 0} (files : Option Files) (setup : Setup) (slots id : ℕ) (me : Me S View) (word new : ℕ) (told : ℕ → View → View → Type 0) (st : Step S) → IsAllowed files setup id me.0 word (λ _. new) (λ _. told new) → Allows (IsKept files setup) slots id me word (λ _. new) (λ _. plays told st me new)
allows_store files setup slots id me word new told st allowed s kept _ at fits =
    let r = allowed s.words s.views kept at fits in (r.0, keeps, tt, r.1, (r.2, refl))

counted_once : (x : Hold) → x ≢ Free → hold_count x ≡ 1
counted_once Free c = absurd (c refl)
counted_once Bid c = refl
counted_once (Pinned b k) c = refl

module _ (files : Option Files) (setup : Setup) (seats : AreSeats setup.seats) (id : ℕ) (v : View) (live : 0 < length v.numbers) where
  module _ (words : List ℕ) (views : List View) (kept : Kept files setup words views) (at : get_elem? views id ≡ some v) where
    pub stood : (i : ℕ) → Stood files setup.geometry id i (get_or words i 0) v
    stood i = (setup, words, views, kept.0, kept.1.0, record { stands = kept.1.1; geometry = refl; seats = seats; found_is = refl; seat_is = at })

    pub told_here : (i : ℕ) → Told v i (get_or words i 0)
    told_here i = told files setup words views kept.0 kept.1.0 kept.1.1 id v at live i

    look_word : (word : WordName) → IsWord setup.geometry word → EveryRunIsLawful → let i = index_of setup.geometry word in Kept files setup (set words i (get_or words i 0)) (set views id (made setup.geometry id (Looked word (get_or words i 0)) v))
    look_word (Arena i) inside law = notes files setup words views kept.0 kept.1.0 kept.1.1 id v at live i Loaded
    look_word (StateWord header) inside law = notes files setup words views kept.0 kept.1.0 kept.1.1 id v at live (index_of setup.geometry (StateWord header)) Loaded
    look_word (KeyOf header) inside law = learns law files setup words views kept.0 kept.1.0 kept.1.1 id v at live header inside
    look_word (Touches header) inside law = notes files setup words views kept.0 kept.1.0 kept.1.1 id v at live (index_of setup.geometry (Touches header)) Loaded
    look_word (Last header) inside law = notes files setup words views kept.0 kept.1.0 kept.1.1 id v at live (index_of setup.geometry (Last header)) Loaded
    look_word Clock inside law = notes files setup words views kept.0 kept.1.0 kept.1.1 id v at live (index_of setup.geometry Clock) Loaded

    tells_word : (word : WordName) → IsWord setup.geometry word → EveryRunIsLawful → IsGeometry setup.geometry → TellsWord setup.geometry word (get_or words (index_of setup.geometry word) 0) v
    tells_word (Arena i) inside law sizes = tt
    tells_word (StateWord header) inside law sizes = state_here law files setup words views kept.0 kept.1.0 kept.1.1 sizes seats header inside
    tells_word (KeyOf header) inside law sizes = key_told law files setup words views kept.0 kept.1.0 kept.1.1 id v at live header inside
    tells_word (Touches header) inside law sizes = tt
    tells_word (Last header) inside law sizes = tt
    tells_word Clock inside law sizes = tt

  -- ---- loads

  pub look_allowed : (word : WordName) → IsWord setup.geometry word → EveryRunIsLawful → IsGeometry setup.geometry → IsAllowed files setup id v (index_of setup.geometry word) (λ n. n) (told_by files setup.geometry id (Look word))
  look_allowed word inside law sizes words views kept at _ =
      let i = index_of setup.geometry word in
      let n : ℕ = get_or words i 0 in (
        made setup.geometry id (Looked word n) v,
        look_word words views kept at word inside law,
        record { view = refl; told = told_here words views kept at i; tells = tells_word words views kept at word inside law sizes; stood = stood words views kept at i },
      )

  pub look_at_cell_allowed : EveryRunIsLawful → (cell : ℕ) → IsAllowed files setup id v (cell_word setup.geometry cell) (λ n. n) (told_by files setup.geometry id (LookAtCell cell))
  look_at_cell_allowed law cell words views kept at _ =
      let i = cell_word setup.geometry cell in
      let n : ℕ = get_or words i 0 in (
        made setup.geometry id (LookedAtCell cell n) v,
        notes files setup words views kept.0 kept.1.0 kept.1.1 id v at live i Loaded,
        record { view = refl; told = told_here words views kept at i; tells = cell_told law files setup words views kept.0 kept.1.0 kept.1.1 id v at live cell; stood = stood words views kept at i },
      )

  -- ---- blocks

  module _ (in_arenas : CoversInArena) (b : Block) (is_block : IsBlockIn setup.geometry b) (is_mask : IsMask (mask_of b) (b.place % 64) b.order) where
    pub take_allowed : SettingTakes → (seen : ℕ) → IsClear seen (b.place % 64) b.order → IsAllowed files setup id v (b.place / 64) (λ n. either (n == seen) (bit_or seen (mask_of b)) n) (told_by files setup.geometry id (Take b seen))
    take_allowed sets seen clear words views kept at _ =
        let i : ℕ = b.place / 64 in
        let n : ℕ = get_or words i 0 in
        let h = kept.1.1 in
        elim (cases_eq n seen) [
          | inl hit ↦
              let w = made setup.geometry id (Granted b n) v in
              let C : ℕ → Type 0 = λ x. IsClear x (b.place % 64) b.order in
              let clear_here : C n = subst C (sym hit) clear in
              let F : ℕ → Type 0 = λ x. Kept files setup (set words i x) (set views id w) in
              let done : F (bit_or n (mask_of b)) = takes files setup words views kept.0 kept.1.0 h id v at live in_arenas sets b is_block (mask_of b) is_mask clear_here in
              let value : bit_or n (mask_of b) ≡ either (n == seen) (bit_or seen (mask_of b)) n = ap (λ x. bit_or x (mask_of b)) hit ∙ ap (λ t. either t (bit_or seen (mask_of b)) n) (sym (eq-eqb n seen hit)) in
              (w, subst F value done, ((λ _. record { view = refl; told = told_here words views kept at i; tells = had_none files setup words views kept.0 kept.1.0 h id v at live in_arenas sets b is_block (mask_of b) is_mask clear_here; stood = stood words views kept at i }), (λ miss. absurd (miss hit))))
          | inr miss ↦
              let w = made setup.geometry id (Missed (Arena (b.place / 64)) n) v in
              let F : ℕ → Type 0 = λ x. Kept files setup (set words i x) (set views id w) in
              let done : F n = notes files setup words views kept.0 kept.1.0 h id v at live i Failed in
              let value : n ≡ either (n == seen) (bit_or seen (mask_of b)) n = ap (λ t. either t (bit_or seen (mask_of b)) n) (sym (ne_eqb n seen miss)) in
              (w, subst F value done, ((λ hit. absurd (miss hit)), (λ _. record { view = refl; told = told_here words views kept at i; tells = tt; stood = stood words views kept at i })))
        ]

    pub give_allowed : ClearingGives → granted_at v b.place ≡ Some b.order → mask_of b < 2 ^ 64 → IsAllowed files setup id v (b.place / 64) (λ n. bit_and n (bit_not w64 (mask_of b))) (told_by files setup.geometry id (Return b))
    give_allowed clears has mask_fits words views kept at fits =
        let i : ℕ = b.place / 64 in
        let n : ℕ = get_or words i 0 in (
          made setup.geometry id (Returned b n) v,
          gives files setup words views kept.0 kept.1.0 kept.1.1 id v at live in_arenas clears b is_block has (mask_of b) is_mask mask_fits fits,
          record { view = refl; told = told_here words views kept at i; tells = tt; stood = stood words views kept at i },
        )

  -- ---- a header

  module _ (law : EveryRunIsLawful) (sizes : IsGeometry setup.geometry) (header : ℕ) (inside : header < headers_of setup.geometry) where
    pub open_allowed : OpenedWord → (b : Block) → IsBlockIn setup.geometry b → granted_at v b.place ≡ Some b.order → IsAllowed files setup id v (header_word setup.geometry header) (λ n. either (n == 8) (new_word b) n) (told_by files setup.geometry id (Open header b))
    open_allowed word b is_block has words views kept at _ =
        let i = header_word setup.geometry header in
        let n : ℕ = get_or words i 0 in
        let h = kept.1.1 in
        elim (cases_eq n 8) [
          | inl hit ↦
              let cells = opened_cells word files setup words views kept.0 kept.1.0 h id v at live header inside b is_block has hit in
              let w = made setup.geometry id (Opened header b cells) v in
              let F : ℕ → Type 0 = λ x. Kept files setup (set words i x) (set views id w) in
              let done : F (new_word b) = opens word files setup words views kept.0 kept.1.0 h id v at live header inside b is_block has hit in
              let value : new_word b ≡ either (n == 8) (new_word b) n = ap (λ t. either t (new_word b) n) (sym (eq-eqb n 8 hit)) in
              let T : ℕ → Type 0 = λ x. Told v i x in
              let S : ℕ → Type 0 = λ x. Stood files setup.geometry id i x v in
              (w, subst F value done, ((λ _. (cells, record { view = refl; told = subst T hit (told_here words views kept at i); tells = was_unclaimed word files setup words views kept.0 kept.1.0 h id v at live header inside b is_block has hit; stood = subst S hit (stood words views kept at i) })), (λ miss. absurd (miss hit))))
          | inr miss ↦
              let w = made setup.geometry id (Missed (StateWord header) n) v in
              let F : ℕ → Type 0 = λ x. Kept files setup (set words i x) (set views id w) in
              let done : F n = notes files setup words views kept.0 kept.1.0 h id v at live i Failed in
              let value : n ≡ either (n == 8) (new_word b) n = ap (λ t. either t (new_word b) n) (sym (ne_eqb n 8 miss)) in
              (w, subst F value done, ((λ hit. absurd (miss hit)), (λ _. record { view = refl; told = told_here words views kept at i; tells = state_here law files setup words views kept.0 kept.1.0 h sizes seats header inside; stood = stood words views kept at i })))
        ]

    pub count_allowed : BidAdds16 → (mark_at v header).hold ≡ Free → IsAllowed files setup id v (header_word setup.geometry header) (λ n. (n + 16) % 2 ^ 64) (told_by files setup.geometry id (Count header))
    count_allowed add free words views kept at _ =
        let i = header_word setup.geometry header in
        let n : ℕ = get_or words i 0 in
        let h = kept.1.1 in (
          made setup.geometry id (Counted header n) v,
          counts law add files setup words views kept.0 kept.1.0 h id v at live header inside (count_small law files setup words views kept.0 kept.1.0 h sizes seats header) (places_few law files setup words views kept.0 kept.1.0 h sizes seats) free,
          record { view = refl; told = told_here words views kept at i; tells = state_here law files setup words views kept.0 kept.1.0 h sizes seats header inside; stood = stood words views kept at i },
        )

    pub uncount_allowed : TakeBackSubtracts16 → (mark_at v header).hold ≢ Free → IsAllowed files setup id v (header_word setup.geometry header) (λ n. (n + (2 ^ 64 - 16)) % 2 ^ 64) (told_by files setup.geometry id (Uncount header))
    uncount_allowed take counted words views kept at _ =
        let i = header_word setup.geometry header in
        let n : ℕ = get_or words i 0 in
        let h = kept.1.1 in (
          made setup.geometry id (Uncounted header n) v,
          uncounts law take files setup words views kept.0 kept.1.0 h id v at live header inside (count_small law files setup words views kept.0 kept.1.0 h sizes seats header) (places_few law files setup words views kept.0 kept.1.0 h sizes seats) (counted_once (mark_at v header).hold counted),
          record { view = refl; told = told_here words views kept at i; tells = state_here law files setup words views kept.0 kept.1.0 h sizes seats header inside; stood = stood words views kept at i },
        )

    -- ---- a new buffer

    module _ (words : List ℕ) (views : List View) (kept : Kept files setup words views) (at : get_elem? views id ≡ some v) (b : Block) (key : Option BufferKey) (done : ℕ) (claim : (mark_at v header).claim ≡ Fresh b key done) where
      fresh_fits : ClaimFits id (buffer_at kept.1.0 header) (Fresh b key done)
      fresh_fits =
          let h = kept.1.1 in
          let is = is_view files setup words views kept.0 kept.1.0 h id v at live in
          let C : View → Type 0 = λ u. ClaimFits id (buffer_at kept.1.0 header) (mark_at u header).claim in
          let F : Claim → Type 0 = λ x. ClaimFits id (buffer_at kept.1.0 header) x in
          subst F claim (subst C is ((h.headers header inside).each_seat id).1)

    pub name_allowed : (b : Block) (key : BufferKey) → (mark_at v header).claim ≡ Fresh b None 0 → IsKey (packed key) → key.len ≤ bytes_in setup.geometry.min_block b → IsRange files key → IsAllowed files setup id v (header_word setup.geometry header + 1) (λ _. key_word (packed key)) (λ _. told_by files setup.geometry id (StoreKey header b key) (key_word (packed key)))
    name_allowed b key claim packs fits range words views kept at _ =
        let i = header_word setup.geometry header + 1 in
        let n : ℕ = get_or words i 0 in
        let h = kept.1.1 in
        let y = fresh_in id (buffer_at kept.1.0 header) b None 0 (fresh_fits words views kept at b None 0 claim) in
        let B : Block → Type 0 = λ z. key.len ≤ bytes_in setup.geometry.min_block z in
        let K : Block → Type 0 = λ z. Kept files setup (set words i (key_word (packed key))) (set views id (made setup.geometry id (Named header z key n) v)) in (
          made setup.geometry id (Named header b key n) v,
          subst K y.4 (names law files setup words views kept.0 kept.1.0 h id v at live header inside (places_few law files setup words views kept.0 kept.1.0 h sizes seats) y.0 y.1 y.2 y.3 key y.5 y.6 packs (subst B (sym y.4) fits) range),
          (n, record { view = refl; told = told_here words views kept at i; tells = tt; stood = stood words views kept at i }),
        )

    pub fill_allowed : (b : Block) (key : BufferKey) (done value : ℕ) → (mark_at v header).claim ≡ Fresh b (Some key) done → done < cells_of key → IsCell files key done value → IsAllowed files setup id v (cell_word setup.geometry (b.place * block_cells setup.geometry + done)) (λ _. value) (λ _. told_by files setup.geometry id (StoreCell header b key done value) value)
    fill_allowed b key done value claim more cell words views kept at _ =
        let h = kept.1.1 in
        let y = fresh_in id (buffer_at kept.1.0 header) b (Some key) done (fresh_fits words views kept at b (Some key) done claim) in
        let i = cell_word setup.geometry (b.place * block_cells setup.geometry + done) in
        let n : ℕ = get_or words i 0 in
        let M : ℕ → Type 0 = λ d. d < cells_of key in
        let C : ℕ → Type 0 = λ d. IsCell files key d value in
        let K : Block × ℕ → Type 0 = λ z. let j = cell_word setup.geometry (z.0.place * block_cells setup.geometry + z.1) in Kept files setup (set words j value) (set views id (made setup.geometry id (Filled header z.0 key z.1 value (get_or words j 0)) v)) in
        let kept_then = fills law files setup (eights setup.geometry sizes) words views kept.0 kept.1.0 h id v at live header inside y.0 y.1 y.2 y.3 key y.5 (subst M (sym y.6) more) value (subst C (sym y.6) cell) in (
          made setup.geometry id (Filled header b key done value n) v,
          subst K (λ k. (y.4 k, y.6 k)) kept_then,
          (n, record { view = refl; told = told_here words views kept at i; tells = tt; stood = stood words views kept at i }),
        )

    pub publish_allowed : PublishAdds15 → (b : Block) (key : BufferKey) → (mark_at v header).claim ≡ Fresh b (Some key) (cells_of key) → (mark_at v header).hold ≢ Bid → IsAllowed files setup id v (header_word setup.geometry header) (λ n. (n + 15) % 2 ^ 64) (told_by files setup.geometry id (Publish header b key))
    publish_allowed add b key claim no_bid words views kept at _ =
        let h = kept.1.1 in
        let y = fresh_in id (buffer_at kept.1.0 header) b (Some key) (cells_of key) (fresh_fits words views kept at b (Some key) (cells_of key) claim) in
        let i = header_word setup.geometry header in
        let n : ℕ = get_or words i 0 in
        let few = places_few law files setup words views kept.0 kept.1.0 h sizes seats in
        let free = holds_none law files setup words views kept.0 kept.1.0 h id v at live header inside few y.0 y.1 y.2 y.3 no_bid in
        let K : Block → Type 0 = λ z. Kept files setup (set words i ((n + 15) % 2 ^ 64)) (set views id (made setup.geometry id (Published header z key n) v)) in (
          made setup.geometry id (Published header b key n) v,
          subst K y.4 (publishes law files setup words views kept.0 kept.1.0 h id v at live header inside few y.0 y.1 y.2 y.3 add (count_smaller law files setup words views kept.0 kept.1.0 h sizes seats id v at live header free) key y.5 y.6 free),
          record { view = refl; told = told_here words views kept at i; tells = free; stood = stood words views kept at i },
        )

-- ---- seats

module _ {S : Type 0} (files : Option Files) (setup : Setup) (id : ℕ) (me : Me S View) (live : 0 < length me.0.numbers) where
  pub split_allowed : (count : ℕ) → count < length me.0.numbers → 0 < count → Splits (IsKept files setup {S = S}) id me.0 (parted count me.0) (part_of count me.0)
  split_allowed count some_left some_given s kept at = parts files setup s.words s.views kept.0 kept.1.0 kept.1.1 id me.0 at live count some_left some_given

  pub join_allowed : (other : ℕ) (w : View) → HasNothing w → Joins (IsKept files setup {S = S}) id me.0 other w (joined me.0 w) spent
  join_allowed other w nothing s kept at apart at_other = joins files setup s.words s.views kept.0 kept.1.0 kept.1.1 id me.0 at live other w apart at_other nothing

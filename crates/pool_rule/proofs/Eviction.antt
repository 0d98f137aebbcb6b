-- What the table asks of the steps of an eviction, and of those on words that stand for nothing.
use Rattle.std.proofs.Common.{◌≡◌, ◌==◌, ℕ, ◌+◌, ◌-◌, ◌*◌, ◌%◌, ◌^◌, ◌<◌, List, length, get_or, set, refl, sym, ap, ◌∙◌, subst, inl, inr, eq-eqb, ne_eqb}
use Rattle.std.specs.Prelude.{Option, None, max}
use Rattle.std.proofs.lemmas.Bool.{cases_eq}
use mathlib.Core.Option.{some}
use lib.ListN.{get_elem?}
use prog.Atomic.{either}
use Rattle.buffer_word.specs.Changes.{EvictAdds4, Releases}
use Rattle.pool_model.specs.declared.block.Block.{Block}
use Rattle.pool_model.specs.Content.{Files}
use Rattle.pool_model.specs.Laws.{EveryRunIsLawful}
use Rattle.pool_model.specs.Pool.{buffer_at}
use Rattle.pool_rule.specs.declared.aim.Aim.TheVariants.{BeginEvict, Release, Increase, Raise, Clear}
use Rattle.pool_rule.specs.declared.geometry.Setup.{Setup}
use Rattle.pool_rule.specs.declared.geometry.WordName.{WordName}
use Rattle.pool_rule.specs.declared.geometry.WordName.TheVariants.{State as StateWord}
use Rattle.pool_rule.specs.declared.view.Access.TheVariants.{Changed, Failed}
use Rattle.pool_rule.specs.declared.view.Claim.{Claim}
use Rattle.pool_rule.specs.declared.view.Claim.TheVariants.{Gone}
use Rattle.pool_rule.specs.declared.view.View.{View}
use Rattle.pool_rule.specs.declared.word_step.WordStep.TheVariants.{EvictBegun, HeaderReleased, Missed, Updated}
use Rattle.pool_rule.specs.Headers.{ClaimFits}
use Rattle.pool_rule.specs.Layout.{AreSeats, IsFreeWord, IsGeometry, headers_of, header_word, index_of}
use Rattle.pool_rule.specs.Plays.{IsAllowed, told_by}
use Rattle.pool_rule.specs.Rule.{Kept}
use Rattle.pool_rule.specs.Seats.{granted_at, mark_at, noted}
use Rattle.pool_rule.specs.WordSteps.{IsIdleWord, made, releasing}
use Rattle.pool_rule.proofs.Allowed.{stood, told_here}
use Rattle.pool_rule.proofs.Evicts.{evicts, evicts_tells}
use Rattle.pool_rule.proofs.Frame.{is_view}
use Rattle.pool_rule.proofs.Quiet.{notes}
use Rattle.pool_rule.proofs.Releases.{gone_in, had_no_grant, released_sum, releases}
use Rattle.pool_rule.proofs.StateWords.{count_small, places_few, state_here}
use Rattle.pool_rule.proofs.Updates.{updates}

module _ (files : Option Files) (setup : Setup) (seats : AreSeats setup.seats) (id : ℕ) (v : View) (live : 0 < length v.numbers) where
  -- ---- free words

  update_kept : (word : WordName) → IsFreeWord setup.geometry word → (words : List ℕ) (views : List View) → Kept files setup words views → get_elem? views id ≡ some v → (left : ℕ) →
      let i = index_of setup.geometry word in Kept files setup (set words i left) (set views id (made setup.geometry id (Updated word (get_or words i 0) left) v))
  update_kept word free words views kept at left = updates files setup words views kept.0 kept.1.0 kept.1.1 id v at live word free left Changed

  pub increase_allowed : (word : WordName) → IsFreeWord setup.geometry word → IsAllowed files setup id v (index_of setup.geometry word) (λ n. (n + 1) % 2 ^ 64) (told_by files setup.geometry id (Increase word))
  increase_allowed word free words views kept at _ =
      let i = index_of setup.geometry word in
      let n : ℕ = get_or words i 0 in (
        made setup.geometry id (Updated word n ((n + 1) % 2 ^ 64)) v,
        update_kept word free words views kept at ((n + 1) % 2 ^ 64),
        record { view = refl; told = told_here files setup seats id v live words views kept at i; tells = tt; stood = stood files setup seats id v live words views kept at i },
      )

  pub raise_allowed : (word : WordName) (to : ℕ) → IsFreeWord setup.geometry word → IsAllowed files setup id v (index_of setup.geometry word) (λ n. max n to) (told_by files setup.geometry id (Raise word to))
  raise_allowed word to free words views kept at _ =
      let i = index_of setup.geometry word in
      let n : ℕ = get_or words i 0 in (
        made setup.geometry id (Updated word n (max n to)) v,
        update_kept word free words views kept at (max n to),
        record { view = refl; told = told_here files setup seats id v live words views kept at i; tells = tt; stood = stood files setup seats id v live words views kept at i },
      )

  pub clear_allowed : (word : WordName) → IsFreeWord setup.geometry word → IsAllowed files setup id v (index_of setup.geometry word) (λ _. 0) (told_by files setup.geometry id (Clear word))
  clear_allowed word free words views kept at _ =
      let i = index_of setup.geometry word in
      let n : ℕ = get_or words i 0 in (
        made setup.geometry id (Updated word n 0) v,
        update_kept word free words views kept at 0,
        record { view = refl; told = told_here files setup seats id v live words views kept at i; tells = tt; stood = stood files setup seats id v live words views kept at i },
      )

  -- ---- an eviction

  module _ (law : EveryRunIsLawful) (sizes : IsGeometry setup.geometry) (header : ℕ) (inside : header < headers_of setup.geometry) where
    pub evict_allowed : EvictAdds4 → (seen : ℕ) → IsIdleWord seen → IsAllowed files setup id v (header_word setup.geometry header) (λ n. either (n == seen) (seen + 4) n) (told_by files setup.geometry id (BeginEvict header seen))
    evict_allowed add seen idle words views kept at _ =
        let i = header_word setup.geometry header in
        let n : ℕ = get_or words i 0 in
        let h = kept.1.1 in
        let few = places_few law files setup words views kept.0 kept.1.0 h sizes seats in
        let small = count_small law files setup words views kept.0 kept.1.0 h sizes seats header in
        elim (cases_eq n seen) [
          | inl hit ↦
              let I : ℕ → Type 0 = λ x. IsIdleWord x in
              let idle_here : IsIdleWord n = subst I (sym hit) idle in
              let w = made setup.geometry id (EvictBegun header n) v in
              let F : ℕ → Type 0 = λ x. Kept files setup (set words i x) (set views id w) in
              let done : F (n + 4) = evicts law files setup words views kept.0 kept.1.0 h id v at live header inside few small idle_here add in
              let value : n + 4 ≡ either (n == seen) (seen + 4) n = ap (λ x. x + 4) hit ∙ ap (λ t. either t (seen + 4) n) (sym (eq-eqb n seen hit)) in
              (w, subst F value done, ((λ _. record { view = refl; told = told_here files setup seats id v live words views kept at i; tells = evicts_tells law files setup words views kept.0 kept.1.0 h id v at live header inside few small idle_here; stood = stood files setup seats id v live words views kept at i }), (λ miss. absurd (miss hit))))
          | inr miss ↦
              let w = made setup.geometry id (Missed (StateWord header) n) v in
              let F : ℕ → Type 0 = λ x. Kept files setup (set words i x) (set views id w) in
              let done : F n = notes files setup words views kept.0 kept.1.0 h id v at live i Failed in
              let value : n ≡ either (n == seen) (seen + 4) n = ap (λ t. either t (seen + 4) n) (sym (ne_eqb n seen miss)) in
              (w, subst F value done, ((λ hit. absurd (miss hit)), (λ _. record { view = refl; told = told_here files setup seats id v live words views kept at i; tells = state_here law files setup words views kept.0 kept.1.0 h sizes seats header inside; stood = stood files setup seats id v live words views kept at i })))
        ]

    gone_fits : (words : List ℕ) (views : List View) (kept : Kept files setup words views) → get_elem? views id ≡ some v → (b : Block) → (mark_at v header).claim ≡ Gone b → ClaimFits id (buffer_at kept.1.0 header) (Gone b)
    gone_fits words views kept at b claim =
        let h = kept.1.1 in
        let is = is_view files setup words views kept.0 kept.1.0 h id v at live in
        let C : View → Type 0 = λ u. ClaimFits id (buffer_at kept.1.0 header) (mark_at u header).claim in
        let F : Claim → Type 0 = λ x. ClaimFits id (buffer_at kept.1.0 header) x in
        subst F claim (subst C is ((h.headers header inside).each_seat id).1)

    pub release_allowed : (b : Block) (k : ℕ) → (mark_at v header).claim ≡ Gone b → b.order < 2 ^ 4 → b.place < 2 ^ 20 → k < 2 ^ 64 → Releases b.order b.place k → IsAllowed files setup id v (header_word setup.geometry header) (λ n. (n + k) % 2 ^ 64) (told_by files setup.geometry id (Release header b))
    release_allowed b k claim order_fits place_fits fits to_released words views kept at _ =
        let i = header_word setup.geometry header in
        let n : ℕ = get_or words i 0 in
        let h = kept.1.1 in
        let small = count_small law files setup words views kept.0 kept.1.0 h sizes seats header in
        let y = gone_in id (buffer_at kept.1.0 header) b (gone_fits words views kept at b claim) in
        let R : Block → Type 0 = λ z. Releases z.order z.place k in
        let G : Block → Type 0 = λ z. granted_at v z.place ≡ None in
        let sum : ℕ = (n + (2 ^ 64 + 4 - b.order * 2 ^ 20 - b.place * 2 ^ 24)) % 2 ^ 64 in
        let left : (n + k) % 2 ^ 64 ≡ sum = released_sum b.order b.place k n order_fits place_fits fits to_released in
        let w = made setup.geometry id (HeaderReleased header b n) v in
        let K : Block × ℕ → Type 0 = λ z. Kept files setup (set words i ((n + k) % 2 ^ 64)) (set views id (noted i n z.1 Changed (releasing id header z.0 v))) in (
          w,
          subst K (λ j. (y.4 j, left j)) (releases law files setup words views kept.0 kept.1.0 h id v at live header inside small y.0 y.1 y.2 y.3 k (subst R (sym y.4) to_released)),
          record { view = refl; told = told_here files setup seats id v live words views kept at i; tells = subst G y.4 (had_no_grant law files setup words views kept.0 kept.1.0 h id v at live header inside small y.0 y.1 y.2 y.3); stood = stood files setup seats id v live words views kept at i },
        )

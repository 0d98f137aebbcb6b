-- No step ends the pin of a seat other than its maker's.
use Rattle.std.proofs.Common.{◌≡◌, ◌≢◌, ◌==◌, ℕ, true, List, [], ◌∷◌, ◌++◌, refl, ap, sym, subst, ◌∙◌, eqb-true, ne_eqb, arith}
use Rattle.std.specs.Prelude.{Some, IsSomeAnd, not, filter, ◌||◌}
use Rattle.std.specs.List.{list_any}
use Rattle.std.proofs.lemmas.List.Folds.{list_any-append}
use Rattle.std.proofs.lemmas.Map.Views.{any-filter_same}
use Rattle.pool_model.specs.declared.buffer.Buffer.{Buffer}
use Rattle.pool_model.specs.declared.pool.PlainPool.{PlainPool}
use Rattle.pool_model.specs.declared.setting.Setting.{Setting}
use Rattle.pool_model.specs.declared.step.Step.{Step}
use Rattle.pool_model.specs.Buffer.{Holds}
use Rattle.pool_model.specs.Lawful.{IsLawful}
use Rattle.pool_model.specs.Laws.{StaysHeldBy, maker_of}
use Rattle.pool_model.specs.Pool.{buffer_at}
use Rattle.pool_model.specs.Step.{Needs, after}
use Rattle.pool_model.proofs.HeldBuffers.{stays, step_keeps}

-- a list that has a holder isn't empty
pub held_some : (seat : ℕ) (holders : List ℕ) → Holds seat holders → holders ≢ []
held_some seat holders h e = let P : List ℕ → Type 0 = λ l. Holds seat l in grind (arith, subst P e h)

-- one more holder ends nobody's pin
one_more : (seat maker : ℕ) (holders : List ℕ) → Holds seat holders → Holds seat (holders ++ maker ∷ [])
one_more seat maker holders h = list_any-append (λ s. s == seat) holders (maker ∷ []) ∙ ap (λ b. b || list_any (λ s. s == seat) (maker ∷ [])) h

-- and without one holder, another is there still
one_less : (seat maker : ℕ) (holders : List ℕ) → seat ≢ maker → Holds seat holders → Holds seat (filter (λ s. not (s == maker)) holders)
one_less seat maker holders apart h =
    any-filter_same (λ s. s == seat) (λ s. not (s == maker)) true (λ k found. ap not (ne_eqb k maker (λ same. apart (sym (eqb-true k seat found) ∙ same)))) holders ∙ h

pub step_spares_pins : (w : Setting) (s : Step) (p : PlainPool) → IsLawful w p → Needs w s p → (header seat : ℕ) (b : Buffer) → buffer_at p header ≡ Some b → Holds seat b.holders → seat ≢ maker_of s → IsSomeAnd (buffer_at (after s p) header) (StaysHeldBy seat b)
step_spares_pins w s p l needs header seat b e h ne =
    let held = held_some seat b.holders h in
    let q = stays w p header b l e held in
    let still : (new : List ℕ) → Holds seat new → StaysHeldBy seat b (record b { holders = new }) = λ new has. record {
      held = has;
      stays = record { live = q.live; same_block = refl; same_key = refl; same_cells = refl };
    } in
    step_keeps w s p l needs header b e held (StaysHeldBy seat b) (record { held = h; stays = q })
    (still _ (one_more seat (maker_of s) b.holders h)) (still _ (one_less seat (maker_of s) b.holders ne h))

use Rattle.std.proofs.Common.{◌≡◌, ◌+◌, ◌*◌, ℕ, List, [], ◌∷◌, get_or, drop, refl, sym, ap, ◌∙◌, arith}
use Rattle.std.proofs.lemmas.List.{get_or-drop}
use Rattle.std.specs.Int.{from_le_bytes, w64}
use Rattle.pool_model.specs.Content.{content_cell}
use Rattle.pool_model.proofs.content.content_cell.Goals as goal

-- a byte that was read stands at that place behind the first
behind : (xs : List ℕ) (first i at b : ℕ) → at ≡ first + i → b ≡ get_or xs at 0 → get_or (drop first xs) i 0 ≡ b
behind xs first i at b e h = get_or-drop first xs i 0 ∙ ap (λ k. get_or xs k 0) (sym e) ∙ sym h

eight_bytes : (ys : List ℕ) (b₀ b₁ b₂ b₃ b₄ b₅ b₆ b₇ : ℕ) → get_or ys 0 0 ≡ b₀ → get_or ys 1 0 ≡ b₁ → get_or ys 2 0 ≡ b₂ → get_or ys 3 0 ≡ b₃ → get_or ys 4 0 ≡ b₄ → get_or ys 5 0 ≡ b₅ → get_or ys 6 0 ≡ b₆ → get_or ys 7 0 ≡ b₇ → from_le_bytes w64 (b₀ ∷ b₁ ∷ b₂ ∷ b₃ ∷ b₄ ∷ b₅ ∷ b₆ ∷ b₇ ∷ []) ≡ from_le_bytes w64 ys
eight_bytes ys b₀ b₁ b₂ b₃ b₄ b₅ b₆ b₇ e₀ e₁ e₂ e₃ e₄ e₅ e₆ e₇ = rw (e₀, e₁, e₂, e₃, e₄, e₅, e₆, e₇) refl

pub returns : goal.returns
unfolding content_cell
returns c =
    let xs = c.range_at-range.result.now in
    let first = 8 * c.args.number in
    let ys = drop first xs in
    let at0 : get_or ys 0 0 ≡ c.byte_at.result = behind xs first 0 _ _ (omega arith) c.byte_at.ensures in
    let at1 : get_or ys 1 0 ≡ c.byte_at-2.result = behind xs first 1 _ _ (omega arith) c.byte_at-2.ensures in
    let at2 : get_or ys 2 0 ≡ c.byte_at-3.result = behind xs first 2 _ _ (omega arith) c.byte_at-3.ensures in
    let at3 : get_or ys 3 0 ≡ c.byte_at-4.result = behind xs first 3 _ _ (omega arith) c.byte_at-4.ensures in
    let at4 : get_or ys 4 0 ≡ c.byte_at-5.result = behind xs first 4 _ _ (omega arith) c.byte_at-5.ensures in
    let at5 : get_or ys 5 0 ≡ c.byte_at-6.result = behind xs first 5 _ _ (omega arith) c.byte_at-6.ensures in
    let at6 : get_or ys 6 0 ≡ c.byte_at-7.result = behind xs first 6 _ _ (omega arith) c.byte_at-7.ensures in
    let at7 : get_or ys 7 0 ≡ c.byte_at-8.result = behind xs first 7 _ _ (omega arith) c.byte_at-8.ensures in
    c.from_le_bytes.ensures
    ∙ eight_bytes ys _ _ _ _ _ _ _ _ at0 at1 at2 at3 at4 at5 at6 at7
    ∙ ap (λ r. from_le_bytes w64 (drop first r)) c.range_at-range.ensures

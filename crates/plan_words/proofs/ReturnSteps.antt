-- A byte 13 at the end of a line.
use Rattle.std.proofs.Common.{◌≡◌, ℕ, List, [], ◌∷◌, ◌++◌, true, false, ◌==◌, refl, ap}
use Rattle.plan_words.specs.Lines.{without_return}

pub cut : (line : List ℕ) (last : ℕ) → (last == 13) ≡ true → without_return (line ++ last ∷ []) ≡ line
cut [] last t = rw t refl
cut (b ∷ []) last t = rw t refl
cut (b ∷ c ∷ line) last t = ap (λ (ys : List ℕ). b ∷ ys) (cut (c ∷ line) last t)

pub kept : (line : List ℕ) (last : ℕ) → (last == 13) ≡ false → without_return (line ++ last ∷ []) ≡ line ++ last ∷ []
kept [] last t = rw t refl
kept (b ∷ []) last t = rw t refl
kept (b ∷ c ∷ line) last t = ap (λ (ys : List ℕ). b ∷ ys) (kept (c ∷ line) last t)

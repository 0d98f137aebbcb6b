-- A text in quotes, byte by byte.
use Rattle.std.proofs.Common.{◌≡◌, ℕ, List, [], ◌∷◌, ◌++◌, Bool, true, false, Option, Some, None, ◌==◌, refl, sym, ap, ◌∙◌, append_assoc}
use Rattle.plan_words.specs.Words.{text_at, with_byte, after_quote}

abbrev pub onto : List ℕ → Option (List ℕ × List ℕ) → Option (List ℕ × List ℕ)
onto done None = None
onto done (Some x) = Some (done ++ x.0, x.1)

pub onto-push : (done : List ℕ) (b : ℕ) (t : Option (List ℕ × List ℕ)) → onto (done ++ b ∷ []) t ≡ onto done (with_byte b t)
onto-push done b None = refl
onto-push done b (Some x) = ap (λ (ys : List ℕ). Some (ys, x.1)) (append_assoc done (b ∷ []) x.0)

pub onto-none : (t : Option (List ℕ × List ℕ)) → onto [] t ≡ t
onto-none None = refl
onto-none (Some x) = refl

-- a byte of the text
pub plain : (b : ℕ) (rest : List ℕ) → (b == 39) ≡ false → text_at (b ∷ rest) ≡ with_byte b (text_at rest)
plain b [] t = rw t refl
plain b (c ∷ rest) t = rw t refl

doubled-by : (c : ℕ) (rest later : List ℕ) (t : Bool) → (c == 39) ≡ t → after_quote (c ∷ rest) ≡ Some later → text_at (39 ∷ c ∷ rest) ≡ with_byte 39 (text_at later)
doubled-by c rest later true t e =
    let found : after_quote (c ∷ rest) ≡ Some rest = rw t refl in
    let same : rest ≡ later = cc in
    rw t (ap (λ (ys : List ℕ). with_byte 39 (text_at ys)) same)
doubled-by c rest later false t e =
    let found : after_quote (c ∷ rest) ≡ None = rw t refl in absurd cc

pub doubled : (rest later : List ℕ) → after_quote rest ≡ Some later → text_at (39 ∷ rest) ≡ with_byte 39 (text_at later)
doubled [] later e = absurd cc
doubled (c ∷ rest) later e = doubled-by c rest later (c == 39) refl e

closes-by : (c : ℕ) (rest : List ℕ) (t : Bool) → (c == 39) ≡ t → after_quote (c ∷ rest) ≡ None → text_at (39 ∷ c ∷ rest) ≡ Some ([], c ∷ rest)
closes-by c rest true t e =
    let found : after_quote (c ∷ rest) ≡ Some rest = rw t refl in absurd cc
closes-by c rest false t e = rw t refl

pub closes : (rest : List ℕ) → after_quote rest ≡ None → text_at (39 ∷ rest) ≡ Some ([], rest)
closes [] e = refl
closes (c ∷ rest) e = closes-by c rest (c == 39) refl e

-- two quotes were read
pub goes_on_two : (left done rest after later new : List ℕ) (b : ℕ) → text_at left ≡ onto done (text_at rest) → rest ≡ b ∷ after → b ≡ 39 → after_quote after ≡ Some later → new ≡ done ++ 39 ∷ [] → text_at left ≡ onto new (text_at later)
goes_on_two left done rest after later new b so is quote second grown =
    let whole : rest ≡ 39 ∷ after = cc in
    let step : text_at rest ≡ with_byte 39 (text_at later) = ap text_at whole ∙ doubled after later second in
    so ∙ ap (onto done) step ∙ sym (onto-push done 39 (text_at later)) ∙ ap (λ (ys : List ℕ). onto ys (text_at later)) (sym grown)

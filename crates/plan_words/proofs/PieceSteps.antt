-- A first piece, found byte by byte.
use Rattle.std.proofs.Common.{◌≡◌, ℕ, zero, suc, ◌+◌, ◌≤◌, List, [], ◌∷◌, length, take, drop, Bool, true, false, not, ◌==◌, refl, sym, ap, subst, ◌∙◌, arith, add-one}
use Rattle.plan_words.specs.Words.{span}
use Rattle.plan_words.specs.Pieces.{pieces_of, into_first}

-- how long the first piece is
abbrev pub piece_len : ℕ → List ℕ → ℕ
piece_len s bytes = span (λ b. not (b == s)) bytes

-- the first `len` bytes have no separator, and `rest` follows
pub record Begun (s : ℕ) (bytes : List ℕ) (len : ℕ) (rest : List ℕ) : Type 0 where
  pub fits : len + length rest ≡ length bytes
  pub left : drop len bytes ≡ rest
  pub goes : len + piece_len s rest ≡ piece_len s bytes

drop-one : (n : ℕ) (bytes : List ℕ) (b : ℕ) (rest : List ℕ) → drop n bytes ≡ b ∷ rest → drop (suc n) bytes ≡ rest
drop-one zero [] b rest e = absurd cc
drop-one zero (c ∷ bytes) b rest e = cc
drop-one (suc n) [] b rest e = absurd cc
drop-one (suc n) (c ∷ bytes) b rest e = drop-one n bytes b rest e

len-open : (s b : ℕ) (rest : List ℕ) → (b == s) ≡ false → piece_len s (b ∷ rest) ≡ suc (piece_len s rest)
len-open s b rest e = rw e refl

len-end : (s b : ℕ) (rest : List ℕ) → (b == s) ≡ true → piece_len s (b ∷ rest) ≡ 0
len-end s b rest e = rw e refl

pub goes_on : (s : ℕ) (bytes : List ℕ) (len b : ℕ) (rest : List ℕ) → (b == s) ≡ false → Begun s bytes len (b ∷ rest) → Begun s bytes (len + 1) rest
goes_on s bytes len b rest e begun = record {
  fits = omega (arith, begun.fits);
  left = rw (add-one len) (drop-one len bytes b rest begun.left);
  goes = omega (arith, begun.goes, len-open s b rest e);
}

head-open : (s b : ℕ) (bytes : List ℕ) → (b == s) ≡ false → pieces_of s (b ∷ bytes) ≡ into_first b (pieces_of s bytes)
head-open s b bytes e = rw e refl

split_by : (s b : ℕ) (bytes : List ℕ) (x : ℕ) (after : List ℕ) (t : Bool) → (b == s) ≡ t
    → (drop (piece_len s bytes) bytes ≡ x ∷ after → pieces_of s bytes ≡ take (piece_len s bytes) bytes ∷ pieces_of s after)
    → drop (piece_len s (b ∷ bytes)) (b ∷ bytes) ≡ x ∷ after
    → pieces_of s (b ∷ bytes) ≡ take (piece_len s (b ∷ bytes)) (b ∷ bytes) ∷ pieces_of s after
split_by s b bytes x after true t later e =
    let same : b ∷ bytes ≡ x ∷ after = subst (λ (n : ℕ). drop n (b ∷ bytes) ≡ x ∷ after) (len-end s b bytes t) e in
    let tail : bytes ≡ after = cc in
    rw t (ap (λ (ys : List ℕ). [] ∷ pieces_of s ys) tail)
split_by s b bytes x after false t later e =
    let under : drop (piece_len s bytes) bytes ≡ x ∷ after = subst (λ (n : ℕ). drop n (b ∷ bytes) ≡ x ∷ after) (len-open s b bytes t) e in
    head-open s b bytes t ∙ ap (into_first b) (later under) ∙ rw (len-open s b bytes t) refl

split_at_end : (s : ℕ) (bytes : List ℕ) (x : ℕ) (after : List ℕ) → drop (piece_len s bytes) bytes ≡ x ∷ after
    → pieces_of s bytes ≡ take (piece_len s bytes) bytes ∷ pieces_of s after
split_at_end s [] x after e = absurd cc
split_at_end s (b ∷ bytes) x after e = split_by s b bytes x after (b == s) refl (split_at_end s bytes x after) e

last_by : (s b : ℕ) (bytes : List ℕ) (t : Bool) → (b == s) ≡ t → (piece_len s bytes ≡ length bytes → pieces_of s bytes ≡ bytes ∷ [])
    → piece_len s (b ∷ bytes) ≡ length (b ∷ bytes) → pieces_of s (b ∷ bytes) ≡ (b ∷ bytes) ∷ []
last_by s b bytes true t some e = absurd (omega (arith, e, len-end s b bytes t))
last_by s b bytes false t some e = head-open s b bytes t ∙ ap (into_first b) (some (omega (arith, e, len-open s b bytes t)))

last_piece : (s : ℕ) (bytes : List ℕ) → piece_len s bytes ≡ length bytes → pieces_of s bytes ≡ bytes ∷ []
last_piece s [] e = refl
last_piece s (b ∷ bytes) e = last_by s b bytes (b == s) refl (last_piece s bytes) e

-- the piece ends at a separator
pub ended : (s : ℕ) (bytes : List ℕ) (len b : ℕ) (after : List ℕ) → (b == s) ≡ true → Begun s bytes len (b ∷ after)
    → pieces_of s bytes ≡ take len bytes ∷ pieces_of s after
ended s bytes len b after t begun =
    let same : piece_len s bytes ≡ len = omega (arith, begun.goes, len-end s b after t) in
    subst (λ (n : ℕ). pieces_of s bytes ≡ take n bytes ∷ pieces_of s after) same
    (split_at_end s bytes b after (subst (λ (n : ℕ). drop n bytes ≡ b ∷ after) (sym same) begun.left))

-- there is no separator
pub ran_out : (s : ℕ) (bytes : List ℕ) (len : ℕ) (rest : List ℕ) → length rest ≡ 0 → Begun s bytes len rest → pieces_of s bytes ≡ bytes ∷ []
ran_out s bytes len [] none begun = last_piece s bytes (omega (arith, begun.goes, begun.fits))
ran_out s bytes len (b ∷ rest) none begun = absurd (omega (arith, none))

into-length : (b : ℕ) (pieces : List (List ℕ)) (n : ℕ) → length pieces ≤ suc n → length (into_first b pieces) ≤ suc (suc n)
into-length b [] n h = omega arith
into-length b (piece ∷ pieces) n h = omega (arith, h)

few-by : (s b : ℕ) (bytes : List ℕ) (t : Bool) → (b == s) ≡ t → length (pieces_of s bytes) ≤ suc (length bytes) → length (pieces_of s (b ∷ bytes)) ≤ suc (length (b ∷ bytes))
few-by s b bytes true t h = rw t (omega (arith, h))
few-by s b bytes false t h = rw t (into-length b (pieces_of s bytes) (length bytes) h)

-- at most one piece more than bytes
pub few_pieces : (s : ℕ) (bytes : List ℕ) → length (pieces_of s bytes) ≤ suc (length bytes)
few_pieces s [] = omega arith
few_pieces s (b ∷ bytes) = few-by s b bytes (b == s) refl (few_pieces s bytes)

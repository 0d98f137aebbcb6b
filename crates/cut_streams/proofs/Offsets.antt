-- Where a stream stands, and in which cut.
use Rattle.std.proofs.Common.{◌≡◌, ℕ, ◌+◌, ◌-◌, ◌*◌, ◌/◌, ◌%◌, ◌<◌, ◌≤◌, zero, suc, inl, inr, Bool, List, [], ◌∷◌, refl, sym, ap, ◌∙◌, arith}
use Rattle.std.specs.Prelude.{if◌then◌else◌, take, drop, slice_range}
use Rattle.std.proofs.lemmas.Bool.{cases_lt, lt-ltb, le-ltb}
use Rattle.std.proofs.lemmas.List.{drop-take, drop-drop}
use Rattle.std.proofs.lemmas.Nat as nat
use Rattle.range_cuts.specs.Cuts.{begun, cut_at, cuts_between, cuts_from, size_of}

pub div_is : (n d q : ℕ) → 1 ≤ d → q * d ≤ n → n < q * d + d → n / d ≡ q
div_is n d q some low high =
    let e : (q + 1) * d ≡ q * d + d = omega arith in
    let a = nat.le-div q n d (omega (arith, some)) low in
    let b = nat.div_below n d (q + 1) (omega (arith, some)) (omega (arith, e, high)) in
    omega (arith, a, b)

-- so many cuts begin below an offset in the cut of number q, its last byte included, and below its first
pub begun_in : (d q r t : ℕ) → 1 ≤ d → t ≡ q * d + r → 1 ≤ r → r ≤ d → begun d t ≡ q + 1
begun_in d q r t some is low high =
    let e : (q + 1) * d ≡ q * d + d = omega arith in
    div_is (t + (d - 1)) d (q + 1) some (omega (arith, e, is, low)) (omega (arith, e, is, high, some))

pub begun_at : (d q t : ℕ) → 1 ≤ d → t ≡ q * d → begun d t ≡ q
begun_at d q t some is = div_is (t + (d - 1)) d q some (omega (arith, is)) (omega (arith, is, some))

pub stands : (d t : ℕ) → t ≡ t / d * d + t % d
stands d t = sym (nat.div-add-mod' t d)

pub mod_is : (d q r t : ℕ) → 1 ≤ d → t ≡ q * d + r → r < d → t % d ≡ r
mod_is d q r t some is below =
    let e : t / d ≡ q = div_is t d q some (omega (arith, is)) (omega (arith, is, below)) in
    let f : t / d * d ≡ q * d = ap (λ (k : ℕ). k * d) e in
    omega (arith, stands d t, f, is)

-- the cuts that begin below the next byte: the next one, if the stream stands between two
pub cut_between : (at len d t : ℕ) → 1 ≤ d → t % d ≡ 0 → cuts_between at len d t (t + 1) ≡ cut_at at len d (t / d) ∷ []
cut_between at len d t some none =
    let q : ℕ = t / d in
    let is : t ≡ q * d = omega (arith, stands d t, none) in
    let a : begun d t ≡ q = begun_at d q t some is in
    let b : begun d (t + 1) ≡ q + 1 = begun_in d q 1 (t + 1) some (omega (arith, is)) (omega arith) some in
    let n : begun d (t + 1) - begun d t ≡ 1 = omega (arith, a, b) in
    ap (λ (k : ℕ). cuts_from at len d k (begun d (t + 1) - begun d t)) a ∙ ap (λ (k : ℕ). cuts_from at len d q k) n

pub none_between : (at len d t : ℕ) → 1 ≤ d → 0 < t % d → cuts_between at len d t (t + 1) ≡ []
none_between at len d t some more =
    let q : ℕ = t / d in
    let p : ℕ = t % d in
    let below : p < d = nat.mod_below t d (omega (arith, some)) in
    let a : begun d t ≡ q + 1 = begun_in d q p t some (stands d t) (omega (arith, more)) (omega (arith, below)) in
    let b : begun d (t + 1) ≡ q + 1 = begun_in d q (p + 1) (t + 1) some (omega (arith, stands d t)) (omega arith) (omega (arith, below)) in
    let n : begun d (t + 1) - begun d t ≡ 0 = omega (arith, a, b) in
    ap (λ (k : ℕ). cuts_from at len d (begun d t) k) n

-- more bytes of the same cut begin no other
pub same_between : (at len d t n : ℕ) → 1 ≤ d → 0 < n → t % d + n ≤ d → cuts_between at len d t (t + 1) ≡ cuts_between at len d t (t + n)
same_between at len d t n some more fits =
    let q : ℕ = t / d in
    let p : ℕ = t % d in
    let a : begun d (t + 1) ≡ q + 1 = begun_in d q (p + 1) (t + 1) some (omega (arith, stands d t)) (omega arith) (omega (arith, more, fits)) in
    let b : begun d (t + n) ≡ q + 1 = begun_in d q (p + n) (t + n) some (omega (arith, stands d t)) (omega (arith, more)) fits in
    ap (λ (k : ℕ). cuts_from at len d (begun d t) (k - begun d t)) (a ∙ sym b)

pub nothing_between : (at len d t : ℕ) → cuts_between at len d t (t + 0) ≡ []
nothing_between at len d t =
    let e : t + 0 ≡ t = omega arith in
    let n : begun d t - begun d t ≡ 0 = omega arith in
    ap (λ (k : ℕ). cuts_from at len d (begun d t) (begun d k - begun d t)) e ∙ ap (λ (k : ℕ). cuts_from at len d (begun d t) k) n

pub size_small : (len d before : ℕ) → size_of len d before ≤ d
size_small len d before =
    elim (cases_lt (len - before) d) [
      | inl less ↦
          let e : size_of len d before ≡ len - before = ap (λ (b : Bool). if b then len - before else d) (lt-ltb (len - before) d less) in
          omega (arith, e, less)
      | inr more ↦
          let e : size_of len d before ≡ d = ap (λ (b : Bool). if b then len - before else d) (le-ltb (len - before) d more) in
          omega (arith, e)
    ]

pub size_inside : (len d before : ℕ) → size_of len d before ≤ len - before
size_inside len d before =
    elim (cases_lt (len - before) d) [
      | inl less ↦
          let e : size_of len d before ≡ len - before = ap (λ (b : Bool). if b then len - before else d) (lt-ltb (len - before) d less) in
          omega (arith, e)
      | inr more ↦
          let e : size_of len d before ≡ d = ap (λ (b : Bool). if b then len - before else d) (le-ltb (len - before) d more) in
          omega (arith, e, more)
    ]

pub take_take : (n m : ℕ) (xs : List ℕ) → n ≤ m → take n (take m xs) ≡ take n xs
take_take zero m xs le = refl
take_take (suc n) zero xs le = absurd (omega (arith, le))
take_take (suc n) (suc m) [] le = refl
take_take (suc n) (suc m) (x ∷ xs) le = ap (λ (ys : List ℕ). x ∷ ys) (take_take n m xs (omega (arith, le)))

-- a part of a front is a part of the whole
pub part_of : (p n size : ℕ) (xs : List ℕ) → p + n ≤ size → take n (drop p (take size xs)) ≡ take n (drop p xs)
part_of p n size xs fits =
    let e : p + (size - p) ≡ size = omega (arith, fits) in
    ap (λ (k : ℕ). take n (drop p (take k xs))) (sym e) ∙ ap (λ (ys : List ℕ). take n ys) (drop-take p (size - p) xs)
    ∙ take_take n (size - p) (drop p xs) (omega (arith, fits))

-- a part of the memory that holds a range is a part of the file
pub part_is : (bytes file : List ℕ) (at before p n size t : ℕ) → t ≡ before + p → p + n ≤ size
    → take size bytes ≡ slice_range file (at + before) (at + before + size) → take n (drop p bytes) ≡ slice_range file (at + t) (at + t + n)
part_is bytes file at before p n size t is fits ready =
    let a : at + before + size - (at + before) ≡ size = omega arith in
    let b : at + t + n - (at + t) ≡ n = omega arith in
    let c : at + t ≡ at + before + p = omega (arith, is) in
    sym (part_of p n size bytes fits) ∙ ap (λ (xs : List ℕ). take n (drop p xs)) ready
    ∙ ap (λ (k : ℕ). take n (drop p (take k (drop (at + before) file)))) a ∙ part_of p n size (drop (at + before) file) fits
    ∙ ap (λ (xs : List ℕ). take n xs) (drop-drop p (at + before) file) ∙ ap (λ (k : ℕ). take n (drop k file)) (sym c)
    ∙ ap (λ (k : ℕ). take k (drop (at + t) file)) (sym b)

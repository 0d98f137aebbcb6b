-- Cuts, one after the other.
use Rattle.std.proofs.Common.{◌≡◌, ℕ, ◌+◌, ◌-◌, ◌*◌, ◌<◌, ◌≤◌, zero, suc, List, [], ◌∷◌, ◌++◌, sym, ap, ◌∙◌, arith, inl, inr, Bool}
use Rattle.std.specs.Prelude.{slice_range, take, drop, if◌then◌else◌}
use Rattle.std.proofs.lemmas.Bool.{cases_lt, lt-ltb, le-ltb}
use Rattle.std.proofs.lemmas.List.{append-nil, drop-drop}
use Rattle.std.proofs.Math.Seq.{take-add}
use Rattle.std.proofs.lemmas.Nat as nat
use Rattle.range_cuts.specs.Cuts.{begun, cut_at, cuts_from, size_of}
use Rattle.range_cuts.specs.Laws.{bytes_of}

-- so many cuts, and so many more
pub go_on : (at len chunk x y i k n : ℕ) → k ≡ i + x → n ≡ x + y → cuts_from at len chunk i x ++ cuts_from at len chunk k y ≡ cuts_from at len chunk i n
go_on at len chunk zero y i k n k_is n_is =
    let e : k ≡ i = omega (arith, k_is) in
    let f : y ≡ n = omega (arith, n_is) in
    ap (λ (j : ℕ). cuts_from at len chunk j y) e ∙ ap (λ (j : ℕ). cuts_from at len chunk i j) f
go_on at len chunk (suc x) y i k zero k_is n_is = absurd (omega (arith, n_is))
go_on at len chunk (suc x) y i k (suc n) k_is n_is =
    ap (λ (cs : List (ℕ × ℕ)). cut_at at len chunk i ∷ cs) (go_on at len chunk x y (i + 1) k n (omega (arith, k_is)) (omega (arith, n_is)))

-- a cut that is among those which begin below so many bytes begins there
pub begins : (chunk bytes i : ℕ) → 1 ≤ chunk → i < begun chunk bytes → i * chunk < bytes
begins chunk bytes i some below =
    let e : (i + 1) * chunk ≡ i * chunk + chunk = omega arith in
    let no : bytes ≤ i * chunk → ⊥ = λ le. (let f = nat.div_below (bytes + (chunk - 1)) chunk (i + 1) (omega (arith, some)) (omega (arith, e, some, le)) in omega (arith, f, below)) in
    omega (arith, no)

pub is_begun : (chunk bytes i : ℕ) → 1 ≤ chunk → i * chunk < bytes → i < begun chunk bytes
is_begun chunk bytes i some below =
    let e : (i + 1) * chunk ≡ i * chunk + chunk = omega arith in
    let f = nat.le-div (i + 1) (bytes + (chunk - 1)) chunk (omega (arith, some)) (omega (arith, e, some, below)) in
    omega (arith, f)

-- a greater number of bytes has no fewer cuts
pub begun_later : (chunk low high : ℕ) → 1 ≤ chunk → low ≤ high → begun chunk low ≤ begun chunk high
begun_later chunk low high some le =
    let no : begun chunk high < begun chunk low → ⊥ = λ less. (
    let a = begins chunk low (begun chunk high) some less in
    let b = is_begun chunk high (begun chunk high) some (omega (arith, a, le)) in
    omega (arith, b)
    ) in
    omega (arith, no)

-- ranges that meet
meet : (file : List ℕ) (a b c : ℕ) → a ≤ b → b ≤ c → slice_range file a b ++ slice_range file b c ≡ slice_range file a c
meet file a b c p q =
    let e : a + (b - a) ≡ b = omega (arith, p) in
    let f : (b - a) + (c - b) ≡ c - a = omega (arith, p, q) in
    let g : drop b file ≡ drop (b - a) (drop a file) = ap (λ (n : ℕ). drop n file) (sym e) ∙ sym (drop-drop (b - a) a file) in
    ap (λ (xs : List ℕ). take (b - a) (drop a file) ++ take (c - b) xs) g
    ∙ sym (take-add (b - a) (c - b) (drop a file))
    ∙ ap (λ (n : ℕ). take n (drop a file)) f

-- a range that begins past its end
past : (file : List ℕ) (a b : ℕ) → b ≤ a → slice_range file a b ≡ []
past file a b p = let e : b - a ≡ 0 = omega (arith, p) in ap (λ (n : ℕ). take n (drop a file)) e

-- a cut, and then the range behind it
next : (file : List ℕ) (at len chunk before : ℕ) → before < len → slice_range file (at + before) (at + before + size_of len chunk before) ++ slice_range file (at + (before + chunk)) (at + len) ≡ slice_range file (at + before) (at + len)
next file at len chunk before below =
    elim (cases_lt (len - before) chunk) [
      | inl less ↦
          let e : size_of len chunk before ≡ len - before = ap (λ (b : Bool). if b then len - before else chunk) (lt-ltb (len - before) chunk less) in
          let f : at + before + (len - before) ≡ at + len = omega (arith, below) in
          ap (λ (n : ℕ). slice_range file (at + before) (at + before + n) ++ slice_range file (at + (before + chunk)) (at + len)) e
          ∙ ap (λ (n : ℕ). slice_range file (at + before) n ++ slice_range file (at + (before + chunk)) (at + len)) f
          ∙ ap (λ (xs : List ℕ). slice_range file (at + before) (at + len) ++ xs) (past file (at + (before + chunk)) (at + len) (omega (arith, less)))
          ∙ append-nil (slice_range file (at + before) (at + len))
      | inr more ↦
          let e : size_of len chunk before ≡ chunk = ap (λ (b : Bool). if b then len - before else chunk) (le-ltb (len - before) chunk more) in
          let f : at + (before + chunk) ≡ at + before + chunk = omega arith in
          ap (λ (n : ℕ). slice_range file (at + before) (at + before + n) ++ slice_range file (at + (before + chunk)) (at + len)) e
          ∙ ap (λ (n : ℕ). slice_range file (at + before) (at + before + chunk) ++ slice_range file n (at + len)) f
          ∙ meet file (at + before) (at + before + chunk) (at + len) (omega arith) (omega (arith, more, below))
    ]

pub join : (at len chunk : ℕ) (file : List ℕ) → 1 ≤ chunk → (count i : ℕ) → begun chunk len ≡ i + count → bytes_of file (cuts_from at len chunk i count) ≡ slice_range file (at + i * chunk) (at + len)
join at len chunk file some zero i is =
    let end : len ≤ i * chunk = (let no : i * chunk < len → ⊥ = λ below. (let b = is_begun chunk len i some below in omega (arith, b, is)) in omega (arith, no)) in
    sym (past file (at + i * chunk) (at + len) (omega (arith, end)))
join at len chunk file some (suc count) i is =
    let below = begins chunk len i some (omega (arith, is)) in
    let more = join at len chunk file some count (i + 1) (omega (arith, is)) in
    let e : (i + 1) * chunk ≡ i * chunk + chunk = omega arith in
    ap (λ (bytes : List ℕ). slice_range file (at + i * chunk) (at + i * chunk + size_of len chunk (i * chunk)) ++ bytes) more
    ∙ ap (λ (n : ℕ). slice_range file (at + i * chunk) (at + i * chunk + size_of len chunk (i * chunk)) ++ slice_range file (at + n) (at + len)) e
    ∙ next file at len chunk (i * chunk) below

-- nothing begins below no byte
pub none_begun : (chunk : ℕ) → 1 ≤ chunk → begun chunk 0 ≡ 0
none_begun chunk some =
    let no : 0 < begun chunk 0 → ⊥ = λ more. (let a = begins chunk 0 0 some more in omega (arith, a)) in
    omega (arith, no)

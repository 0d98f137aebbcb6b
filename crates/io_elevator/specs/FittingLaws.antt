-- Deeds that fit acts: acts join, and neighbouring takes of a stream are one.
use Rattle.std.proofs.Common.{◌≡◌, ◌≢◌, ℕ, ◌+◌, ◌-◌, ◌*◌, ◌/◌, ◌<◌, ◌≤◌, zero, suc, inl, inr, Bool, true, false, List, [], ◌∷◌, length}
use Rattle.std.proofs.Common.{refl, sym, ap, ◌∙◌, subst, arith}
use Rattle.std.specs.Prelude.{◌==◌, ◌++◌, if◌then◌else◌, Ok, slice_set}
use Rattle.std.proofs.lemmas.Bool.{cases_eq, cases_lt, eq-eqb}
use Rattle.std.proofs.lemmas.List.{append_assoc, get_or-set_other, get_or-set_same, set_past}
use Rattle.std.proofs.lemmas.Nat as nat
use Rattle.outside.specs.Feed.{Taken, gave, taken_of}
use Rattle.outside.specs.Reads.{ReadEntry}
use Rattle.orc_streams.specs.Acts.{Act, read_acts, reads, take_acts, takes}
use Rattle.range_cuts.specs.Cuts.{begun, cut_at, cuts_between, cuts_from}
use Rattle.held_ranges.specs.Deeds.{Deed, Keys, swapped, swaps}
use Rattle.cut_streams.specs.declared.cursor.Cursor.{Cursor}
use Rattle.cut_streams.specs.Streams.{TakesBy, closed, moved}
use Rattle.cut_streams.specs.Visits.{got_each, held_after, key_in}
use Rattle.io_elevator.specs.Books.{Books, Fits, Suits, TakeFits, cursor_at}

pub read_acts_join : (xs ys : List ReadEntry) → read_acts (xs ++ ys) ≡ read_acts xs ++ read_acts ys
read_acts_join [] ys = refl
read_acts_join (x ∷ xs) ys = ap (λ (zs : List Act). reads x ∷ zs) (read_acts_join xs ys)

pub take_acts_join : (xs ys : List Taken) → take_acts (xs ++ ys) ≡ take_acts xs ++ take_acts ys
take_acts_join [] ys = refl
take_acts_join (x ∷ xs) ys = ap (λ (zs : List Act). takes x ∷ zs) (take_acts_join xs ys)

-- ---- cuts that are got in parts

begun_later : (d low high : ℕ) → 1 ≤ d → low ≤ high → begun d low ≤ begun d high
begun_later d low high some le =
    let n : ℕ = low + (d - 1) in
    let m : n / d * d ≤ n = omega (arith, nat.div-add-mod' n d) in
    nat.le-div (n / d) (high + (d - 1)) d (omega (arith, some)) (omega (arith, m, le))

cuts_join : (at len d x y i k n : ℕ) → k ≡ i + x → n ≡ x + y → cuts_from at len d i x ++ cuts_from at len d k y ≡ cuts_from at len d i n
cuts_join at len d zero y i k n k_is n_is =
    let e : k ≡ i = omega (arith, k_is) in
    let f : y ≡ n = omega (arith, n_is) in
    ap (λ (j : ℕ). cuts_from at len d j y) e ∙ ap (λ (j : ℕ). cuts_from at len d i j) f
cuts_join at len d (suc x) y i k zero k_is n_is = absurd (omega (arith, n_is))
cuts_join at len d (suc x) y i k (suc n) k_is n_is =
    ap (λ (cs : List (ℕ × ℕ)). cut_at at len d i ∷ cs) (cuts_join at len d x y (i + 1) k n (omega (arith, k_is)) (omega (arith, n_is)))

between_join : (at len d low mid high : ℕ) → 1 ≤ d → low ≤ mid → mid ≤ high
    → cuts_between at len d low mid ++ cuts_between at len d mid high ≡ cuts_between at len d low high
between_join at len d low mid high some a b =
    let p = begun_later d low mid some a in
    let q = begun_later d mid high some b in
    cuts_join at len d (begun d mid - begun d low) (begun d high - begun d mid) (begun d low) (begun d mid) (begun d high - begun d low)
    (omega (arith, p)) (omega (arith, p, q))

got_join : (slot file : ℕ) (xs ys : List (ℕ × ℕ)) (keys : Keys)
    → got_each slot file (xs ++ ys) keys ≡ got_each slot file xs keys ++ got_each slot file ys (held_after slot file xs keys)
got_join slot file [] ys keys = refl
got_join slot file (x ∷ xs) ys keys =
    let next : Keys = swapped slot (key_in file x) keys in
    ap (λ (ds : List Deed). swaps slot (key_in file x) keys ++ ds) (got_join slot file xs ys next)
    ∙ sym (append_assoc (swaps slot (key_in file x) keys) (got_each slot file xs next)
    (got_each slot file ys (held_after slot file xs next)))

held_join : (slot file : ℕ) (xs ys : List (ℕ × ℕ)) (keys : Keys)
    → held_after slot file (xs ++ ys) keys ≡ held_after slot file ys (held_after slot file xs keys)
held_join slot file [] ys keys = refl
held_join slot file (x ∷ xs) ys keys = held_join slot file xs ys (swapped slot (key_in file x) keys)

-- ---- two takes of a stream

-- a stream that was moved stands there; one that there isn't has no byte to move over
at_moved : (cursors : List Cursor) (stream m : ℕ) → (cursor_at cursors stream).taken + m ≤ (cursor_at cursors stream).range.len
    → cursor_at (slice_set cursors stream (moved (cursor_at cursors stream) m)) stream ≡ moved (cursor_at cursors stream) m
at_moved cursors stream m fits =
    elim (cases_lt stream (length cursors)) [
      | inl below ↦ get_or-set_same cursors stream (moved (cursor_at cursors stream) m) closed below
      | inr past ↦
          let same : slice_set cursors stream (moved (cursor_at cursors stream) m) ≡ cursors =
          set_past cursors stream (moved (cursor_at cursors stream) m) past in
          let none : cursor_at cursors stream ≡ closed = get_or_past cursors stream past in
          let fits' : closed.taken + m ≤ closed.range.len = subst (λ (c : Cursor). c.taken + m ≤ c.range.len) none fits in
          let zero_m : m ≡ 0 = omega (arith, fits') in
          ap (λ (cs : List Cursor). cursor_at cs stream) same ∙ none ∙ ap (λ (k : ℕ). moved closed k) (sym zero_m)
          ∙ ap (λ (c : Cursor). moved c m) (sym none)
    ] where
      get_or_past : (cs : List Cursor) (i : ℕ) → length cs ≤ i → cursor_at cs i ≡ closed
      get_or_past [] i le = refl
      get_or_past (c ∷ cs) zero le = absurd (omega (arith, le))
      get_or_past (c ∷ cs) (suc i) le = get_or_past cs i (omega (arith, le))

set_twice : (cs : List Cursor) (i : ℕ) (a b : Cursor) → slice_set (slice_set cs i a) i b ≡ slice_set cs i b
set_twice [] i a b = refl
set_twice (c ∷ cs) zero a b = refl
set_twice (c ∷ cs) (suc i) a b = ap (λ (xs : List Cursor). c ∷ xs) (set_twice cs i a b)

module _ (d : ℕ) (some : 1 ≤ d) where
  takes_sum : (s m n : ℕ) (c e f : Cursor) (k0 k1 k2 : Keys) (ds es : List Deed) → TakesBy d s c k0 (Ok m) e ds k1
      → TakesBy d s (moved c m) k1 (Ok n) f es k2 → TakesBy d s c k0 (Ok (m + n)) f (ds ++ es) k2
  takes_sum s m n c e f k0 k1 k2 ds es p q =
      let t : ℕ = c.taken in
      let file : ℕ = c.range.file in
      let at : ℕ = c.range.at in
      let len : ℕ = c.range.len in
      let sum : t + m + n ≡ t + (m + n) = omega arith in
      let xs : List (ℕ × ℕ) = cuts_between at len d t (t + m) in
      let ys : List (ℕ × ℕ) = cuts_between at len d (t + m) (t + m + n) in
      let all : xs ++ ys ≡ cuts_between at len d t (t + (m + n)) =
      between_join at len d t (t + m) (t + m + n) some (omega arith) (omega arith) ∙ ap (λ (k : ℕ). cuts_between at len d t k) sum in
      let mid : k1 ≡ held_after s file xs k0 = p.2 in (
        omega (arith, q.0),
        ap (λ (zs : List Deed). zs ++ es) p.1
            ∙ ap (λ (zs : List Deed). got_each s file xs k0 ++ zs) (q.1 ∙ ap (λ (ks : Keys). got_each s file ys ks) mid)
            ∙ sym (got_join s file xs ys k0) ∙ ap (λ (cs : List (ℕ × ℕ)). got_each s file cs k0) all,
        q.2 ∙ ap (λ (ks : Keys). held_after s file ys ks) mid ∙ sym (held_join s file xs ys k0)
            ∙ ap (λ (cs : List (ℕ × ℕ)). held_after s file cs k0) all,
        q.3 ∙ ap (λ (k : ℕ). record { range = c.range; taken = k }) sum,
      )

  pub fits_join : (b m e : Books) (xs ys : List Act) (ds es : List Deed) → Fits d b xs ds m → Fits d m ys es e
      → Fits d b (xs ++ ys) (ds ++ es) e
  fits_join b m e [] ys ds es f g =
      subst (λ (zs : List Deed). Fits d b ys (zs ++ es) e) (sym f.0) (subst (λ (x : Books). Fits d x ys es e) f.1 g)
  fits_join b m e (x ∷ xs) ys ds es f g = (
    f.0,
    f.1 ++ es,
    f.2,
    ap (λ (zs : List Deed). zs ++ es) f.3 ∙ append_assoc f.0 f.1 es,
    f.4,
    fits_join f.2 m e xs ys f.1 es f.5 g,
  )

  pub fits_sum : (b e : Books) (before after : List Taken) (s m n : ℕ) (ds : List Deed)
      → Fits d b (take_acts (before ++ gave s m ∷ gave s n ∷ after)) ds e → Fits d b (take_acts (before ++ gave s (m + n) ∷ after)) ds e
  fits_sum b e [] after s m n ds f =
      let c : Cursor = cursor_at b.cursors s in
      let one = f.4 in
      let g = f.5 in
      let two = g.4 in
      let mid : Books = f.2 in
      let here : cursor_at mid.cursors s ≡ moved c m =
      ap (λ (cs : List Cursor). cursor_at cs s) (one.2 ∙ ap (λ (x : Cursor). slice_set b.cursors s x) one.1.3)
      ∙ at_moved b.cursors s m one.1.0 in
      let second : TakesBy d s (moved c m) mid.keys (Ok n) two.0 g.0 (g.2).keys =
      subst (λ (x : Cursor). TakesBy d s x mid.keys (Ok n) two.0 g.0 (g.2).keys) here two.1 in (
        f.0 ++ g.0,
        g.1,
        g.2,
        f.3 ∙ ap (λ (zs : List Deed). f.0 ++ zs) g.3 ∙ sym (append_assoc f.0 g.0 g.1),
        (
          two.0,
          takes_sum s m n c one.0 two.0 b.keys mid.keys (g.2).keys f.0 g.0 one.1 second,
          two.2 ∙ ap (λ (cs : List Cursor). slice_set cs s two.0) one.2 ∙ set_twice b.cursors s one.0 two.0,
        ),
        g.5,
      )
  fits_sum b e (x ∷ before) after s m n ds f = (f.0, f.1, f.2, f.3, f.4, fits_sum f.2 e before after s m n f.1 f.5)

  pub reads_keep : (b e : Books) (es : List ReadEntry) (ds : List Deed) → Fits d b (read_acts es) ds e → e.cursors ≡ b.cursors
  reads_keep b e [] ds f = ap (λ (x : Books). x.cursors) f.1
  reads_keep b e (x ∷ es) ds f = reads_keep f.2 e es f.1 f.5 ∙ f.4.1

  -- ---- how far each stream was moved

  took : (t : Taken) (b e : Books) (ds : List Deed) → Suits d (takes t) b ds e
      → (cursor_at e.cursors t.stream ≡ moved (cursor_at b.cursors t.stream) t.len)
      × ((cursor_at b.cursors t.stream).taken + t.len ≤ (cursor_at b.cursors t.stream).range.len)
      × (e.cursors ≡ slice_set b.cursors t.stream (moved (cursor_at b.cursors t.stream) t.len))
  took t b e ds f = go t.ok refl f.1 where
    c : Cursor
    c = cursor_at b.cursors t.stream

    end : (fits : c.taken + t.len ≤ c.range.len) (is : f.0 ≡ moved c t.len)
        → (cursor_at e.cursors t.stream ≡ moved c t.len) × (c.taken + t.len ≤ c.range.len)
        × (e.cursors ≡ slice_set b.cursors t.stream (moved c t.len))
    end fits is =
        let all : e.cursors ≡ slice_set b.cursors t.stream (moved c t.len) = f.2 ∙ ap (λ (x : Cursor). slice_set b.cursors t.stream x) is in
        (ap (λ (cs : List Cursor). cursor_at cs t.stream) all ∙ at_moved b.cursors t.stream t.len fits, fits, all)

    go : (ok : Bool) → t.ok ≡ ok → TakeFits d ok t.stream t.len c b.keys f.0 ds e.keys
        → (cursor_at e.cursors t.stream ≡ moved c t.len) × (c.taken + t.len ≤ c.range.len)
        × (e.cursors ≡ slice_set b.cursors t.stream (moved c t.len))
    go true is g = end g.0 g.3
    go false is g =
        let none : t.len ≡ 0 = g.0 in
        let more : c.taken < c.range.len = g.1.1.0 in
        let zero_more : c.taken ≡ c.taken + t.len = omega (arith, none) in
        end (omega (arith, none, more)) (g.1.1.3 ∙ ap (λ (k : ℕ). record { range = c.range; taken = k }) zero_more)

  -- a stream was moved over what was taken of it, which its range has
  pub fits_moved : (b e : Books) (ts : List Taken) (ds : List Deed) (s : ℕ) → Fits d b (take_acts ts) ds e
      → (cursor_at e.cursors s ≡ moved (cursor_at b.cursors s) (taken_of s ts))
      × (0 < taken_of s ts → (cursor_at b.cursors s).taken + taken_of s ts ≤ (cursor_at b.cursors s).range.len)
  fits_moved b e [] ds s f =
      let c : Cursor = cursor_at b.cursors s in
      let same : c.taken ≡ c.taken + 0 = omega arith in (
        ap (λ (x : Books). cursor_at x.cursors s) f.1 ∙ ap (λ (k : ℕ). record { range = c.range; taken = k }) same,
        λ more. absurd (omega (arith, more)),
      )
  fits_moved b e (t ∷ ts) ds s f =
      let mid : Books = f.2 in
      let one = took t b mid f.0 f.4 in
      let rest = fits_moved mid e ts f.1 s f.5 in
      elim (cases_eq t.stream s) [
        | inl same ↦ here same one rest
        | inr apart ↦ elsewhere apart one rest
      ] where
        c : Cursor
        c = cursor_at b.cursors s

        k : ℕ
        k = taken_of s ts

        here : t.stream ≡ s
            → (cursor_at (f.2).cursors t.stream ≡ moved (cursor_at b.cursors t.stream) t.len)
            × ((cursor_at b.cursors t.stream).taken + t.len ≤ (cursor_at b.cursors t.stream).range.len)
            × ((f.2).cursors ≡ slice_set b.cursors t.stream (moved (cursor_at b.cursors t.stream) t.len))
            → (cursor_at e.cursors s ≡ moved (cursor_at (f.2).cursors s) k)
            × (0 < k → (cursor_at (f.2).cursors s).taken + k ≤ (cursor_at (f.2).cursors s).range.len)
            → (cursor_at e.cursors s ≡ moved c ((if t.stream == s then t.len else 0) + k))
            × (0 < (if t.stream == s then t.len else 0) + k → c.taken + ((if t.stream == s then t.len else 0) + k) ≤ c.range.len)
        here same one rest =
            let yes : (if t.stream == s then t.len else 0) ≡ t.len = ap (λ (v : Bool). if v then t.len else 0) (eq-eqb t.stream s same) in
            let at : cursor_at (f.2).cursors s ≡ moved c t.len =
            subst (λ (i : ℕ). cursor_at (f.2).cursors i ≡ moved (cursor_at b.cursors i) t.len) same one.0 in
            let fits : c.taken + t.len ≤ c.range.len =
            subst (λ (i : ℕ). (cursor_at b.cursors i).taken + t.len ≤ (cursor_at b.cursors i).range.len) same one.1 in
            let sum : c.taken + t.len + k ≡ c.taken + (t.len + k) = omega arith in
            let P : ℕ → Type 0 = λ n. (cursor_at e.cursors s ≡ moved c (n + k)) × (0 < n + k → c.taken + (n + k) ≤ c.range.len) in
            subst P (sym yes) (
              rest.0 ∙ ap (λ (x : Cursor). moved x k) at ∙ ap (λ (n : ℕ). record { range = c.range; taken = n }) sum,
              λ more. elim (cases_lt 0 k) [
                | inl some ↦
                    let after : c.taken + t.len + k ≤ c.range.len = subst (λ (x : Cursor). x.taken + k ≤ x.range.len) at (rest.1 some) in
                    omega (arith, after)
                | inr none ↦ omega (arith, fits, none)
              ],
            )

        elsewhere : t.stream ≢ s
            → (cursor_at (f.2).cursors t.stream ≡ moved (cursor_at b.cursors t.stream) t.len)
            × ((cursor_at b.cursors t.stream).taken + t.len ≤ (cursor_at b.cursors t.stream).range.len)
            × ((f.2).cursors ≡ slice_set b.cursors t.stream (moved (cursor_at b.cursors t.stream) t.len))
            → (cursor_at e.cursors s ≡ moved (cursor_at (f.2).cursors s) k)
            × (0 < k → (cursor_at (f.2).cursors s).taken + k ≤ (cursor_at (f.2).cursors s).range.len)
            → (cursor_at e.cursors s ≡ moved c ((if t.stream == s then t.len else 0) + k))
            × (0 < (if t.stream == s then t.len else 0) + k → c.taken + ((if t.stream == s then t.len else 0) + k) ≤ c.range.len)
        elsewhere apart one rest =
            let no_eq : (t.stream == s) ≡ false = grind (arith) in
            let zero_is : (if t.stream == s then t.len else 0) ≡ 0 = ap (λ (v : Bool). if v then t.len else 0) no_eq in
            let at : cursor_at (f.2).cursors s ≡ c =
            ap (λ (cs : List Cursor). cursor_at cs s) one.2
            ∙ get_or-set_other b.cursors t.stream s (moved (cursor_at b.cursors t.stream) t.len) closed (λ q. apart (sym q)) in
            let P : ℕ → Type 0 = λ n. (cursor_at e.cursors s ≡ moved c (n + k)) × (0 < n + k → c.taken + (n + k) ≤ c.range.len) in
            let plain : 0 + k ≡ k = omega arith in
            let Q : ℕ → Type 0 = λ n. (cursor_at e.cursors s ≡ moved c n) × (0 < n → c.taken + n ≤ c.range.len) in
            subst P (sym zero_is) (subst Q (sym plain) (
              rest.0 ∙ ap (λ (x : Cursor). moved x k) at,
              λ more. subst (λ (x : Cursor). x.taken + k ≤ x.range.len) at (rest.1 more),
            ))

-- A slice of a feed is replaced by its rest.
use Rattle.std.proofs.Common.{◌≡◌, ◌≢◌, ℕ, suc, zero, ◌+◌, ◌<◌, ◌≤◌, Bool, true, false, cond, eqb, List, [], ◌∷◌, length, drop, get_or, set, Some, Bor, refl, sym, ap, subst, arith, inl, inr}
use Rattle.std.proofs.lemmas.List.{map-set, length-map, get_or-set_same, get_or-set_other}
use Rattle.std.proofs.lemmas.Bool.{cases_eq, eq-eqb}
use Rattle.outside.specs.Feed.{Lost}
use Rattle.outside.specs.FeedLaws.{Lost-nothing}
use Rattle.outside.specs.SliceFeed.{bytes_of}

-- what an index reads of the bytes
pub bytes_of-get_or : (slices : List (Bor (List ℕ))) (i : ℕ) (slice d : Bor (List ℕ)) (e : List ℕ) → i < length slices → slice ≡ get_or slices i d → get_or (bytes_of slices) i e ≡ slice.now
bytes_of-get_or [] i slice d e h is = absurd (omega arith)
bytes_of-get_or (x ∷ xs) zero slice d e h is = ap (λ (y : Bor (List ℕ)). y.now) (sym is)
bytes_of-get_or (x ∷ xs) (suc i) slice d e h is = bytes_of-get_or xs i slice d e (omega arith) is

lost_at : (test : Bool) (n : ℕ) (whole : List ℕ) → test ≡ true → n ≤ length whole → Lost (cond test n 0 + 0) (Some whole) (Some (drop n whole))
lost_at true n whole e h = let k : n + 0 ≡ n = omega arith in rw k (h, refl)
lost_at false n whole e h = absurd cc

lost_elsewhere : (test : Bool) (n : ℕ) (whole : List ℕ) → test ≡ false → Lost (cond test n 0 + 0) (Some whole) (Some whole)
lost_elsewhere true n whole e = absurd cc
lost_elsewhere false n whole e = Lost-nothing (Some whole)

not_eqb : (a b : ℕ) → (a ≡ b → ⊥) → eqb a b ≡ false
not_eqb a b h = grind (arith)

module _ (slices : List (Bor (List ℕ))) (i n : ℕ) (rest : Bor (List ℕ)) (h : i < length slices) where
  pub replaced : get_or (bytes_of (set slices i rest)) i [] ≡ rest.now
  replaced =
      let k : i < length (bytes_of slices) = omega (arith, length-map slices (λ (y : Bor (List ℕ)). y.now)) in
      rw map-set (get_or-set_same (bytes_of slices) i rest.now [] k)

  pub left_elsewhere : (other : ℕ) → other ≢ i → get_or (bytes_of (set slices i rest)) other [] ≡ get_or (bytes_of slices) other []
  left_elsewhere other ne = rw map-set (get_or-set_other (bytes_of slices) i other rest.now [] ne)

  pub others_stay : (whole : List ℕ) → get_or (bytes_of slices) i [] ≡ whole → n ≤ length whole → rest.now ≡ drop n whole → (other : ℕ) → Lost (cond (eqb i other) n 0 + 0) (Some (get_or (bytes_of slices) other [])) (Some (get_or (bytes_of (set slices i rest)) other []))
  others_stay whole here fits is other =
      elim (cases_eq i other) [
        | inl same ↦
            let P : ℕ → Type 0 = λ o. Lost (cond (eqb i o) n 0 + 0) (Some (get_or (bytes_of slices) o [])) (Some (get_or (bytes_of (set slices i rest)) o [])) in
            subst P same (rw (replaced, is, here) (lost_at (eqb i i) n whole (eq-eqb i i refl) fits))
        | inr ne ↦
            let no : eqb i other ≡ false = not_eqb i other ne in
            let ne' : other ≢ i = λ e. ne (sym e) in
            rw (left_elsewhere other ne') (lost_elsewhere (eqb i other) n (get_or (bytes_of slices) other []) no)
      ]

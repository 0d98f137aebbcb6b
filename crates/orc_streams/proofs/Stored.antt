-- A stream in memory is replaced, or one without bytes is added.
use Rattle.std.proofs.Common.{◌≡◌, ◌≢◌, ℕ, suc, zero, ◌+◌, ◌<◌, ◌≤◌, Bool, true, false, cond, eqb, List, [], ◌∷◌, ◌++◌, length, take, drop, get_or, set, Some, refl, sym, ap, subst, arith, inl, inr}
use Rattle.std.proofs.lemmas.List.{map-set, length-map, get_or-set_same, get_or-set_other, take-append-drop}
use Rattle.std.proofs.lemmas.Bool.{cases_eq, eq-eqb}
use Rattle.outside.specs.Feed.{Lost}
use Rattle.outside.specs.FeedLaws.{Lost-nothing}
use Rattle.orc_streams.specs.declared.stored_streams.StoredStream.{StoredStream}
use Rattle.orc_streams.specs.StoredStreams.{left_of, rests}

pub rests-get_or : (streams : List StoredStream) (i : ℕ) (stream d : StoredStream) (e : List ℕ) → i < length streams → stream ≡ get_or streams i d
    → get_or (rests streams) i e ≡ left_of stream
rests-get_or [] i stream d e h is = absurd (omega arith)
rests-get_or (x ∷ xs) zero stream d e h is = ap left_of (sym is)
rests-get_or (x ∷ xs) (suc i) stream d e h is = rests-get_or xs i stream d e (omega arith) is

-- a stream without bytes is as one that isn't there
pub added : (streams : List StoredStream) (w : StoredStream) (i : ℕ) → left_of w ≡ [] → get_or (rests (streams ++ w ∷ [])) i [] ≡ get_or (rests streams) i []
added [] w zero e = e
added [] w (suc i) e = refl
added (x ∷ xs) w zero e = refl
added (x ∷ xs) w (suc i) e = added xs w i e

lost_at : (test : Bool) (n : ℕ) (whole : List ℕ) → test ≡ true → n ≤ length whole → Lost (cond test n 0 + 0) (Some whole) (Some (drop n whole))
lost_at true n whole e h = let k : n + 0 ≡ n = omega arith in rw k (h, refl)
lost_at false n whole e h = absurd cc

lost_elsewhere : (test : Bool) (n : ℕ) (whole : List ℕ) → test ≡ false → Lost (cond test n 0 + 0) (Some whole) (Some whole)
lost_elsewhere true n whole e = absurd cc
lost_elsewhere false n whole e = Lost-nothing (Some whole)

not_eqb : (a b : ℕ) → (a ≡ b → ⊥) → eqb a b ≡ false
not_eqb a b h = grind (arith)

module _ (streams : List StoredStream) (i n : ℕ) (w : StoredStream) (h : i < length streams) where
  pub replaced : get_or (rests (set streams i w)) i [] ≡ left_of w
  replaced =
      let k : i < length (rests streams) = omega (arith, length-map streams left_of) in
      rw (map-set left_of streams i w) (get_or-set_same (rests streams) i (left_of w) [] k)

  pub left_elsewhere : (other : ℕ) → other ≢ i → get_or (rests (set streams i w)) other [] ≡ get_or (rests streams) other []
  left_elsewhere other ne = rw (map-set left_of streams i w) (get_or-set_other (rests streams) i other (left_of w) [] ne)

  pub others_stay : (whole : List ℕ) → get_or (rests streams) i [] ≡ whole → n ≤ length whole → left_of w ≡ drop n whole → (other : ℕ)
      → Lost (cond (eqb i other) n 0 + 0) (Some (get_or (rests streams) other [])) (Some (get_or (rests (set streams i w)) other []))
  others_stay whole here fits is other =
      elim (cases_eq i other) [
        | inl same ↦
            let P : ℕ → Type 0 = λ o. Lost (cond (eqb i o) n 0 + 0) (Some (get_or (rests streams) o [])) (Some (get_or (rests (set streams i w)) o [])) in
            subst P same (rw (replaced, is, here) (lost_at (eqb i i) n whole (eq-eqb i i refl) fits))
        | inr ne ↦
            let apart : eqb i other ≡ false = not_eqb i other ne in
            let ne' : other ≢ i = λ e. ne (sym e) in
            rw (left_elsewhere other ne') (lost_elsewhere (eqb i other) n (get_or (rests streams) other []) apart)
      ]

-- what was taken, and what is left
pub taken_and_left : (whole rest front : List ℕ) (n : ℕ) → front ≡ take n whole → rest ≡ drop n whole → whole ≡ front ++ rest
taken_and_left whole rest front n f r = rw (f, r) (sym (take-append-drop n whole))

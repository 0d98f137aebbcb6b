-- What a stream of runs spells, by the bound of one run.
use Rattle.std.proofs.Common.{◌≡◌, ℕ, ◌*◌, ◌<◌, ◌≤◌, List, [], ◌∷◌, ◌++◌, length, subst, arith, length-append}
use Rattle.std.proofs.lemmas.List.Elements.{All-nil, All-cons, All-head, All-tail}
use Rattle.outside.specs.Runs.{Joined, none, one, Fewest, no_run, runs, Spells}
use Rattle.row_bounds.specs.Bounds.{AreBytes, most_rows_a_byte}

pub front_bytes : (front back : List ℕ) → AreBytes (front ++ back) → AreBytes front
front_bytes [] back are = All-nil (λ (b : ℕ). b < 256)
front_bytes (byte ∷ front) back are =
    All-cons (λ (b : ℕ). b < 256) byte front (All-head (λ (b : ℕ). b < 256) byte (front ++ back) are)
    (front_bytes front back (All-tail (λ (b : ℕ). b < 256) byte (front ++ back) are))

pub back_bytes : (front back : List ℕ) → AreBytes (front ++ back) → AreBytes back
back_bytes [] back are = are
back_bytes (byte ∷ front) back are = back_bytes front back (All-tail (λ (b : ℕ). b < 256) byte (front ++ back) are)

-- every run has at most so many values for each of its bytes
abbrev pub IsBounded : {V : Type 0} → (List ℕ → List V → Type 0) → Type 0
IsBounded {V} Run = (bytes : List ℕ) (values : List V) → AreBytes bytes → Run bytes values → length values ≤ most_rows_a_byte * length bytes

module _ {V : Type 0} (Run : List ℕ → List V → Type 0) (bounded : IsBounded Run) where
  joined_bounded : (bytes : List ℕ) (values : List V) → AreBytes bytes → Joined Run bytes values → length values ≤ most_rows_a_byte * length bytes
  joined_bounded _ _ are none = omega arith
  joined_bounded _ _ are (one {bytes = bytes} {more = more} {values = values} {others = others} run rest) =
      let first = bounded bytes values (front_bytes bytes more are) run in
      let then = joined_bounded more others (back_bytes bytes more are) rest in
      omega (arith, first, then, length-append bytes more, length-append values others)

  fewest_bounded : (count : ℕ) (bytes : List ℕ) (values : List V) → AreBytes bytes → Fewest Run count bytes values → length values ≤ most_rows_a_byte * length bytes
  fewest_bounded _ _ _ are no_run = omega arith
  fewest_bounded _ _ _ are (runs {front = front} {last = last} {before = before} {values = values} joined fewer run enough) =
      let first = joined_bounded front before (front_bytes front last are) joined in
      let then = bounded last values (back_bytes front last are) run in
      omega (arith, first, then, length-append front last, length-append before values)

  pub spelled_bounded : (stream : List ℕ) (values : List V) (rest : List ℕ) → AreBytes stream → Spells Run stream values rest → length values ≤ most_rows_a_byte * length stream
  spelled_bounded stream values rest are (held, at) =
      let whole : AreBytes (at.used ++ rest) = subst AreBytes at.parts are in
      let few = fewest_bounded (length values) at.used (values ++ held) (front_bytes at.used rest whole) at.fewest in
      let len : length stream ≡ length (at.used ++ rest) = subst (λ (l : List ℕ). length stream ≡ length l) at.parts (omega arith) in
      omega (arith, few, len, length-append at.used rest, length-append values held)
